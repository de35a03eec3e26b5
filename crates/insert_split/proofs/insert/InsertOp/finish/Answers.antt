use Rattle.std.proofs.Common.{Result, Ok, ap, subst, ◌∙◌}
use Rattle.insert_split.proofs.Imports.{Fault, FinishSteps}
use Rattle.split_finish.specs.declared.finish.FinishStep.{FinishStep}
use Rattle.insert_split.proofs.Ending.{finish_goes, finish_done, finish_refused, refused_rightly, has_splits}
use Rattle.insert_split.proofs.insert.InsertOp.finish.Goals as goal

pub returns-in-Ok-Done-clause-all : goal.returns-in-Ok-Done-clause-all
returns-in-Ok-Done-clause-all g c =
    finish_done g.S.PageStore c.args.self.now c.go_on.new.self c.in-Finishing.op c.step.new.self c.go_on.result c.args.store.now c.step.new.store c.in-Finishing.is c.requires.alive
    (subst (λ (r : Result FinishStep Fault). FinishSteps g.S.PageStore c.in-Finishing.op c.step.new.self c.args.store.now c.step.new.store r)
    (c.in-Ok-Done.is ∙ ap (λ (s : FinishStep). let k : Result FinishStep Fault = Ok s in k) c.in-Ok-Done.field-0-is) c.step.ensures.all)
    c.go_on.ensures

pub returns-in-Err-clause-all : goal.returns-in-Err-clause-all
returns-in-Err-clause-all g c =
    finish_refused g.S.PageStore c.args.self.now c.in-Finishing.op c.step.new.self c.in-Err.fault c.leave.result c.args.store.now c.step.new.store c.in-Finishing.is c.requires.alive
    (subst (λ (r : Result FinishStep Fault). FinishSteps g.S.PageStore c.in-Finishing.op c.step.new.self c.args.store.now c.step.new.store r) c.in-Err.is c.step.ensures.all)
    c.leave.ensures

pub returns-in-Ok-Going-clause-all : goal.returns-in-Ok-Going-clause-all
returns-in-Ok-Going-clause-all g c =
    finish_goes g.S.PageStore c.args.self.now c.in-Finishing.op c.step.new.self c.args.store.now c.step.new.store c.in-Finishing.is c.requires.alive
    (subst (λ (r : Result FinishStep Fault). FinishSteps g.S.PageStore c.in-Finishing.op c.step.new.self c.args.store.now c.step.new.store r)
    (c.in-Ok-Going.is ∙ ap (λ (s : FinishStep). let k : Result FinishStep Fault = Ok s in k) c.in-Ok-Going.field-0-is) c.step.ensures.all)

pub returns-in-Err-clause-logged : goal.returns-in-Err-clause-logged
returns-in-Err-clause-logged g c = refused_rightly c.args.self.now.added c.in-Err.fault c.leave.result c.leave.ensures

-- there is something to finish
pub returns-in_default : goal.returns-in_default
returns-in_default g c = absurd (has_splits c.args.self.now.at c.requires.at c.in_default.not-Finishing)
