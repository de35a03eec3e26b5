use Rattle.std.proofs.Common.{Option, Ok, subst}
use Rattle.split_finish.proofs.Imports.{TurnedOrReady, FinishStep}
use Rattle.split_finish.proofs.Stepping.{turns_after}
use Rattle.split_finish.proofs.finish.FinishOp.grow_over.Goals as goal

pub returns-in-Ok-Some-clause-all : goal.returns-in-Ok-Some-clause-all
returns-in-Ok-Some-clause-all g c =
    let st = g.S.PageStore.state c.args.store.now in
    turns_after g.S.PageStore c.args.self.now c.turn_at_root.new.self c.args.store.now (Ok c.in-Ok-Some.step) c.turn_at_root.ensures.session tt
    (λ honest. subst (λ (o : Option FinishStep). TurnedOrReady st c.args.self.now c.turn_at_root.new.self (Ok o)) c.in-Ok-Some.field-0-is
    (c.in-Ok-Some.ensures.turn st (c.requires.read_meta.found honest) (c.requires.read.found honest)))
