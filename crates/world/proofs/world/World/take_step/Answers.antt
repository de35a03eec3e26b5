use Rattle.std.proofs.Common.{List, None, subst}
use Rattle.schedule.specs.Sessions.{here}
use Rattle.whole_calls.specs.Going.{CallIsRun}
use Rattle.whole_calls.specs.Made.{IsMadeOf}
use Rattle.whole_calls.specs.OneStep.{OneStepAlways, OneStepComesTo, OneStepIsRun}
use Rattle.world.proofs.world.World.take_step.Goals as goal

pub returns-clause-goes : goal.returns-clause-goes
returns-clause-goes g c =
    let rows = g.T.DeadRows in
    let old = c.args.self.now in
    let answer = c.take_step.result in
    subst (λ (ts : List g.row.T.Denot). CallIsRun g.S.PageStore c.args.session (OneStepIsRun g.S.PageStore c.args.session c.args.least_room answer) None
    (here rows old.store old.calls ts) (here rows c.take_step.new.store c.take_step.new.calls ts)) c.deref.ensures.value c.take_step.ensures.goes

pub returns-clause-made : goal.returns-clause-made
returns-clause-made g c =
    let rows = g.T.DeadRows in
    let old = c.args.self.now in
    let answer = c.take_step.result in
    subst (λ (ts : List g.row.T.Denot). IsMadeOf g.S.PageStore c.args.session c.args.least_room (OneStepComesTo answer)
    (here rows old.store old.calls ts) (here rows c.take_step.new.store c.take_step.new.calls ts)) c.deref.ensures.value c.take_step.ensures.made

pub returns-clause-always : goal.returns-clause-always
returns-clause-always g c =
    let rows = g.T.DeadRows in
    let old = c.args.self.now in
    let answer = c.take_step.result in
    subst (λ (ts : List g.row.T.Denot). OneStepAlways g.S.PageStore c.args.session answer
    (here rows old.store old.calls ts) (here rows c.take_step.new.store c.take_step.new.calls ts)) c.deref.ensures.value c.take_step.ensures.always
