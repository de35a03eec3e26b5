use Rattle.std.specs.Prelude.{map}
use Rattle.schedule.proofs.Moving.{step_event}
use Rattle.schedule.proofs.one_event.step.Goals as goal

pub returns-clause-makes : goal.returns-clause-makes
returns-clause-makes g c =
    let laws = g.met.S.PageStore.laws in
    step_event g.S.PageStore laws _ _ (c.step.ensures.steps _ (laws.follows_same _)) c.args.calls.now c.step.new.self
    (map g.T.DeadRows.is_in c.args.sets.now) _ _ c.step.ensures.idle c.step.ensures.changes
