use Rattle.std.specs.Prelude.{map}
use Rattle.schedule.proofs.Moving.{begin_event}
use Rattle.schedule.proofs.one_event.begin.Goals as goal

pub returns-clause-makes : goal.returns-clause-makes
returns-clause-makes g c =
    let laws = g.met.S.PageStore.laws in
    begin_event g.S.PageStore laws _ _ (c.begin.ensures.steps _ (laws.follows_same _)) c.args.calls.now c.begin.new.self
    (map g.T.DeadRows.is_in c.args.sets.now) _ _ _ c.begin.ensures.not_begun c.begin.ensures.changes
