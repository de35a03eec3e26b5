use Rattle.std.specs.Prelude.{map}
use Rattle.schedule.proofs.Moving.{next_event}
use Rattle.schedule.proofs.one_event.next.Goals as goal

pub returns-clause-makes : goal.returns-clause-makes
returns-clause-makes g c =
    next_event g.S.PageStore g.met.S.PageStore.laws c.args.store.now c.args.calls.now c.next.new.self (map g.T.DeadRows.is_in c.args.sets.now) _ _ c.next.ensures.idle c.next.ensures.changes
