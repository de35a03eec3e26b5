use Rattle.std.specs.Prelude.{map}
use Rattle.schedule.proofs.Moving.{end_event}
use Rattle.schedule.proofs.one_event.one.Goals as goal

pub returns-in-End-clause-makes : goal.returns-in-End-clause-makes
returns-in-End-clause-makes g c =
    let laws = g.met.S.PageStore.laws in
    rw c.in-End.is (end_event g.S.PageStore laws _ _ (c.end.ensures.steps _ (laws.follows_same _)) c.args.calls.now c.end.new.self
    (map g.T.DeadRows.is_in c.args.sets.now) _ _ c.end.ensures.idle c.end.ensures.changes)

pub returns-in-Force-clause-makes : goal.returns-in-Force-clause-makes
returns-in-Force-clause-makes g c = rw c.in-Force.is (c.force.ensures.makes c.args.calls.now.slots.items (map g.T.DeadRows.is_in c.args.sets.now))

pub returns-in-Flush-clause-makes : goal.returns-in-Flush-clause-makes
returns-in-Flush-clause-makes g c = rw c.in-Flush.is (c.flush.ensures.makes c.args.calls.now.slots.items (map g.T.DeadRows.is_in c.args.sets.now))

pub returns-in-Checkpoint-clause-makes : goal.returns-in-Checkpoint-clause-makes
returns-in-Checkpoint-clause-makes g c = rw c.in-Checkpoint.is (c.checkpoint.ensures.makes c.args.calls.now.slots.items (map g.T.DeadRows.is_in c.args.sets.now))
