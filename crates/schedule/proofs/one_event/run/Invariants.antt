use Rattle.std.proofs.Common.{◌≡◌, ◌+◌, ◌≤◌, length, take}
use Rattle.std.specs.Vec.{vec_capacity}
use Rattle.schedule.specs.Sessions.{here}
use Rattle.schedule.proofs.Imports.{Continues, EachAlways, answers_after, ForEachHistory, Runs}
use Rattle.schedule.proofs.one_event.run.Given as goal

abbrev pub invariant-loop-event : goal.invariant-loop-event
invariant-loop-event g l = record {
  room : length l.initial.answers.items + length l.events ≤ vec_capacity l.answers;
  each : length l.answers.items ≡ length l.initial.answers.items + l.event-index;
  kept : take (length l.initial.answers.items) l.answers.items ≡ l.initial.answers.items;
  steps : Continues g.S.PageStore.follows l.fn.store l.store;
  sessions : length l.calls.slots.items ≡ length l.fn.calls.slots.items;
  always : EachAlways g.S.PageStore (take l.event-index l.events) (answers_after l.initial.answers.items l.answers.items)
      (here g.T.DeadRows l.fn.store l.fn.calls l.sets) (here g.T.DeadRows l.store l.calls l.sets);
  runs : ForEachHistory g.S.PageStore (here g.T.DeadRows l.fn.store l.fn.calls l.sets) (here g.T.DeadRows l.store l.calls l.sets)
      (Runs g.S.PageStore (here g.T.DeadRows l.fn.store l.fn.calls l.sets) (here g.T.DeadRows l.store l.calls l.sets)
      (take l.event-index l.events) (answers_after l.initial.answers.items l.answers.items));
}
