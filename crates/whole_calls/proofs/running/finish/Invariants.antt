use Rattle.std.proofs.Common.{◌≡◌, ◌+◌, ◌≤◌, None, length}
use Rattle.whole_calls.proofs.Imports.{Continues, RunsOn, slot_of, OthersStay, ForEachHistory, here, CallIsRun, IsMadeOf, steps_left, HasReached}
use Rattle.whole_calls.proofs.running.finish.Given as goal

abbrev pub invariant-loop-left : goal.invariant-loop-left
invariant-loop-left g l = record {
  steps : Continues g.S.PageStore.follows l.fn.store l.store;
  sessions : length l.calls.slots.items ≡ length l.fn.calls.slots.items;
  others : OthersStay l.session l.fn.calls.slots.items l.calls.slots.items;
  format : (g.S.PageStore.state l.store).format ≡ (g.S.PageStore.state l.fn.store).format;
  goes : CallIsRun g.S.PageStore l.session (HasReached g.S.PageStore l.session) None (here g.T.DeadRows l.fn.store l.fn.calls l.sets) (here g.T.DeadRows l.store l.calls l.sets);
  runs_on : RunsOn (slot_of l.fn.calls.slots.items l.session) (slot_of l.calls.slots.items l.session);
  made : IsMadeOf g.S.PageStore l.session l.least_room (λ answers. 18446744073709551615 ≤ l.left + length answers)
      (here g.T.DeadRows l.fn.store l.fn.calls l.sets) (here g.T.DeadRows l.store l.calls l.sets);
  budget : (g.S.PageStore.state l.fn.store).format.pages ≤ 65536
      → ForEachHistory g.S.PageStore (here g.T.DeadRows l.fn.store l.fn.calls l.sets) (here g.T.DeadRows l.store l.calls l.sets) (λ start history calls.
      18446744073709551615 + steps_left (g.S.PageStore.state l.store) (slot_of l.calls.slots.items l.session) ≤ l.left + steps_left
      (g.S.PageStore.state l.fn.store) (slot_of l.fn.calls.slots.items l.session));
}

abbrev pub decreases-loop-left : goal.decreases-loop-left
decreases-loop-left g l = l.left
