use Rattle.std.proofs.Common.{◌≡◌, ◌≢◌, ◌+◌, ◌≤◌, true, None, length}
use Rattle.whole_calls.proofs.Imports.{Continues, work_in, RunsOn, slot_of, OthersStay, here, CallIsRun, IsMadeOf, ScanGivesNothing}
use Rattle.whole_calls.proofs.giving.seek.Given as goal

abbrev pub invariant-loop-left : goal.invariant-loop-left
invariant-loop-left g l = record {
  steps : Continues g.S.PageStore.follows l.fn.store l.store;
  sessions : length l.calls.slots.items ≡ length l.fn.calls.slots.items;
  others : OthersStay l.session l.fn.calls.slots.items l.calls.slots.items;
  runs_on : RunsOn (slot_of l.fn.calls.slots.items l.session) (slot_of l.calls.slots.items l.session);
  lasts : slot_of l.fn.calls.slots.items l.session ≢ None → slot_of l.calls.slots.items l.session ≢ None;
  goes : CallIsRun g.S.PageStore l.session (ScanGivesNothing g.S.PageStore l.session) None (here g.T.DeadRows l.fn.store l.fn.calls l.sets) (here g.T.DeadRows l.store l.calls l.sets);
  made : IsMadeOf g.S.PageStore l.session l.least_room (λ answers. 18446744073709551615 ≤ l.left + length answers)
      (here g.T.DeadRows l.fn.store l.fn.calls l.sets) (here g.T.DeadRows l.store l.calls l.sets);
  budget : (g.S.PageStore.backing l.store).honest ≡ true
      → 18446744073709551615 + work_in (g.S.PageStore.state l.store) (slot_of l.calls.slots.items l.session) ≤ l.left + work_in
      (g.S.PageStore.state l.fn.store) (slot_of l.fn.calls.slots.items l.session);
  fewer : l.left ≤ 18446744073709551615;
}

abbrev pub decreases-loop-left : goal.decreases-loop-left
decreases-loop-left g l = l.left
