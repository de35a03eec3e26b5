use Rattle.std.proofs.Common.{◌≡◌, ◌≢◌, ◌+◌, ◌≤◌, ℕ, None, length}
use Rattle.whole_calls.proofs.Imports.{Continues, RunsOn, slot_of, OthersStay, here, CallIsRun, IsMadeOf, HasReached}
use Rattle.whole_calls.specs.Parts.{StepsGoOn}
use Rattle.whole_calls.proofs.parts.take_steps.Given as goal

abbrev pub invariant-loop-left : goal.invariant-loop-left
invariant-loop-left g l = record {
  steps : Continues g.S.PageStore.follows l.fn.store l.store;
  sessions : length l.calls.slots.items ≡ length l.fn.calls.slots.items;
  others : OthersStay l.session l.fn.calls.slots.items l.calls.slots.items;
  goes : CallIsRun g.S.PageStore l.session (HasReached g.S.PageStore l.session) None (here g.T.DeadRows l.fn.store l.fn.calls l.sets) (here g.T.DeadRows l.store l.calls l.sets);
  runs_on : RunsOn (slot_of l.fn.calls.slots.items l.session) (slot_of l.calls.slots.items l.session);
  lasts : slot_of l.fn.calls.slots.items l.session ≢ None → slot_of l.calls.slots.items l.session ≢ None;
  made : IsMadeOf g.S.PageStore l.session l.least_room (λ answers. (gone : ℕ) × (gone + l.left ≡ l.count) × StepsGoOn gone answers)
      (here g.T.DeadRows l.fn.store l.fn.calls l.sets) (here g.T.DeadRows l.store l.calls l.sets);
  fewer : l.left ≤ l.count;
  idle : l.left ≡ l.count → (l.store ≡ l.fn.store) × (l.calls ≡ l.fn.calls);
}

abbrev pub decreases-loop-left : goal.decreases-loop-left
decreases-loop-left g l = l.left
