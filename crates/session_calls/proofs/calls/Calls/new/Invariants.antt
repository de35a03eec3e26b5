use Rattle.std.proofs.Common.{◌≡◌, ◌≤◌, None, replicate}
use Rattle.std.specs.Vec.{vec_capacity}
use Rattle.session_calls.proofs.calls.Calls.new.Given as goal

abbrev pub invariant-loop-at : goal.invariant-loop-at
invariant-loop-at l = record {
  items : l.slots.items ≡ replicate l._at None;
  room : l.sessions ≤ vec_capacity l.slots;
}
