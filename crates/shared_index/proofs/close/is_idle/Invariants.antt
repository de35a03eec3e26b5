use Rattle.std.proofs.Common.{◌≡◌, ◌<◌, ℕ, false}
use Rattle.session_calls.specs.Slots.{has_call}
use Rattle.shared_index.proofs.close.is_idle.Given as goal

abbrev pub invariant-loop-session : goal.invariant-loop-session
invariant-loop-session g l = (k : ℕ) → k < l.session → has_call l.world.calls.slots.items k ≡ false
