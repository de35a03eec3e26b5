use Rattle.std.proofs.Common.{◌≢◌, ℕ, ◌<◌, Some, None, slice_get}
use Rattle.access_method.proofs.index.free_seat.Given as goal

abbrev pub invariant-loop-at : goal.invariant-loop-at
invariant-loop-at l = record {
  taken : (session : ℕ) → session < l.at → slice_get l.seats session ≢ Some None;
}
