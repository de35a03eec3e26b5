use Rattle.std.proofs.Common.{ℕ, ◌<◌}
use Rattle.access_method.specs.Tokens.{IsVacuumSeat}
use Rattle.access_method.proofs.index.vacuum_seat.Given as goal

abbrev pub invariant-loop-at : goal.invariant-loop-at
invariant-loop-at l = record {
  none : (session : ℕ) → session < l.at → IsVacuumSeat l.seats session → ⊥;
}
