use Rattle.std.proofs.Common.{◌≡◌, ◌<◌, [], ℕ, Some, None, replicate, slice_get, vec_len, vec_capacity}
use Rattle.session_calls.specs.TheoremCalls.{DeadSets}
use Rattle.shared_world.proofs.Imports.{IsSeatAt, registry_with, view_of}
use Rattle.shared_world.proofs.opening.open_seats.Given as goal

abbrev pub invariant-loop-session : goal.invariant-loop-session
invariant-loop-session g l =
    (view_of l.sessions.registry ≡ registry_with [] (replicate l.session None))
    × (vec_len l.seats ≡ l.session) × (vec_capacity l.seats ≡ vec_capacity l.initial.seats)
    × ((sets : DeadSets) (session : ℕ) → session < l.session → IsSeatAt sets session (Some None) (slice_get l.seats.items session))
