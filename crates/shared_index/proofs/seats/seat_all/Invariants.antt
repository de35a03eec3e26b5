use Rattle.std.proofs.Common.{◌≡◌, [], ℕ, suc, Some, slice_get, length, vec_len, vec_capacity}
use Rattle.session_seats.specs.Seats.{registry_with, view_of}
use Rattle.session_seats.specs.declared.call.PendingCall.{PendingCall}
use Rattle.shared_index.specs.Told.{AreFresh}
use Rattle.shared_index.proofs.seats.seat_all.Given as goal

abbrev pub invariant-loop-session : goal.invariant-loop-session
invariant-loop-session g l =
    (view_of l.desk.registry ≡ registry_with [] (view_of l.desk.registry).pending)
    × (length (view_of l.desk.registry).pending ≡ l.session)
    × ((k : ℕ) (p : PendingCall) → slice_get (view_of l.desk.registry).pending k ≡ Some (Some p) → ⊥)
    × (suc (vec_len l.rest) ≡ l.session)
    × (vec_capacity l.rest ≡ vec_capacity l.fn.rest)
    × AreFresh 1 l.rest.items
