use Rattle.std.proofs.Common.{◌≡◌, ◌+◌, [], ℕ, Some, slice_get, vec_len, vec_capacity}
use Rattle.worker_seats.specs.Seats.{registry_of, known_by}
use Rattle.shared_world.specs.Notes.{jobs_of}
use Rattle.shared_world.specs.declared.record.Pending.{Pending}
use Rattle.tests_threads.proofs.hands.seated.Given as goal

abbrev pub invariant-loop-w : goal.invariant-loop-w
invariant-loop-w g l =
    (known_by l.desk.registry ≡ registry_of [] (jobs_of l.pending.items))
    × ((l.all.parts + l.w ≡ 65) × (l.all.amount ≡ 0))
    × ((vec_len l.pending ≡ l.w) × (vec_capacity l.pending ≡ vec_capacity l.initial.pending) × ((k : ℕ) (p : Pending) → slice_get l.pending.items k ≡ Some (Some p) → ⊥))
    × ((vec_len l.hands ≡ l.w) × (vec_capacity l.hands ≡ vec_capacity l.initial.hands))
