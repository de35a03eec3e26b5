use Rattle.std.proofs.Common.{◌≡◌, ◌<◌, ◌+◌, ◌++◌, ℕ, length, Some, None, slice_get, vec_len, IfSome}
use Rattle.worker_seats.specs.Queue.{jobs_in, sum_below, sum_over, weigh}
use Rattle.worker_seats.specs.Seats.{notes_by, known_by}
use Rattle.worker_seats.proofs.tally.tally_up.Given as goal

abbrev pub invariant-loop-seat : goal.invariant-loop-seat
invariant-loop-seat g l =
    (known_by l.desk.registry ≡ known_by l.initial.desk.registry)
    × ((k : ℕ) → IfSome (slice_get (l.yielded ++ l.seat-iterator.rest.items) k) (λ s. s.worker ≡ k))
    × ((k : ℕ) → IfSome (slice_get (l.yielded ++ l.seat-iterator.rest.items) k) (λ s. (known_by s.pass).job ≡ None))
    × (l.all.parts + l.seat-iterator.rest.len ≡ g.J.Ledger.parts)
    × (length l.yielded + l.seat-iterator.rest.len ≡ vec_len l.fn.seats)
    × (l.all.amount ≡ sum_below (length l.yielded) (λ w. length (notes_by w (known_by l.initial.desk.registry).log)))
    × ((k : ℕ) → k < length l.yielded → slice_get (known_by l.initial.desk.registry).running k ≡ Some None)
    × ((h : ℕ → ℕ) → sum_over (λ s. weigh h (jobs_in (known_by s.pass).notes)) l.yielded ≡ sum_below (length l.yielded) (λ w. weigh h (jobs_in (notes_by w (known_by l.initial.desk.registry).log))))
    × (l.yielded ++ l.seat-iterator.rest.items ≡ l.fn.seats.items)
    × ((k : ℕ) → IfSome (slice_get l.yielded k) (λ s. (known_by s.pass).notes ≡ notes_by k (known_by l.initial.desk.registry).log))
