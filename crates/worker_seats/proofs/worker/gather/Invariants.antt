use Rattle.std.proofs.Common.{◌≡◌, ◌<◌, ◌≤◌, ◌+◌, ◌++◌, ℕ, length, map, vec_len, vec_capacity}
use Rattle.crossbeam_queue.specs.Passes.{view, IsPassOf}
use Rattle.worker_seats.specs.Queue.{jobs_in, sum_over, weigh}
use Rattle.worker_seats.specs.Seats.{known_by}
use Rattle.worker_seats.proofs.worker.gather.Given as goal

abbrev pub invariant-loop-worker : goal.invariant-loop-worker
invariant-loop-worker g l =
    IsPassOf l.queue l.pass
    × (0 < (view l.pass).parts)
    × ((view l.pass).parts ≡ (view l.initial.pass).parts + length l.yielded)
    × ((view l.pass).pushed ≡ (view l.initial.pass).pushed)
    × ((h : ℕ → ℕ) → weigh h (view l.pass).popped ≡ weigh h (view l.initial.pass).popped + sum_over (λ w. weigh h (jobs_in (known_by w.seat.pass).notes)) l.yielded)
    × (l.seats.items ≡ l.initial.seats.items ++ map (λ w. w.seat) l.yielded)
    × (vec_len l.seats + l.worker-iterator.rest.len ≤ vec_capacity l.initial.seats)
    × (vec_capacity l.seats ≡ vec_capacity l.initial.seats)
    × (l.hands.items ≡ l.initial.hands.items ++ map (λ w. w.hand) l.yielded)
    × (vec_len l.hands + l.worker-iterator.rest.len ≤ vec_capacity l.initial.hands)
    × (vec_capacity l.hands ≡ vec_capacity l.initial.hands)
