use Rattle.std.proofs.Common.{◌≡◌, ◌+◌, ◌++◌, [], ℕ, length, IfSome, slice_get, vec_len}
use Rattle.crossbeam_queue.specs.Passes.{view, IsPassOf}
use Rattle.worker_seats.specs.Queue.{queue_view}
use Rattle.worker_seats.proofs.job_queue.fill.Given as goal

abbrev pub invariant-loop-ticket : goal.invariant-loop-ticket
invariant-loop-ticket g l =
    IsPassOf l.queue l.pass
    × (view l.pass ≡ queue_view 1024 (length l.yielded) [])
    × (length l.yielded + l.ticket-iterator.rest.len ≡ vec_len l.fn.tickets)
    × ((job : ℕ) → IfSome (slice_get (l.yielded ++ l.ticket-iterator.rest.items) job) (λ t. g.T.Ticket.job t ≡ job))
