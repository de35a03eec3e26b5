use Rattle.std.proofs.Common.{◌≡◌, ℕ, length, IfSome, slice_get, vec_len, vec_capacity}
use Rattle.sessions.proofs.ticket.all_tickets.Given as goal

abbrev pub invariant-loop-job : goal.invariant-loop-job
invariant-loop-job g l =
    (vec_len l.tickets ≡ l.job) × (vec_capacity l.tickets ≡ length l.jobs) × ((job : ℕ) → IfSome (slice_get l.tickets.items job) (λ t. t.job ≡ job))
