use Rattle.std.proofs.Common.{◌≡◌, ◌+◌, ◌++◌, ℕ, IfSome, length, slice_get, vec_len, vec_capacity}
use Rattle.sessions.proofs.run_threads.joined.Given as goal

abbrev pub invariant-loop-handle : goal.invariant-loop-handle
invariant-loop-handle g l =
    (vec_len l.returned ≡ length l.yielded) × (vec_capacity l.returned ≡ vec_capacity l.fn.returned) × ((k : ℕ) → IfSome (slice_get l.returned.items k) (λ x. x.seat.worker ≡ k))
    × ((k : ℕ) → IfSome (slice_get (l.yielded ++ l.handle-iterator.rest.items) k) (λ h. h.promise.0 ≡ k))
    × (length l.yielded + l.handle-iterator.rest.len ≡ vec_len l.fn.handles)
