use Rattle.std.proofs.Common.{◌≡◌, ◌+◌, ◌++◌, ℕ, suc, IfSome, length, slice_get, vec_len, vec_capacity}
use Rattle.shared_index.specs.Told.{AreFresh}
use Rattle.shared_index.proofs.crew.start_all.Given as goal

abbrev pub invariant-loop-session : goal.invariant-loop-session
invariant-loop-session g l =
    (vec_len l.handles ≡ length l.yielded) × (vec_capacity l.handles ≡ vec_capacity l.fn.handles)
    × ((k : ℕ) → IfSome (slice_get l.handles.items k) (λ h. h.promise.0 ≡ suc k))
    × AreFresh 1 (l.yielded ++ l.session-iterator.rest.items)
    × (length l.yielded + l.session-iterator.rest.len ≡ vec_len l.fn.rest)
