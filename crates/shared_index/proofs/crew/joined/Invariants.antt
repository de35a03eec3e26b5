use Rattle.std.proofs.Common.{◌≡◌, ◌+◌, ◌++◌, ℕ, suc, IfSome, length, slice_get, vec_len, vec_capacity}
use Rattle.shared_index.specs.Told.{HaveLearnt, all_told}
use Rattle.shared_index.proofs.crew.joined.Given as goal

abbrev pub invariant-loop-handle : goal.invariant-loop-handle
invariant-loop-handle g l =
    (vec_len l.sessions ≡ suc (length l.yielded)) × (vec_capacity l.sessions ≡ vec_capacity l.fn.sessions)
    × (vec_len l.outs ≡ suc (length l.yielded)) × (vec_capacity l.outs ≡ vec_capacity l.fn.outs)
    × HaveLearnt g.C.Client.learnt l.outs.items (all_told l.sessions.items)
    × ((k : ℕ) → IfSome (slice_get (l.yielded ++ l.handle-iterator.rest.items) k) (λ h. h.promise.0 ≡ suc k))
    × (length l.yielded + l.handle-iterator.rest.len ≡ vec_len l.fn.handles)
