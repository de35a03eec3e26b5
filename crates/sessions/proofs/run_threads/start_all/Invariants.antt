use Rattle.std.proofs.Common.{◌≡◌, ◌+◌, [], ℕ, Some, IfSome, slice_get, vec_len, vec_capacity}
use Rattle.crossbeam_queue.specs.Passes.{view, IsPassOf}
use Rattle.sessions.proofs.Imports.{registry_of, known_by, jobs_of, Pending}
use Rattle.sessions.proofs.run_threads.start_all.Given as goal

abbrev pub invariant-loop-w : goal.invariant-loop-w
invariant-loop-w g l =
    (known_by l.desk.registry ≡ registry_of [] (jobs_of l.pending.items))
    × (IsPassOf l.run.queue.now l.pass × ((view l.pass).parts + l.w ≡ 1024) × ((view l.pass).pushed ≡ (view l.initial.pass).pushed) × ((view l.pass).popped ≡ []))
    × ((l.all.parts + l.w ≡ 65) × (l.all.amount ≡ 0))
    × ((vec_len l.pending ≡ l.w) × (vec_capacity l.pending ≡ vec_capacity l.initial.pending) × ((k : ℕ) (p : Pending) → slice_get l.pending.items k ≡ Some (Some p) → ⊥))
    × ((vec_len l.handles ≡ l.w) × (vec_capacity l.handles ≡ vec_capacity l.initial.handles) × ((k : ℕ) → IfSome (slice_get l.handles.items k) (λ h. h.promise.0 ≡ k)))
