-- The lines of workers, one after the other.
use Rattle.std.proofs.Common.{◌≡◌, ◌∷◌, [], ◌++◌, ◌∙◌, ◌+◌, ◌<◌, ℕ, zero, suc, List, length, take, ap, sym, add-one, append-nil, append_assoc, arith}
use Rattle.command_line.proofs.Imports.{slice_index, worker_text, calls_text}

next : (worker : ℕ) (calls : List ℕ) (i : ℕ) → i < length calls
    → calls_text worker (take i calls) ++ worker_text (worker + i) (slice_index calls i) ≡ calls_text worker (take (suc i) calls)
next worker [] i below = absurd (omega (arith, below))
next worker (count ∷ counts) zero below =
    let same : worker + 0 ≡ worker = omega arith in
    ap (λ w. worker_text w count) same ∙ sym (append-nil (worker_text worker count))
next worker (count ∷ counts) (suc i) below =
    let same : worker + suc i ≡ suc worker + i = omega arith in
    append_assoc (worker_text worker count) (calls_text (suc worker) (take i counts)) (worker_text (worker + suc i) (slice_index counts i))
    ∙ ap (λ line. worker_text worker count ++ line)
    (ap (λ w. calls_text (suc worker) (take i counts) ++ worker_text w (slice_index counts i)) same ∙ next (suc worker) counts i (omega (arith, below)))

-- a worker's line stands after those of the workers before it
pub next_worker : (calls : List ℕ) (i : ℕ) → i < length calls
    → calls_text 0 (take i calls) ++ worker_text i (slice_index calls i) ≡ calls_text 0 (take (i + 1) calls)
next_worker calls i below =
    let same : i ≡ 0 + i = omega arith in
    rw (add-one i) (ap (λ w. calls_text 0 (take i calls) ++ worker_text w (slice_index calls i)) same ∙ next 0 calls i below)
