-- Counting a log of notes by its workers.
use Rattle.std.proofs.Common.{◌≡◌, ◌≢◌, ◌⊎◌, ◌==◌, if◌then◌else◌, ℕ, zero, suc, ◌+◌, ◌<◌, ◌≤◌, List, [], ◌∷◌, length, refl, sym, ap, ◌∙◌, inl, inr, ⊎_elim, arith, length-append, ◌++◌, map, Some, slice_get, subst}
use Rattle.std.proofs.lemmas.Bool.Decides.{nat_tests}
use Rattle.std.proofs.lemmas.Bool.{cases_eq, cases_lt}
use Rattle.crossbeam_queue.specs.Fifo.{Held}
use Rattle.worker_seats.specs.declared.job_queue.QueueView.{QueueView}
use Rattle.worker_seats.specs.Queue.{weigh, below, queue_view, KnowsAll, jobs_in, sum_below, sum_over, at_alone, times}
use Rattle.worker_seats.specs.Seats.{notes_from, notes_by}
use Rattle.worker_seats.proofs.Queueing.{weigh-append, is_here}

sum_same : (n : ℕ) (f g : ℕ → ℕ) → ((k : ℕ) → f k ≡ g k) → sum_below n f ≡ sum_below n g
sum_same zero f g e = refl
sum_same (suc n) f g e = omega (arith, sum_same n f g e, e n)

sum_add : (n : ℕ) (f g : ℕ → ℕ) → sum_below n (λ k. f k + g k) ≡ sum_below n f + sum_below n g
sum_add zero f g = refl
sum_add (suc n) f g = omega (arith, sum_add n f g)

then_m : (w n m : ℕ) → w ≡ n → (if w == n then m else 0) ≡ m
then_m w n m e = grind (arith, nat_tests, e)

else_0 : (w n m : ℕ) → w ≢ n → (if w == n then m else 0) ≡ 0
else_0 w n m ne = grind (arith, nat_tests, ne)

sum_none : (n w m : ℕ) → n ≤ w → sum_below n (λ k. if w == k then m else 0) ≡ 0
sum_none zero w m l = refl
sum_none (suc n) w m l = let t = else_0 w n m (λ e. omega (arith, e, l)) in omega (arith, sum_none n w m (omega (arith, l)), t)

-- one worker alone has m
sum_one : (n w m : ℕ) → sum_below n (λ k. if w == k then m else 0) ≤ m
sum_one zero w m = omega arith
sum_one (suc n) w m = ⊎_elim
    (λ (e : w ≡ n). (let r = sum_none n w m (omega (arith, e)) in let t = then_m w n m e in omega (arith, r, t)))
    (λ (ne : w ≢ n). (let t = else_0 w n m ne in omega (arith, sum_one n w m, t)))
    (cases_eq w n)

-- ... and it is one of those below n
sum_own : (n w m : ℕ) → w < n → sum_below n (λ k. if w == k then m else 0) ≡ m
sum_own zero w m l = absurd (omega (arith, l))
sum_own (suc n) w m l = ⊎_elim
    (λ (e : w ≡ n). (let r = sum_none n w m (omega (arith, e)) in let t = then_m w n m e in omega (arith, r, t)))
    (λ (ne : w ≢ n). (let t = else_0 w n m ne in omega (arith, sum_own n w m (omega (arith, l, ne)), t)))
    (cases_eq w n)

-- what a worker's notes weigh
weigh_notes : (h : ℕ → ℕ) (k w : ℕ) (x : ℕ × ℕ) (xs : List (ℕ × ℕ)) → weigh h (jobs_in (notes_from k w (x ∷ xs))) ≡ (if x.0 == w then h x.1 else 0) + weigh h (jobs_in (notes_from (suc k) w xs))
weigh_notes h k w x xs = grind (arith, nat_tests)

-- the workers below n have no more than there is
pub shares_fit : (h : ℕ → ℕ) (n k : ℕ) (log : List (ℕ × ℕ)) → sum_below n (λ w. weigh h (jobs_in (notes_from k w log))) ≤ weigh h (jobs_in log)
shares_fit h n k [] = omega (arith, none n)
  where
    none : (m : ℕ) → sum_below m (λ w. 0) ≡ 0
    none zero = refl
    none (suc m) = omega (arith, none m)
shares_fit h n k (x ∷ xs) =
    let a = sum_same n (λ w. weigh h (jobs_in (notes_from k w (x ∷ xs)))) (λ w. (if x.0 == w then h x.1 else 0) + weigh h (jobs_in (notes_from (suc k) w xs))) (λ w. weigh_notes h k w x xs) in
    let b = sum_add n (λ w. if x.0 == w then h x.1 else 0) (λ w. weigh h (jobs_in (notes_from (suc k) w xs))) in
    omega (arith, a, b, sum_one n x.0 (h x.1), shares_fit h n (suc k) xs)

weigh_one : (xs : List ℕ) → weigh (λ _. 1) xs ≡ length xs
weigh_one [] = refl
weigh_one (x ∷ xs) = omega (arith, weigh_one xs)

jobs_long : (notes : List (ℕ × ℕ)) → length (jobs_in notes) ≡ length notes
jobs_long [] = refl
jobs_long (x ∷ xs) = omega (arith, jobs_long xs)

-- how many notes the workers below n have
abbrev counted : ℕ → ℕ → List (ℕ × ℕ) → ℕ
counted n k log = sum_below n (λ w. weigh (λ _. 1) (jobs_in (notes_from k w log)))

-- if the workers below n have every note, the first is of one of them, and they have the others
first_seated : (n k : ℕ) (x : ℕ × ℕ) (xs : List (ℕ × ℕ)) → counted n k (x ∷ xs) ≡ suc (length xs) → (x.0 < n) × (counted n (suc k) xs ≡ length xs)
first_seated n k x xs e =
    let a = sum_same n (λ w. weigh (λ _. 1) (jobs_in (notes_from k w (x ∷ xs))))
    (λ w. (if x.0 == w then 1 else 0) + weigh (λ _. 1) (jobs_in (notes_from (suc k) w xs))) (λ w. weigh_notes (λ _. 1) k w x xs) in
    let b = sum_add n (λ w. if x.0 == w then 1 else 0) (λ w. weigh (λ _. 1) (jobs_in (notes_from (suc k) w xs))) in
    let rest = shares_fit (λ _. 1) n (suc k) xs in
    let long : weigh (λ _. 1) (jobs_in xs) ≡ length xs = weigh_one (jobs_in xs) ∙ jobs_long xs in
    let one = sum_one n x.0 1 in
    ⊎_elim
    (λ (l : x.0 < n). (l, omega (arith, e, a, b, rest, long, one)))
    (λ (l : n ≤ x.0). absurd (let none = sum_none n x.0 1 l in omega (arith, e, a, b, rest, long, none)))
    (cases_lt x.0 n)

-- ... then what they have weighs as much as all notes
shares_whole : (h : ℕ → ℕ) (n k : ℕ) (log : List (ℕ × ℕ)) → counted n k log ≡ length log → sum_below n (λ w. weigh h (jobs_in (notes_from k w log))) ≡ weigh h (jobs_in log)
shares_whole h n k [] e = none n
  where
    none : (m : ℕ) → sum_below m (λ w. 0) ≡ 0
    none zero = refl
    none (suc m) = omega (arith, none m)
shares_whole h n k (x ∷ xs) e =
    let f = first_seated n k x xs e in
    let a = sum_same n (λ w. weigh h (jobs_in (notes_from k w (x ∷ xs)))) (λ w. (if x.0 == w then h x.1 else 0) + weigh h (jobs_in (notes_from (suc k) w xs))) (λ w. weigh_notes h k w x xs) in
    let b = sum_add n (λ w. if x.0 == w then h x.1 else 0) (λ w. weigh h (jobs_in (notes_from (suc k) w xs))) in
    omega (arith, a, b, sum_own n x.0 (h x.1) f.0, shares_whole h n (suc k) xs f.1)

-- if a list of n numbers has each number below n, it has each once
at_most : (n : ℕ) (xs : List ℕ) → sum_below n (λ j. weigh (at_alone j) xs) ≤ length xs
at_most n [] = omega (arith, none n)
  where
    none : (m : ℕ) → sum_below m (λ w. 0) ≡ 0
    none zero = refl
    none (suc m) = omega (arith, none m)
at_most n (x ∷ xs) =
    let b = sum_add n (λ j. at_alone j x) (λ j. weigh (at_alone j) xs) in
    omega (arith, b, sum_one n x 1, at_most n xs)

-- a number below the next one is n, or below it
pub last_or : (k n : ℕ) → k < suc n → (k ≡ n) ⊎ (k < n)
last_or zero zero l = inl refl
last_or zero (suc n) l = inr (omega arith)
last_or (suc k) zero l = absurd (omega (arith, l))
last_or (suc k) (suc n) l = ⊎_elim (λ e. inl (ap suc e)) (λ m. inr (omega (arith, m))) (last_or k n (omega (arith, l)))

-- terms that are at least as great, with no greater sum, are the same
pub pressed : (n : ℕ) (f g : ℕ → ℕ) → ((k : ℕ) → k < n → f k ≤ g k) → sum_below n g ≤ sum_below n f → (k : ℕ) → k < n → f k ≡ g k
pressed zero f g le sum k l = absurd (omega (arith, l))
pressed (suc n) f g le sum k l =
    let low = lower n f g (λ j m. le j (omega (arith, m))) in
    let top = le n (omega arith) in
    ⊎_elim
    (λ (e : k ≡ n). (let q : f n ≡ g n = omega (arith, low, top, sum) in ap f e ∙ q ∙ ap g (sym e)))
    (λ (m : k < n). pressed n f g (λ j m. le j (omega (arith, m))) (omega (arith, top, sum)) k m)
    (last_or k n l)
  where
    lower : (n : ℕ) (f g : ℕ → ℕ) → ((k : ℕ) → k < n → f k ≤ g k) → sum_below n f ≤ sum_below n g
    lower zero f g le = omega arith
    lower (suc n) f g le = omega (arith, lower n f g (λ j m. le j (omega (arith, m))), le n (omega arith))

-- If the shares sum to the log's length, and together are what was drawn of n numbers, each number below n
-- stands in the log once.
pub each_once : (n workers : ℕ) (log : List (ℕ × ℕ)) → length log ≡ n
    → ((h : ℕ → ℕ) → weigh h (below n) ≡ sum_below workers (λ w. weigh h (jobs_in (notes_by w log))))
    → (j : ℕ) → j < n → weigh (at_alone j) (jobs_in log) ≡ 1
each_once n workers log long drawn j l =
    let ones : (k : ℕ) → k < n → 1 ≤ weigh (at_alone k) (jobs_in log) = λ k m. (let a = there n k m in omega (arith, a, drawn (at_alone k), shares_fit (at_alone k) workers 0 log)) in
    sym (pressed n (λ _. 1) (λ k. weigh (at_alone k) (jobs_in log)) ones (omega (arith, at_most n (jobs_in log), jobs_long log, long, sum_ones n)) j l)
  where
    there : (n k : ℕ) → k < n → 1 ≤ weigh (at_alone k) (below n)
    there zero k l = absurd (omega (arith, l))
    there (suc n) k l = let a = weigh-append (at_alone k) (below n) (n ∷ []) in ⊎_elim
        (λ (e : n ≡ k). (let b : at_alone k n ≡ 1 = ap (λ m. at_alone k m) e ∙ is_here k in omega (arith, a, b)))
        (λ (ne : n ≢ k). omega (arith, a, there n k (omega (arith, l, ne))))
        (cases_eq n k)

    sum_ones : (n : ℕ) → sum_below n (λ _. 1) ≡ n
    sum_ones zero = refl
    sum_ones (suc n) = omega (arith, sum_ones n)

pub sum_more : (n m : ℕ) (f : ℕ → ℕ) → m ≡ n + 1 → sum_below m f ≡ sum_below n f + f n
sum_more n m f e = let s : m ≡ suc n = omega (arith, e) in ap (λ k. sum_below k f) s

length_of_below : (n : ℕ) → length (below n) ≡ n
length_of_below zero = refl
length_of_below (suc n) = omega (arith, length_of_below n, length-append (below n) (n ∷ []))

-- a queue that holds as many as it can has no room, so it held all that were pushed
pub not_full : {T : Type 0} (job : T → ℕ) (cap n : ℕ) (v : QueueView) → v ≡ queue_view 1024 n [] → n < cap → Held cap (λ tickets. KnowsAll v (map job tickets)) → ⊥
not_full {T} job room n v is less (tickets, long, whole) =
    let all = whole (ap (λ (u : QueueView). u.parts) is) (λ _. 1) in
    let pushed : weigh (λ _. 1) (below v.pushed) ≡ n = ap (λ (u : QueueView). weigh (λ _. 1) (below u.pushed)) is ∙ weigh_one (below n) ∙ length_of_below n in
    let none : weigh (λ _. 1) v.popped ≡ 0 = ap (λ (u : QueueView). weigh (λ _. 1) u.popped) is in
    absurd (omega (arith, all, pushed, none, long, less, weigh_one (map job tickets), map_long tickets))
  where
    map_long : (ts : List T) → length (map job ts) ≡ length ts
    map_long [] = refl
    map_long (t ∷ ts) = omega (arith, map_long ts)

-- a sum over a list with one element more
pub sum_over_snoc : {A : Type 0} (f : A → ℕ) (xs : List A) (x : A) → sum_over f (xs ++ x ∷ []) ≡ sum_over f xs + f x
sum_over_snoc f [] x = omega arith
sum_over_snoc f (y ∷ xs) x = omega (arith, sum_over_snoc f xs x)

pub map_snoc : {A B : Type 0} (f : A → B) (xs : List A) (x : A) → map f (xs ++ x ∷ []) ≡ map f xs ++ f x ∷ []
map_snoc f [] x = refl
map_snoc f (y ∷ xs) x = ap (λ l. f y ∷ l) (map_snoc f xs x)

-- If every number below n was popped, all popped numbers are those of the workers' notes, and these are all
-- that the log has, each number below n stands in the log once.
pub noted_once : (n workers : ℕ) (popped : List ℕ) (log : List (ℕ × ℕ)) → ((h : ℕ → ℕ) → weigh h (below n) ≡ weigh h popped + weigh h [])
    → ((h : ℕ → ℕ) → weigh h popped ≡ sum_below workers (λ w. weigh h (jobs_in (notes_by w log))))
    → sum_below workers (λ w. length (notes_by w log)) ≡ length log
    → (j : ℕ) → j < n → times j (jobs_in log) ≡ 1
noted_once n workers popped log all own counted j l = each_once n workers log long (λ h. omega (arith, all h, own h)) j l
  where
    same : (w : ℕ) → weigh (λ _. 1) (jobs_in (notes_by w log)) ≡ length (notes_by w log)
    same w = weigh_one (jobs_in (notes_by w log)) ∙ jobs_long (notes_by w log)

    long : length log ≡ n
    long = omega (
      arith,
      counted,
      sum_same workers (λ w. weigh (λ _. 1) (jobs_in (notes_by w log))) (λ w. length (notes_by w log)) same,
      own (λ _. 1),
      all (λ _. 1),
      weigh_one (below n),
      length_of_below n,
    )

-- ... and what was popped is what the log has, however it is weighed
pub noted_all : (n workers : ℕ) (popped : List ℕ) (log : List (ℕ × ℕ)) → ((h : ℕ → ℕ) → weigh h (below n) ≡ weigh h popped + weigh h [])
    → ((h : ℕ → ℕ) → weigh h popped ≡ sum_below workers (λ w. weigh h (jobs_in (notes_by w log))))
    → sum_below workers (λ w. length (notes_by w log)) ≡ length log
    → (h : ℕ → ℕ) → weigh h (below n) ≡ weigh h (jobs_in log)
noted_all n workers popped log all own count h = omega (arith, all h, own h, shares_whole h workers 0 log whole)
  where
    whole : counted workers 0 log ≡ length log
    whole = sum_same workers (λ w. weigh (λ _. 1) (jobs_in (notes_by w log))) (λ w. length (notes_by w log)) (λ w. weigh_one (jobs_in (notes_by w log)) ∙ jobs_long (notes_by w log)) ∙ count

-- ... so that each note is of one of the workers
pub noted_within : (workers : ℕ) (log : List (ℕ × ℕ)) → sum_below workers (λ w. length (notes_by w log)) ≡ length log
    → (place : ℕ) (note : ℕ × ℕ) → slice_get log place ≡ Some note → note.0 < workers
noted_within workers log count place note at = from 0 log whole place at
  where
    whole : counted workers 0 log ≡ length log
    whole = sum_same workers (λ w. weigh (λ _. 1) (jobs_in (notes_by w log))) (λ w. length (notes_by w log)) (λ w. weigh_one (jobs_in (notes_by w log)) ∙ jobs_long (notes_by w log)) ∙ count

    from : (k : ℕ) (xs : List (ℕ × ℕ)) → counted workers k xs ≡ length xs → (p : ℕ) → slice_get xs p ≡ Some note → note.0 < workers
    from k [] e p h = absurd cc
    from k (x ∷ xs) e zero h = (let f = first_seated workers k x xs e in let s : x ≡ note = cc in subst (λ (y : ℕ × ℕ). y.0 < workers) s f.0)
    from k (x ∷ xs) e (suc p) h = from (suc k) xs (first_seated workers k x xs e).1 p h
