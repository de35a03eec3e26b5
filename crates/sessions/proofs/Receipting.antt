-- Each job below a number stands once in the list of jobs that are done.
use Rattle.std.proofs.Common.{◌≡◌, ◌≢◌, ◌==◌, Bool, ℕ, zero, suc, ◌+◌, ◌<◌, List, [], ◌∷◌, ◌++◌, map, length, replicate, take, set, Some, slice_get, cond, refl, sym, ap, ◌∙◌, subst, ⊎_elim, arith, length-append}
use Rattle.std.specs.List.{sum}
use Rattle.sessions.proofs.Imports.{nat_tests, sum_by-cons, sum_by_push, below, weigh, at_alone, times, last_or, weigh-append, is_here, is_else, under, nat_cases, get_there, set_here, set_else}
use Rattle.sessions.proofs.Imports.{Receipt, Record, receipt_of, records_of}

weigh_one : (xs : List ℕ) → weigh (λ _. 1) xs ≡ length xs
weigh_one [] = refl
weigh_one (x ∷ xs) = omega (arith, weigh_one xs)

length_of_below : (n : ℕ) → length (below n) ≡ n
length_of_below zero = refl
length_of_below (suc n) = omega (arith, length_of_below n, length-append (below n) (n ∷ []))

-- a number that stands in a list counts there
pub stands : (xs : List ℕ) (p x : ℕ) → slice_get xs p ≡ Some x → 0 < times x xs
stands [] p x e = absurd cc
stands (y ∷ xs) zero x e = (let s : y ≡ x = cc in let one : at_alone x y ≡ 1 = ap (at_alone x) s ∙ is_here x in omega (arith, one))
stands (y ∷ xs) (suc p) x e = (let r = stands xs p x e in omega (arith, r))

-- ... and one that counts stands there
pub place_of : (xs : List ℕ) (x : ℕ) → 0 < times x xs → (p : ℕ) × (slice_get xs p ≡ Some x)
place_of [] x l = absurd (omega (arith, l))
place_of (y ∷ xs) x l = ⊎_elim
    (λ (e : y ≡ x). (0, ap Some e))
    (λ (ne : y ≢ x). (let r = place_of xs x (let none = is_else x y ne in omega (arith, l, none)) in (suc r.0, r.1)))
    (nat_cases y x)

-- one that counts once stands at one place
pub one_place : (xs : List ℕ) (p q x : ℕ) → times x xs ≡ 1 → slice_get xs p ≡ Some x → slice_get xs q ≡ Some x → p ≡ q
one_place [] p q x one e f = absurd cc
one_place (y ∷ xs) zero zero x one e f = refl
one_place (y ∷ xs) zero (suc q) x one e f = (let s : y ≡ x = cc in let here : at_alone x y ≡ 1 = ap (at_alone x) s ∙ is_here x in let r = stands xs q x f in absurd (omega (arith, one, here, r)))
one_place (y ∷ xs) (suc p) zero x one e f = (let s : y ≡ x = cc in let here : at_alone x y ≡ 1 = ap (at_alone x) s ∙ is_here x in let r = stands xs p x e in absurd (omega (arith, one, here, r)))
one_place (y ∷ xs) (suc p) (suc q) x one e f = (let r = stands xs p x e in ap suc (one_place xs p q x (omega (arith, one, r)) e f))

-- each number below n counts once there
pub times_below : (n x : ℕ) → x < n → times x (below n) ≡ 1
times_below zero x l = absurd (omega (arith, l))
times_below (suc n) x l =
    let a = weigh-append (at_alone x) (below n) (n ∷ []) in
    ⊎_elim
    (λ (e : n ≡ x).
    let here : at_alone x n ≡ 1 = ap (at_alone x) e ∙ is_here x in
    let none = none_of (times x (below n)) (λ m. (let r = under n x m in omega (arith, r, e))) in
    omega (arith, a, here, none))
    (λ (ne : n ≢ x). (let none = is_else x n ne in let r = times_below n x (omega (arith, l, ne)) in omega (arith, a, none, r)))
    (nat_cases n x)
  where
    none_of : (m : ℕ) → (0 < m → ⊥) → m ≡ 0
    none_of zero f = refl
    none_of (suc m) f = absurd (f (omega arith))

module _ (n : ℕ) (jobs : List ℕ) (all : (h : ℕ → ℕ) → weigh h (below n) ≡ weigh h jobs) where
  pub each_once : (job : ℕ) → job < n → times job jobs ≡ 1
  each_once job l = sym (all (at_alone job)) ∙ times_below n job l

  pub all_below : (p job : ℕ) → slice_get jobs p ≡ Some job → job < n
  all_below p job at = under n job (let s = stands jobs p job at in let same = all (at_alone job) in omega (arith, s, same))

  pub as_many : length jobs ≡ n
  as_many = sym (weigh_one jobs) ∙ sym (all (λ _. 1)) ∙ weigh_one (below n) ∙ length_of_below n

-- an element of a list, and what it is mapped to
pub get_mapped : {A : Type 0} (f : A → ℕ) (xs : List A) (p : ℕ) (x : A) → slice_get xs p ≡ Some x → slice_get (map f xs) p ≡ Some (f x)
get_mapped f [] p x e = absurd cc
get_mapped f (y ∷ xs) zero x e = (let s : y ≡ x = cc in ap (λ z. Some (f z)) s)
get_mapped f (y ∷ xs) (suc p) x e = get_mapped f xs p x e

pub got_mapped : {A : Type 0} (f : A → ℕ) (xs : List A) (p n : ℕ) → slice_get (map f xs) p ≡ Some n → (x : A) × (slice_get xs p ≡ Some x) × (f x ≡ n)
got_mapped f [] p n e = absurd cc
got_mapped f (y ∷ xs) zero n e = (y, refl, cc)
got_mapped f (y ∷ xs) (suc p) n e = got_mapped f xs p n e

-- the list up to an element, and that element
pub take_next : {A : Type 0} (xs : List A) (n : ℕ) (x : A) → slice_get xs n ≡ Some x → take (suc n) xs ≡ take n xs ++ x ∷ []
take_next [] n x e = absurd cc
take_next (y ∷ xs) zero x e = (let s : y ≡ x = cc in ap (λ z. z ∷ []) s)
take_next (y ∷ xs) (suc n) x e = ap (λ l. y ∷ l) (take_next xs n x e)

-- one more in a list of numbers
pub sum_one_more : (xs : List ℕ) (i n : ℕ) → slice_get xs i ≡ Some n → sum (set xs i (n + 1)) ≡ sum xs + 1
sum_one_more [] i n e = absurd cc
sum_one_more (x ∷ xs) zero n e = (let s : x ≡ n = cc in omega (arith, s, sum_by-cons (λ (k : ℕ). k) (n + 1) xs, sum_by-cons (λ (k : ℕ). k) x xs))
sum_one_more (x ∷ xs) (suc i) n e = omega (arith, sum_by-cons (λ (k : ℕ). k) x (set xs i (n + 1)), sum_by-cons (λ (k : ℕ). k) x xs, sum_one_more xs i n e)

same_record : (records : List Record) (p : ℕ) (r t : Record) → slice_get records p ≡ Some r → slice_get records p ≡ Some t → r ≡ t
same_record records p r t e f = cc

same_number : (xs : List ℕ) (i m n : ℕ) → slice_get xs i ≡ Some m → slice_get xs i ≡ Some n → m ≡ n
same_number xs i m n e f = cc

abbrev bit : Bool → ℕ
bit b = cond b 1 0

one_more : (n : ℕ) → n + 1 ≡ suc n
one_more n = omega arith

-- a list of zeros
pub get_zero : (m i : ℕ) → i < m → slice_get {X = ℕ} (replicate m 0) i ≡ Some 0
get_zero zero i l = absurd (omega (arith, l))
get_zero (suc m) zero l = refl
get_zero (suc m) (suc i) l = get_zero m i (omega (arith, l))

pub sum_zero : (m : ℕ) → sum (replicate m 0) ≡ 0
sum_zero zero = refl
sum_zero (suc m) = omega (arith, sum_by-cons (λ (k : ℕ). k) 0 (replicate m 0), sum_zero m)

module _ (records : List Record) (place : ℕ) (r : Record) (at : slice_get records place ≡ Some r) where
  -- a receipt more
  pub written_next : (receipts : List Receipt) → r.job < length receipts
      → ((p q : ℕ) (s t : Record) → slice_get records p ≡ Some s → slice_get records q ≡ Some t → s.job ≡ t.job → p ≡ q)
      → ((p : ℕ) (t : Record) → p < place → slice_get records p ≡ Some t → slice_get receipts t.job ≡ Some (receipt_of p t))
      → (p : ℕ) (t : Record) → p < place + 1 → slice_get records p ≡ Some t → slice_get (set receipts r.job (receipt_of place r)) t.job ≡ Some (receipt_of p t)
  written_next receipts inside once before p t l here = ⊎_elim now then_was (last_or p place (omega (arith, l)))
    where
      now : p ≡ place → slice_get (set receipts r.job (receipt_of place r)) t.job ≡ Some (receipt_of p t)
      now e =
          let same : r ≡ t = same_record records place r t at (ap (slice_get records) (sym e) ∙ here) in
          let there = get_there receipts r.job inside in
          subst (λ (x : ℕ × Record). slice_get (set receipts r.job (receipt_of place r)) x.1.job ≡ Some (receipt_of x.0 x.1)) (λ i. (sym e i, same i))
          (set_here receipts r.job there.0 (receipt_of place r) there.1)

      then_was : p < place → slice_get (set receipts r.job (receipt_of place r)) t.job ≡ Some (receipt_of p t)
      then_was less = set_else receipts r.job t.job (receipt_of place r) (λ e. omega (arith, less, once p place t r here at e)) ∙ before p t less here

  -- a record more of its worker
  pub counted_next : (calls : List ℕ) (m n : ℕ) → slice_get calls r.worker ≡ Some n
      → ((worker : ℕ) → worker < m → slice_get calls worker ≡ Some (records_of worker (take place records)))
      → (worker : ℕ) → worker < m → slice_get (set calls r.worker (n + 1)) worker ≡ Some (records_of worker (take (place + 1) records))
  counted_next calls m n had before worker l = ⊎_elim own other (nat_cases worker r.worker)
    where
      next : records_of worker (take (place + 1) records) ≡ records_of worker (take place records) + bit (r.worker == worker)
      next = ap (records_of worker) (ap (λ (k : ℕ). take k records) (one_more place) ∙ take_next records place r at)
          ∙ sum_by_push (λ (x : Record). cond (x.worker == worker) 1 0) (take place records) r

      one : (w k : ℕ) → k ≡ w → bit (w == k) ≡ 1
      one w k e = grind (arith, nat_tests, e)

      none : (w k : ℕ) → k ≢ w → bit (w == k) ≡ 0
      none w k ne = grind (arith, nat_tests, ne)

      own : worker ≡ r.worker → slice_get (set calls r.worker (n + 1)) worker ≡ Some (records_of worker (take (place + 1) records))
      own e =
          let was : n ≡ records_of worker (take place records) = same_number calls worker n _ (ap (slice_get calls) e ∙ had) (before worker l) in
          let more : n + 1 ≡ records_of worker (take (place + 1) records) = (let yes = one r.worker worker e in omega (arith, next, yes, was)) in
          ap (slice_get (set calls r.worker (n + 1))) e ∙ set_here calls r.worker n (n + 1) had ∙ ap Some more

      other : worker ≢ r.worker → slice_get (set calls r.worker (n + 1)) worker ≡ Some (records_of worker (take (place + 1) records))
      other ne =
          let same : records_of worker (take place records) ≡ records_of worker (take (place + 1) records) = (let no = none r.worker worker ne in omega (arith, next, no)) in
          set_else calls r.worker worker (n + 1) ne ∙ before worker l ∙ ap Some same
