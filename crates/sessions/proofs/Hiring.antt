-- Lists of threads, workers and seats.
use Rattle.std.proofs.Common.{◌≡◌, ◌==◌, if◌then◌else◌, cond, Bool, true, false, ℕ, zero, suc, ◌+◌, List, [], ◌∷◌, ◌++◌, length, map, Option, Some, None, IfSome, slice_get, refl, sym, ap, ◌∙◌, subst, ⊎_elim, arith}
use Rattle.std.specs.List.{filter}
use Rattle.worker_seats.specs.Seats.{notes_by, notes_from}
use Rattle.shared_world.specs.Notes.{notes_of}
use Rattle.sessions.proofs.Imports.{jobs_in, sum_over, weigh, get_snoc, get_there, get_within, Pending, Record, jobs_of, job_of, jobs_by, jobs_of_records}

pub jobs_of_snoc : (pending : List (Option Pending)) (o : Option Pending) → jobs_of (pending ++ o ∷ []) ≡ jobs_of pending ++ job_of o ∷ []
jobs_of_snoc [] o = refl
jobs_of_snoc (p ∷ pending) o = ap (λ l. job_of p ∷ l) (jobs_of_snoc pending o)

pub none_snoc : (pending : List (Option Pending)) → ((k : ℕ) (p : Pending) → slice_get pending k ≡ Some (Some p) → ⊥) → (k : ℕ) (p : Pending) → slice_get (pending ++ None ∷ []) k ≡ Some (Some p) → ⊥
none_snoc pending none k p e = ⊎_elim (λ h. none k p h.1) (λ h. absurd (let f = h.1 in cc)) (get_snoc pending None (Some p) k e)

-- a fact of each element, at its place, is one of what it is mapped to
pub mapped : {A B : Type 0} (f : A → B) (P : ℕ → B → Type 0) (xs : List A) → ((k : ℕ) → IfSome (slice_get xs k) (λ a. P k (f a))) → (k : ℕ) → IfSome (slice_get (map f xs) k) (P k)
mapped f P [] each k = tt
mapped f P (x ∷ xs) each zero = each 0
mapped f P (x ∷ xs) each (suc k) = mapped f (λ n. P (suc n)) xs (λ n. each (suc n)) k

pub each_mapped : {A B : Type 0} (f : A → B) (P : B → Type 0) → ((a : A) → P (f a)) → (xs : List A) (k : ℕ) → IfSome (slice_get (map f xs) k) P
each_mapped f P all [] k = tt
each_mapped f P all (x ∷ xs) zero = all x
each_mapped f P all (x ∷ xs) (suc k) = each_mapped f P all xs k

pub sum_over_mapped : {A B : Type 0} (f : A → B) (h : B → ℕ) (xs : List A) → sum_over h (map f xs) ≡ sum_over (λ a. h (f a)) xs
sum_over_mapped f h [] = refl
sum_over_mapped f h (x ∷ xs) = ap (λ n. h (f x) + n) (sum_over_mapped f h xs)

-- what the jobs of two lists of notes weigh
pub weigh_notes : (h : ℕ → ℕ) (a b : List (ℕ × ℕ)) → weigh h (jobs_in (a ++ b)) ≡ weigh h (jobs_in a) + weigh h (jobs_in b)
weigh_notes h [] b = omega arith
weigh_notes h (x ∷ a) b = omega (arith, weigh_notes h a b)

-- a fact of what each element is mapped to in two ways, and of two more, holds at each place of both lists
pub both_mapped : {A B C : Type 0} (f : A → B) (h : A → C) (P : B → C → Type 0) → ((a : A) → P (f a) (h a)) → (b : B) (c : C) → P b c → (xs : List A) (k : ℕ)
    → IfSome (slice_get (map f xs ++ b ∷ []) k) (λ x. IfSome (slice_get (map h xs ++ c ∷ []) k) (P x))
both_mapped f h P each b c last [] zero = last
both_mapped f h P each b c last [] (suc k) = tt
both_mapped f h P each b c last (x ∷ xs) zero = each x
both_mapped f h P each b c last (x ∷ xs) (suc k) = both_mapped f h P each b c last xs k

-- the jobs of a worker's notes are those of its records
pub jobs_noted_by : (place worker : ℕ) (records : List Record) → jobs_in (notes_from place worker (notes_of records)) ≡ jobs_by worker records
jobs_noted_by place worker [] = refl
jobs_noted_by place worker (r ∷ records) = by (r.worker == worker) (jobs_noted_by (suc place) worker records)
  where
    by : (b : Bool) → jobs_in (notes_from (suc place) worker (notes_of records)) ≡ jobs_by worker records
        → jobs_in (if b then (place, r.job) ∷ notes_from (suc place) worker (notes_of records) else notes_from (suc place) worker (notes_of records))
        ≡ jobs_of_records (cond b (r ∷ filter (λ (x : Record). x.worker == worker) records) (filter (λ (x : Record). x.worker == worker) records))
    by true rest = ap (λ l. r.job ∷ l) rest
    by false rest = rest

-- each worker's hand has told of the jobs of its notes, which are those of its records
pub told_of_records : {A H : Type 0} (told : H → List ℕ) (notes : A → List (ℕ × ℕ)) (seats : List A) (hands : List H) (records : List Record) → length hands ≡ length seats
    → ((k : ℕ) → IfSome (slice_get seats k) (λ s. IfSome (slice_get hands k) (λ h. told h ≡ jobs_in (notes s))))
    → ((k : ℕ) → IfSome (slice_get seats k) (λ s. notes s ≡ notes_by k (notes_of records)))
    → (k : ℕ) → IfSome (slice_get hands k) (λ h. told h ≡ jobs_by k records)
told_of_records {A} {H} told notes seats hands records long both own k = by (slice_get hands k) refl (slice_get seats k) refl
  where
    by : (q : Option H) → slice_get hands k ≡ q → (o : Option A) → slice_get seats k ≡ o → IfSome q (λ h. told h ≡ jobs_by k records)
    by None f o e = tt
    by (Some h) f None e =
        let inside = get_within hands k h f in
        let there = get_there seats k (omega (arith, inside, long)) in
        absurd (let no = sym e ∙ there.1 in cc)
    by (Some h) f (Some s) e =
        let one : told h ≡ jobs_in (notes s) = subst (λ (q : Option H). IfSome q (λ h. told h ≡ jobs_in (notes s))) f (subst (λ (o : Option A). IfSome o (λ s. IfSome (slice_get hands k) (λ h. told h ≡ jobs_in (notes s)))) e (both k)) in
        let its : notes s ≡ notes_by k (notes_of records) = subst (λ (o : Option A). IfSome o (λ s. notes s ≡ notes_by k (notes_of records))) e (own k) in
        one ∙ ap jobs_in its ∙ jobs_noted_by 0 k records
