-- Which sessions run a call, and lists that are written.
use Rattle.std.proofs.Common.{◌≡◌, ◌≢◌, ℕ, zero, suc, ◌<◌, ◌&&◌, not, Bool, true, false, unwrap_or, List, [], ◌∷◌, length, Option, Some, None, slice_get, slice_set, refl, sym, ap, ◌∙◌, subst, ⊎_elim, arith, length-set}
use Rattle.std.proofs.lemmas.Bool.{false_from_ne_true, true_from_ne_false}
use mathlib.Core.Logic.{∥∥₁_elim}
use Rattle.shared_world.proofs.Imports.{is_last, RunsUntilLast, is_busy, has_call, slot_has_call, slot_of, Answer, OthersStay, Begun, Op, is_begun, PendingCall}
use Rattle.shared_world.proofs.Imports.{MatchesPending, nat_cases, get_within, set_cases}

-- what is in equal options is equal
pub some_same : {A : Type 0} {x y : A} → Some x ≡ Some y → x ≡ y
some_same e = cc

-- nothing is both true and false
pub clash : (b : Bool) → b ≡ true → b ≡ false → ⊥
clash b h k = absurd cc

pub set_same : {A : Type 0} (xs : List A) (i : ℕ) (v : A) → slice_get xs i ≡ Some v → slice_set xs i v ≡ xs
set_same [] i v e = refl
set_same (x ∷ xs) zero v e = cc
set_same (x ∷ xs) (suc i) v e = ap (λ l. x ∷ l) (set_same xs i v e)

pub set_twice : {A : Type 0} (xs : List A) (i : ℕ) (u v : A) → slice_set (slice_set xs i u) i v ≡ slice_set xs i v
set_twice [] i u v = refl
set_twice (x ∷ xs) zero u v = refl
set_twice (x ∷ xs) (suc i) u v = ap (λ l. x ∷ l) (set_twice xs i u v)

pub busy_is : (slots : List (Option Op)) (s : ℕ) → is_busy (slot_of slots s) ≡ has_call slots s
busy_is slots s = of (slice_get slots s)
  where
    of : (o : Option (Option Op)) → is_busy (unwrap_or o None) ≡ slot_has_call o
    of None = refl
    of (Some slot) = refl

last_is : (b a l : Bool) → a ≡ (b && not l) → b ≡ true → l ≡ not a
last_is true a true e h = sym (ap not e)
last_is true a false e h = sym (ap not e)
last_is false a l e h = absurd cc

-- the answer to a move of a running call is the last exactly if the session runs nothing then
pub last_of : (old new : List (Option Op)) (s : ℕ) (answer : Answer) → RunsUntilLast (slot_of old s) (slot_of new s) answer → has_call old s ≡ true → is_last answer ≡ not (has_call new s)
last_of old new s answer until was =
    last_is (has_call old s) (has_call new s) (is_last answer) (sym (busy_is new s) ∙ until ∙ ap (λ b. b && not (is_last answer)) (busy_is old s)) was

-- which sessions run a call
abbrev pub OthersRunOn : List (Option Op) → List (Option Op) → ℕ → Type 0
OthersRunOn old new s = (t : ℕ) → t ≢ s → has_call new t ≡ has_call old t

pub others_run_on : (old new : List (Option Op)) (s : ℕ) → OthersStay s old new → OthersRunOn old new s
others_run_on old new s others t n = ap slot_has_call (others t n)

pub runs_there : (slots : List (Option Op)) (pending : List (Option PendingCall)) (s : ℕ) (p : PendingCall) → ∥ MatchesPending slots pending ∥₁ → slice_get pending s ≡ Some (Some p) → has_call slots s ≡ true
runs_there slots pending s p m e = true_from_ne_false (has_call slots s) (λ no. ∥∥₁_elim m (λ x y. absurd x) (λ k. clash (has_call slots s) (k.runs s p e) no))

pub rests_there : (slots : List (Option Op)) (pending : List (Option PendingCall)) (s : ℕ) → ∥ MatchesPending slots pending ∥₁ → slice_get pending s ≡ Some None → has_call slots s ≡ false
rests_there slots pending s m e = false_from_ne_true (has_call slots s) (λ yes. ∥∥₁_elim m (λ x y. absurd x) (λ k. clash (has_call slots s) yes (k.rests s e)))

pub matches_runs : (old new : List (Option Op)) (pending : List (Option PendingCall)) (s : ℕ) (p : PendingCall) → s < length pending → has_call new s ≡ true
    → OthersRunOn old new s → MatchesPending old pending → MatchesPending new (slice_set pending s (Some p))
matches_runs old new pending s p inside now others m = record {
  runs = λ t q h. ⊎_elim
      (λ (x : (t ≡ s) × (Some p ≡ Some q)). ap (λ n. has_call new n) x.0 ∙ now)
      (λ (x : (t ≢ s) × (slice_get pending t ≡ Some (Some q))). others t x.0 ∙ m.runs t q x.1)
      (set_cases pending s t (Some p) (Some q) h);
  rests = λ t h. ⊎_elim
      (λ (x : (t ≡ s) × (Some p ≡ None)). absurd (let e = x.1 in cc))
      (λ (x : (t ≢ s) × (slice_get pending t ≡ Some None)). others t x.0 ∙ m.rests t x.1)
      (set_cases pending s t (Some p) None h);
  beyond = λ t l. let long = length-set pending s (Some p) in others t (λ e. omega (arith, e, l, long, inside)) ∙ m.beyond t (omega (arith, l, long));
}

pub matches_ends : (old new : List (Option Op)) (pending : List (Option PendingCall)) (s : ℕ) → has_call new s ≡ false → OthersRunOn old new s
    → MatchesPending old pending → MatchesPending new (slice_set pending s None)
matches_ends old new pending s now others m = record {
  runs = λ t q h. ⊎_elim
      (λ (x : (t ≡ s) × (None ≡ Some q)). absurd (let e = x.1 in cc))
      (λ (x : (t ≢ s) × (slice_get pending t ≡ Some (Some q))). others t x.0 ∙ m.runs t q x.1)
      (set_cases pending s t None (Some q) h);
  rests = λ t h. ⊎_elim
      (λ (x : (t ≡ s) × (None ≡ None)). ap (λ n. has_call new n) x.0 ∙ now)
      (λ (x : (t ≢ s) × (slice_get pending t ≡ Some None)). others t x.0 ∙ m.rests t x.1)
      (set_cases pending s t None None h);
  beyond = λ t l. ⊎_elim
      (λ (e : t ≡ s). ap (λ n. has_call new n) e ∙ now)
      (λ (n : t ≢ s). others t n ∙ m.beyond t (let long = length-set pending s None in omega (arith, l, long)))
      (nat_cases t s);
}

pub matches_goes : (old new : List (Option Op)) (pending : List (Option PendingCall)) (s : ℕ) (p : PendingCall) → slice_get pending s ≡ Some (Some p)
    → has_call new s ≡ true → OthersRunOn old new s → MatchesPending old pending → MatchesPending new pending
matches_goes old new pending s p e now others m = subst (MatchesPending new) (set_same pending s (Some p) e) (matches_runs old new pending s p (get_within pending s (Some p) e) now others m)

pub begun_is : (a : Answer) → is_begun a ≡ true → a ≡ Begun
begun_is Begun h = refl
begun_is a h = absurd cc

pub not_begun : (a : Answer) → is_begun a ≡ false → a ≡ Begun → ⊥
not_begun a h e = clash (is_begun a) (ap is_begun e) h

pub matches_stays : (old new : List (Option Op)) (pending : List (Option PendingCall)) → ((t : ℕ) → has_call new t ≡ has_call old t) → MatchesPending old pending → MatchesPending new pending
matches_stays old new pending same m = record { runs = λ t q h. same t ∙ m.runs t q h; rests = λ t h. same t ∙ m.rests t h; beyond = λ t l. same t ∙ m.beyond t l }
