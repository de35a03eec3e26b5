-- The places of a level whose pages are a chain.
use Rattle.std.proofs.Common.{◌≡◌, ℕ, zero, suc, ◌+◌, ◌<◌, inl, inr, Option, Some, None, List, [], ◌∷◌, take, slice_get, refl, sym, ap, subst, ◌∙◌, arith}
use Rattle.damages.proofs.Imports.{Node, LeftContext, past, context_after, first_context, first_or, IsPlaced, IsRunOf, IsIn, AreDistinct, not_in_apart, not_in_from, Place, next_place, place_from}
use Rattle.damages.proofs.Imports.{same_Some}
use Rattle.damages.proofs.Decided.{no_link}

-- a block of the list, with its place there
pub record HasPlace (b : ℕ) (xs : List ℕ) : Type 0 where
  pub place : ℕ
  pub is : slice_get xs place ≡ Some b

pub at_from : (b : ℕ) (xs : List ℕ) → IsIn b xs → HasPlace b xs
at_from b [] i = absurd i
at_from b (x ∷ xs) (inl e) = record { place = 0; is = ap Some (sym e) }
at_from b (x ∷ xs) (inr i) = (let r = at_from b xs i in record { place = suc r.place; is = r.is })

pub in_from : (b : ℕ) (xs : List ℕ) (n : ℕ) → slice_get xs n ≡ Some b → IsIn b xs
in_from b [] n e = absurd (no_link e)
in_from b (x ∷ xs) zero e = inl (sym (same_Some x b e))
in_from b (x ∷ xs) (suc n) e = inr (in_from b xs n e)

-- different blocks have one place each
pub one_place : (xs : List ℕ) (m n b : ℕ) → AreDistinct xs → slice_get xs m ≡ Some b → slice_get xs n ≡ Some b → m ≡ n
one_place [] m n b d e f = absurd (no_link e)
one_place (x ∷ xs) zero zero b d e f = refl
one_place (x ∷ xs) zero (suc n) b d e f = absurd (not_in_apart x b xs d.0 (in_from b xs n f) (same_Some x b e))
one_place (x ∷ xs) (suc m) zero b d e f = absurd (not_in_apart x b xs d.0 (in_from b xs m e) (same_Some x b f))
one_place (x ∷ xs) (suc m) (suc n) b d e f = (let r = one_place xs m n b d.1 e f in omega (arith, r))

-- ... and blocks that no two places share are different
pub distinct_from : (xs : List ℕ) → ((m n b : ℕ) → m < n → slice_get xs m ≡ Some b → slice_get xs n ≡ Some b → ⊥) → AreDistinct xs
distinct_from [] h = tt
distinct_from (x ∷ xs) h = (
  not_in_from x xs (λ c i same. let a = at_from c xs i in h 0 (suc a.place) c (omega arith) (ap Some same) a.is),
  distinct_from xs (λ m n b lt e f. h (suc m) (suc n) b (omega arith) e f),
)

-- each page of a chain is placed, with those before it for its spot
pub placed_at : (at : ℕ → Node) (level : ℕ) (s : LeftContext) (xs : List ℕ) (n b : ℕ) → IsRunOf at level s xs None → slice_get xs n ≡ Some b
    → IsPlaced (at b) level (context_after at s (take n xs)) (slice_get xs (suc n))
placed_at at level s [] n b run e = absurd (no_link e)
placed_at at level s (x ∷ xs) zero b run e = subst (λ (c : ℕ). IsPlaced (at c) level s (slice_get xs 0)) (same_Some x b e) (subst (IsPlaced (at x) level s) (first_at xs) run.0)
  where
    first_at : (xs : List ℕ) → first_or xs None ≡ slice_get xs 0
    first_at [] = refl
    first_at (y ∷ ys) = refl
placed_at at level s (x ∷ xs) (suc n) b run e = placed_at at level (past x (at x) s) xs n b run.1 e

-- a walk along right links comes to the pages of the chain
places_from : (at : ℕ → Node) (level start : ℕ) (n k : ℕ) (s : LeftContext) (xs : List ℕ) → IsRunOf at level s xs None
    → place_from at start k ≡ record { context = s; block = first_or xs None }
    → (j : ℕ) → j ≡ n + k → place_from at start j ≡ record { context = context_after at s (take n xs); block = slice_get xs n }
places_from at level start zero k s [] run is j sum = subst (λ (i : ℕ). place_from at start i ≡ record { context = s; block = None }) (let e : k ≡ j = omega arith in e) is
places_from at level start zero k s (x ∷ xs) run is j sum = subst (λ (i : ℕ). place_from at start i ≡ record { context = s; block = Some x }) (let e : k ≡ j = omega arith in e) is
places_from at level start (suc n) k s [] run is j sum = nowhere n (suc k) (ap (λ (p : Place). next_place at p.context p.block) is) j (omega arith)
  where
    nowhere : (n k : ℕ) → place_from at start k ≡ record { context = s; block = None } → (j : ℕ) → j ≡ n + k
        → place_from at start j ≡ record { context = s; block = None }
    nowhere zero k is j sum = subst (λ (i : ℕ). place_from at start i ≡ record { context = s; block = None }) (let e : k ≡ j = omega arith in e) is
    nowhere (suc n) k is j sum = nowhere n (suc k) (ap (λ (p : Place). next_place at p.context p.block) is) j (omega arith)
places_from at level start (suc n) k s (x ∷ xs) run is j sum =
    places_from at level start n (suc k) (past x (at x) s) xs run.1
    (ap (λ (p : Place). next_place at p.context p.block) is ∙ ap (λ (o : Option ℕ). let p : Place = record { context = past x (at x) s; block = o } in p) run.0.right_is) j (omega arith)

pub place_is : (at : ℕ → Node) (level start : ℕ) (xs : List ℕ) → IsRunOf at level first_context xs None → first_or xs None ≡ Some start
    → (n : ℕ) → place_from at start n ≡ record { context = context_after at first_context (take n xs); block = slice_get xs n }
place_is at level start xs run begins n =
    places_from at level start n 0 first_context xs run (ap (λ (o : Option ℕ). let p : Place = record { context = first_context; block = o } in p) (sym begins)) n (omega arith)
