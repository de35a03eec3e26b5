-- A way along left links from a page of a chain: it stays on the chain, comes to its first page and never
-- back.
use Rattle.std.proofs.Common.{◌≡◌, ◌≢◌, ℕ, zero, suc, ◌-◌, ◌<◌, ◌≤◌, inl, inr, Option, Some, None, List, [], ◌∷◌, length, take, slice_get, refl, sym, ap, subst, ◌∙◌, arith}
use Rattle.damages.proofs.Imports.{cases_lt, Node, LeftContext, past, context_after, first_context, IsRunOf, AreDistinct, or_block, moved_left}
use Rattle.damages.proofs.Decided.{no_link}
use Rattle.damages.proofs.Places.{one_place, placed_at}

pub place_below : (xs : List ℕ) (n b : ℕ) → slice_get xs n ≡ Some b → n < length xs
place_below [] n b e = absurd (no_link e)
place_below (x ∷ xs) zero b e = omega arith
place_below (x ∷ xs) (suc n) b e = (let r = place_below xs n b e in omega arith)

-- before each place but the first there is one, whose page stands left of it
left_at : (at : ℕ → Node) (s : LeftContext) (xs : List ℕ) (q b : ℕ) → slice_get xs (suc q) ≡ Some b
    → (c : ℕ) × (slice_get xs q ≡ Some c) × ((context_after at s (take (suc q) xs)).left ≡ Some c)
left_at at s [] q b e = absurd (no_link e)
left_at at s (x ∷ xs) zero b e = (x, refl, refl)
left_at at s (x ∷ xs) (suc q) b e = left_at at (past x (at x) s) xs q b e

module _ (at : ℕ → Node) (level : ℕ) (xs : List ℕ) (run : IsRunOf at level first_context xs None) (start p : ℕ) (there : slice_get xs p ≡ Some start) where
  step : (q b : ℕ) → slice_get xs q ≡ Some b → slice_get xs (q - 1) ≡ Some (or_block (at b).left b)
  step zero b e = e ∙ ap (λ (o : Option ℕ). Some (or_block o b)) (sym (placed_at at level first_context xs 0 b run e).left_is)
  step (suc q) b e =
      let l = left_at at first_context xs q b e in
      let left : (at b).left ≡ Some l.0 = (placed_at at level first_context xs (suc q) b run e).left_is ∙ l.2 in
      subst (λ (n : ℕ). slice_get xs n ≡ Some (or_block (at b).left b)) (let k : q ≡ suc q - 1 = omega arith in k) (l.1 ∙ ap (λ (o : Option ℕ). Some (or_block o b)) (sym left))

  pub moved_to : (n : ℕ) → slice_get xs (p - n) ≡ Some (moved_left at start n)
  moved_to zero = subst (λ (k : ℕ). slice_get xs k ≡ Some start) (let k : p ≡ p - 0 = omega arith in k) there
  moved_to (suc n) = subst (λ (k : ℕ). slice_get xs k ≡ Some (moved_left at start (suc n))) (let k : p - n - 1 ≡ p - suc n = omega arith in k) (step (p - n) (moved_left at start n) (moved_to n))

  pub gone_first : (used : ℕ) → length xs ≤ used → slice_get xs 0 ≡ Some (moved_left at start used)
  gone_first used few = subst (λ (k : ℕ). slice_get xs k ≡ Some (moved_left at start used)) (let lt = place_below xs p start there in let k : p - used ≡ 0 = omega arith in k) (moved_to used)

  pub never_back : AreDistinct xs → (before met : ℕ) → (at (moved_left at start before)).left ≢ None → met ≤ before
      → moved_left at start met ≡ moved_left at start (suc before) → ⊥
  never_back distinct before met goes_on earlier same =
      let one = one_place xs (p - met) (p - suc before) (moved_left at start (suc before)) distinct (moved_to met ∙ ap Some same) (moved_to (suc before)) in
      elim (cases_lt before p) [
        | inl lt ↦ absurd (omega (arith, one))
        | inr ge ↦ goes_on (ended (let k : p - before ≡ 0 = omega arith in k))
      ]
    where
      ended : p - before ≡ 0 → (at (moved_left at start before)).left ≡ None
      ended e = (placed_at at level first_context xs 0 (moved_left at start before) run (subst (λ (k : ℕ). slice_get xs k ≡ Some (moved_left at start before)) e (moved_to before))).left_is
