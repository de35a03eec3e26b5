-- Reading a list that was made longer or written.
use Rattle.std.proofs.Common.{◌≡◌, ◌≢◌, ℕ, zero, suc, ◌<◌, List, [], ◌∷◌, ◌++◌, length, set, Some, slice_get, refl, ap, arith}

module _ {A : Type 0} where
  pub get_front : (xs ys : List A) (k : ℕ) (p : A) → slice_get xs k ≡ Some p → slice_get (xs ++ ys) k ≡ Some p
  get_front [] ys k p e = absurd (cc)
  get_front (x ∷ xs) ys zero p e = e
  get_front (x ∷ xs) ys (suc k) p e = get_front xs ys k p e

  pub get_last : (xs : List A) (x : A) → slice_get (xs ++ x ∷ []) (length xs) ≡ Some x
  get_last [] x = refl
  get_last (y ∷ xs) x = get_last xs x

  pub get_within : (xs : List A) (k : ℕ) (x : A) → slice_get xs k ≡ Some x → k < length xs
  get_within [] k x e = absurd (cc)
  get_within (y ∷ xs) zero x e = omega arith
  get_within (y ∷ xs) (suc k) x e = omega (arith, get_within xs k x e)

  pub set_else : (xs : List A) (i j : ℕ) (v : A) → j ≢ i → slice_get (set xs i v) j ≡ slice_get xs j
  set_else [] i j v n = refl
  set_else (x ∷ xs) zero zero v n = absurd (n refl)
  set_else (x ∷ xs) zero (suc j) v n = refl
  set_else (x ∷ xs) (suc i) zero v n = refl
  set_else (x ∷ xs) (suc i) (suc j) v n = set_else xs i j v (λ e. n (ap suc e))

  pub set_here : (xs : List A) (i : ℕ) (x v : A) → slice_get xs i ≡ Some x → slice_get (set xs i v) i ≡ Some v
  set_here [] i x v e = absurd (cc)
  set_here (y ∷ xs) zero x v e = refl
  set_here (y ∷ xs) (suc i) x v e = set_here xs i x v e
