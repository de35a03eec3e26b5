-- Lists with one element more at their end.
use Rattle.std.proofs.Common.{◌≡◌, ◌⊎◌, ℕ, zero, suc, List, [], ◌∷◌, ◌++◌, length, Option, Some, None, IfSome, slice_get, ⊎_elim, inl, inr, arith}
use Rattle.session_seats.specs.declared.call.PendingCall.{PendingCall}

module _ {A : Type 0} where
  -- a fact of each element, at its place, and of one more
  pub some_snoc : (P : ℕ → A → Type 0) (xs : List A) (x : A) → ((k : ℕ) → IfSome (slice_get xs k) (P k)) → P (length xs) x → (k : ℕ) → IfSome (slice_get (xs ++ x ∷ []) k) (P k)
  some_snoc P [] x each last zero = last
  some_snoc P [] x each last (suc k) = tt
  some_snoc P (y ∷ xs) x each last zero = each 0
  some_snoc P (y ∷ xs) x each last (suc k) = some_snoc (λ n. P (suc n)) xs x (λ n. each (suc n)) last k

  -- ... and of one in their middle
  pub some_middle : (P : ℕ → A → Type 0) (ys : List A) (x : A) (zs : List A) → ((k : ℕ) → IfSome (slice_get (ys ++ x ∷ zs) k) (P k)) → P (length ys) x
  some_middle P [] x zs each = each 0
  some_middle P (y ∷ ys) x zs each = some_middle (λ n. P (suc n)) ys x zs (λ n. each (suc n))

  pub get_snoc : (xs : List A) (x y : A) (k : ℕ) → slice_get (xs ++ x ∷ []) k ≡ Some y → (slice_get xs k ≡ Some y) ⊎ (x ≡ y)
  get_snoc [] x y zero e = inr (cc e)
  get_snoc [] x y (suc k) e = absurd (cc)
  get_snoc (z ∷ xs) x y zero e = inl e
  get_snoc (z ∷ xs) x y (suc k) e = get_snoc xs x y k e

-- a fact of the elements at each place of two lists that are equally long, and of one more of each
pub both_snoc : {A B : Type 0} (P : A → B → Type 0) (xs : List A) (ys : List B) (x : A) (y : B) → length xs ≡ length ys → ((k : ℕ) → IfSome (slice_get xs k) (λ a. IfSome (slice_get ys k) (P a))) → P x y
    → (k : ℕ) → IfSome (slice_get (xs ++ x ∷ []) k) (λ a. IfSome (slice_get (ys ++ y ∷ []) k) (P a))
both_snoc P [] [] x y long each last zero = last
both_snoc P [] [] x y long each last (suc k) = tt
both_snoc P [] (b ∷ ys) x y long each last k = absurd (omega (arith, long))
both_snoc P (a ∷ xs) [] x y long each last k = absurd (omega (arith, long))
both_snoc P (a ∷ xs) (b ∷ ys) x y long each last zero = each 0
both_snoc P (a ∷ xs) (b ∷ ys) x y long each last (suc k) = both_snoc P xs ys x y (omega (arith, long)) (λ n. each (suc n)) last k

-- no session runs a call, and one more runs none
pub none_snoc : (pending : List (Option PendingCall)) → ((k : ℕ) (p : PendingCall) → slice_get pending k ≡ Some (Some p) → ⊥) → (k : ℕ) (p : PendingCall) → slice_get (pending ++ None ∷ []) k ≡ Some (Some p) → ⊥
none_snoc pending none k p e = ⊎_elim (λ h. none k p h) (λ h. absurd (cc)) (get_snoc pending None (Some p) k e)
