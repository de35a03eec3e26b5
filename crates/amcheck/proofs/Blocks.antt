-- One more block in a list of different ones.
use Rattle.std.proofs.Common.{◌≡◌, ◌≢◌, ◌↔◌, ℕ, ◌<◌, inl, inr, Bool, true, false, List, [], ◌∷◌, ◌++◌, length, get_or, slice_set, sym, subst, ◌∙◌}
use Rattle.amcheck.proofs.Imports.{cases_eq, get_or-set_same, get_or-set_other, IsIn, AreDistinct, in_append_left, in_append_right, in_append_cases, apart_append}

pub distinct_more : (xs : List ℕ) (b : ℕ) → AreDistinct xs → (IsIn b xs → ⊥) → AreDistinct (xs ++ b ∷ [])
distinct_more xs b d not = apart_append xs (b ∷ []) d (tt, tt)
    (λ c e i j. elim j as (λ w. c ≢ e) [ inl same ↦ λ (k : c ≡ e). not (subst (λ (n : ℕ). IsIn n xs) (k ∙ same) i) | inr none' ↦ absurd none' ])

pub inside_more : (P : ℕ → Type 0) (xs : List ℕ) (b : ℕ) → ((c : ℕ) → IsIn c xs → P c) → P b → (c : ℕ) → IsIn c (xs ++ b ∷ []) → P c
inside_more P xs b old new c i = elim (in_append_cases c xs (b ∷ []) i) [
  | inl l ↦ old c l
  | inr (inl same) ↦ subst P (sym same) new
  | inr (inr none') ↦ absurd none'
]

-- a block more is marked
pub marked_more : (marks : List Bool) (xs : List ℕ) (b : ℕ) → b < length marks → ((c : ℕ) → (get_or marks c false ≡ true) ↔ IsIn c xs)
    → (c : ℕ) → (get_or (slice_set marks b true) c false ≡ true) ↔ IsIn c (xs ++ b ∷ [])
marked_more marks xs b lt old c = elim (cases_eq c b) [
  | inl same ↦ (
    λ h. in_append_right c xs (b ∷ []) (inl same),
    λ i. subst (λ (n : ℕ). get_or (slice_set marks b true) n false ≡ true) (sym same) (get_or-set_same marks b true false lt),
  )
  | inr differ ↦ (
    λ h. in_append_left c xs (b ∷ []) ((old c).0 (sym (get_or-set_other marks b c true false (λ e. differ e)) ∙ h)),
    λ i. get_or-set_other marks b c true false (λ e. differ e) ∙ (old c).1 (elim (in_append_cases c xs (b ∷ []) i) [
      | inl l ↦ l
      | inr (inl same) ↦ absurd (differ same)
      | inr (inr none') ↦ absurd none'
    ]),
  )
]
