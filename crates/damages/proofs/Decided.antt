-- What isn't refuted, of those facts that can be decided.
use Rattle.std.proofs.Common.{◌≡◌, ◌≢◌, ◌⊎◌, ℕ, ◌+◌, inl, inr, Bool, true, false, Option, Some, None, refl, sym, ap, ◌∙◌, arith}
use Rattle.std.specs.declared.cmp.Ordering.{Ordering}
use Rattle.std.specs.declared.cmp.Ordering.TheVariants.{Less, Equal, Greater}
use Rattle.std.proofs.lemmas.Cmp.{tied_itself}
use Rattle.index_model.proofs.Order.{bounds_total, exact_bounds}
use Rattle.damages.proofs.Imports.{is_lt, cases_eq, cases_lt, cases_Bool, bound_cmp, Bound, IsBeyond, Rises, Index, IsOnLevel, same_Some}

pub no_link : {A : Type 0} {n : A} → None ≡ Some n → ⊥
no_link e = cc

-- links
pub link_so : (o p : Option ℕ) → ((o ≢ p) → ⊥) → o ≡ p
link_so None None h = refl
link_so None (Some b) h = absurd (h no_link)
link_so (Some a) None h = absurd (h (λ e. no_link (sym e)))
link_so (Some a) (Some b) h = elim (cases_eq a b) [
  | inl e ↦ ap Some e
  | inr n ↦ absurd (h (λ e. n (same_Some a b e)))
]

pub link_cases : (o : Option ℕ) → (o ≡ None) ⊎ ((n : ℕ) × (o ≡ Some n))
link_cases None = inl refl
link_cases (Some n) = inr (n, refl)

-- bounds
same_or : (a b : Bound) → (a ≡ b) ⊎ (a ≢ b)
same_or a b = by (bound_cmp a b) refl
  where
    apart : (o : Ordering) → o ≢ Equal → bound_cmp a b ≡ o → a ≢ b
    apart o differs is same = differs (sym is ∙ ap (bound_cmp a) (sym same) ∙ tied_itself bounds_total a)

    by : (o : Ordering) → bound_cmp a b ≡ o → (a ≡ b) ⊎ (a ≢ b)
    by Equal is = inl (exact_bounds a b is)
    by Less is = inr (apart Less (λ e. cc) is)
    by Greater is = inr (apart Greater (λ e. cc) is)

pub bound_so : (a b : Option Bound) → ((a ≢ b) → ⊥) → a ≡ b
bound_so None None h = refl
bound_so None (Some b) h = absurd (h no_link)
bound_so (Some a) None h = absurd (h (λ e. no_link (sym e)))
bound_so (Some a) (Some b) h = elim (same_or a b) [
  | inl e ↦ ap Some e
  | inr n ↦ absurd (h (λ e. n (same_Some a b e)))
]

pub beyond_so : (low : Option Bound) (x : Bound) → ((IsBeyond low x → ⊥) → ⊥) → IsBeyond low x
beyond_so None x h = tt
beyond_so (Some low) x h = elim (cases_Bool (is_lt (bound_cmp low x))) [
  | inl holds ↦ holds
  | inr fails ↦ absurd (h (λ e. absurd (let k : true ≡ false = sym e ∙ fails in cc)))
]

pub rises_so : (low high : Option Bound) → ((Rises low high → ⊥) → ⊥) → Rises low high
rises_so low None h = tt
rises_so low (Some high) h = beyond_so low high h

pub bool_so : (b : Bool) → ((b ≡ true) → ⊥) → b ≡ false
bool_so true h = absurd (h refl)
bool_so false h = refl

pub on_level_so : (ix : Index) (depth block : ℕ) → ((IsOnLevel ix depth block → ⊥) → ⊥) → IsOnLevel ix depth block
on_level_so ix depth block h = elim (cases_lt 0 block) [
  | inr none ↦ absurd (h (λ on. let p = on.after_meta in absurd (omega arith)))
  | inl after_meta ↦ elim (cases_lt block ix.used) [
    | inr over ↦ absurd (h (λ on. let p = on.in_use in absurd (omega arith)))
    | inl in_use ↦ elim (cases_eq ((ix.at block).level + depth) ix.top) [
      | inr differs ↦ absurd (h (λ on. differs on.level_is))
      | inl level_is ↦ record { after_meta = after_meta; in_use = in_use; level_is = level_is }
    ]
  ]
]
