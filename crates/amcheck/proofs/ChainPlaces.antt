-- The places of the stops are noted one after the other.
use Rattle.std.proofs.Common.{◌≡◌, ◌≢◌, ℕ, suc, ◌<◌, ◌≤◌, inl, inr, Option, Some, None, List, length, slice_get, slice_set, get_or, sym, ap, subst, ◌∙◌, arith}
use Rattle.amcheck.proofs.Imports.{cases_eq, get_or-set_same, get_or-set_other, no_link, PlacesAreOfStops, Stop, same_Some}
use Rattle.amcheck.proofs.Walked.{stop_inside}

-- ... those before this one
pub record ArePlacesTo (n : ℕ) (stops : List Stop) (places : List (Option ℕ)) : Type 0 where
  pub there : (b k : ℕ) → get_or places b None ≡ Some k → (s : Stop) × (slice_get stops k ≡ Some s) × (s.block ≡ b)
  pub none : (b k : ℕ) (s : Stop) → k < n → get_or places b None ≡ None → slice_get stops k ≡ Some s → s.block ≢ b

pub no_places : (stops : List Stop) (places : List (Option ℕ)) → ((b : ℕ) → get_or places b None ≡ None) → ArePlacesTo 0 stops places
no_places stops places none = record {
  there = λ b k e. absurd (no_link (sym (none b) ∙ e));
  none = λ b k s lt. absurd (omega arith);
}

pub all_places : (n : ℕ) (stops : List Stop) (places : List (Option ℕ)) → length stops ≤ n → ArePlacesTo n stops places → PlacesAreOfStops stops places
all_places n stops places le to = record {
  there = to.there;
  none = λ b k s e found. to.none b k s (let lt = stop_inside stops k s found in omega arith) e found;
}

module _ (stops : List Stop) (places : List (Option ℕ)) (n : ℕ) (s : Stop) (found : slice_get stops n ≡ Some s) (inside : s.block < length places) (to : ArePlacesTo n stops places) where
  abbrev after : List (Option ℕ)
  after = slice_set places s.block (Some n)

  here : (b : ℕ) → b ≡ s.block → get_or after b None ≡ Some n
  here b same = ap (λ (c : ℕ). get_or after c None) same ∙ get_or-set_same places s.block (Some n) None inside

  elsewhere : (b : ℕ) → b ≢ s.block → get_or after b None ≡ get_or places b None
  elsewhere b differs = get_or-set_other places s.block b (Some n) None (λ e. differs e)

  there_more : (b k : ℕ) → get_or after b None ≡ Some k → (t : Stop) × (slice_get stops k ≡ Some t) × (t.block ≡ b)
  there_more b k e = elim (cases_eq b s.block) [
    | inl same ↦
        let k_is : n ≡ k = same_Some n k (sym (here b same) ∙ e) in
        (s, subst (λ (j : ℕ). slice_get stops j ≡ Some s) k_is found, sym same)
    | inr differs ↦ to.there b k (sym (elsewhere b differs) ∙ e)
  ]

  none_more : (b k : ℕ) (t : Stop) → k < suc n → get_or after b None ≡ None → slice_get stops k ≡ Some t → t.block ≢ b
  none_more b k t lt e there = elim (cases_eq b s.block) [
    | inl same ↦ absurd (no_link (sym e ∙ here b same))
    | inr differs ↦ elim (cases_eq k n) [
      | inl last ↦
          let t_is : s ≡ t = same_Some s t (sym found ∙ subst (λ (j : ℕ). slice_get stops j ≡ Some t) last there) in
          λ block. differs (sym block ∙ ap (λ (u : Stop). u.block) (sym t_is))
      | inr before ↦ to.none b k t (omega arith) (sym (elsewhere b differs) ∙ e) there
    ]
  ]

  pub places_more : (m : ℕ) → m ≡ suc n → ArePlacesTo m stops (slice_set places s.block (Some n))
  places_more m is = subst (λ (j : ℕ). ArePlacesTo j stops (slice_set places s.block (Some n))) (sym is) (record { there = there_more; none = none_more })
