-- Start numbers stay below the count of calls begun.
use Rattle.std.proofs.Common.{◌≡◌, ℕ, ◌<◌, Option, Some, None, List, length, slice_get, slice_set, sym, subst, inl, inr, ◌∙◌, arith}
use Rattle.session_calls.proofs.Imports.{cases_eq, State, after_begin, after_end, StartsAreBelow, HasTree, IsStart}
use Rattle.session_calls.proofs.Lists.{get_set_same, get_set_other}

pub starts_kept : (old new : State) → new.running ≡ old.running → new.begun ≡ old.begun → StartsAreBelow old → StartsAreBelow new
starts_kept old new running begun below start is =
    subst (λ (n : ℕ). start < n) (sym begun) (below start (subst (λ (l : List (Option ℕ)). IsStart l start) running is))

-- a call that begins has the count of calls begun before it
pub starts_begun : (st : State) (session : ℕ) → session < length st.running → StartsAreBelow st → StartsAreBelow (after_begin session st)
starts_begun st session within below start is = elim (cases_eq is.session session) [
  | inl e ↦ (
      let now : slice_get (slice_set st.running session (Some st.begun)) session ≡ Some (Some start) =
      subst (λ (s : ℕ). slice_get (slice_set st.running session (Some st.begun)) s ≡ Some (Some start)) e is.is in
      let own : Some (Some st.begun) ≡ Some (Some start) = sym (get_set_same {A = Option ℕ} st.running session (Some st.begun) within) ∙ now in
      let same : st.begun ≡ start = cc in
      omega arith)
  | inr n ↦ (
      let was = below start (record { session = is.session; is = sym (get_set_other {A = Option ℕ} st.running session is.session (Some st.begun) n) ∙ is.is }) in
      omega arith)
]

-- one that ends has none
pub starts_ended : (st : State) (session : ℕ) → session < length st.running → StartsAreBelow st → StartsAreBelow (after_end session st)
starts_ended st session within below start is = elim (cases_eq is.session session) [
  | inl e ↦ (
      let now : slice_get (slice_set st.running session None) session ≡ Some (Some start) =
      subst (λ (s : ℕ). slice_get (slice_set st.running session None) s ≡ Some (Some start)) e is.is in
      let own : (let n : Option (Option ℕ) = Some None in n) ≡ Some (Some start) = sym (get_set_same {A = Option ℕ} st.running session None within) ∙ now in
      absurd cc)
  | inr n ↦ below start (record { session = is.session; is = sym (get_set_other {A = Option ℕ} st.running session is.session None n) ∙ is.is })
]

-- the tree of a store is a tree still when a call begins: no deletion number is above its start number
pub tree_begun : (st : State) (session : ℕ) → session < length st.running → HasTree st → HasTree (after_begin session st)
tree_begun st session within has = record {
  tree = has.tree;
  stored = has.stored;
  counted = has.counted;
  within = λ block. (let few = has.within block in omega arith);
  lead = λ start is. elim (cases_eq is.session session) [
    | inl e ↦ (
        let now : slice_get (slice_set st.running session (Some st.begun)) session ≡ Some (Some start) =
        subst (λ (s : ℕ). slice_get (slice_set st.running session (Some st.begun)) s ≡ Some (Some start)) e is.is in
        let own : Some (Some st.begun) ≡ Some (Some start) = sym (get_set_same {A = Option ℕ} st.running session (Some st.begun) within) ∙ now in
        let same : st.begun ≡ start = cc in (
          (λ b r kept right. let few = has.within b in let late = kept.late in absurd (omega arith)),
          (λ b r kept right. let few = has.within b in let late = kept.late in absurd (omega arith)),
        ))
    | inr n ↦ has.lead start (record { session = is.session; is = sym (get_set_other {A = Option ℕ} st.running session is.session (Some st.begun) n) ∙ is.is })
  ];
  unique = has.unique;
}

-- ... and when one ends
pub tree_ended : (st : State) (session : ℕ) → session < length st.running → HasTree st → HasTree (after_end session st)
tree_ended st session within has = record {
  tree = has.tree;
  stored = has.stored;
  counted = has.counted;
  within = has.within;
  lead = λ start is. elim (cases_eq is.session session) [
    | inl e ↦ (
        let now : slice_get (slice_set st.running session None) session ≡ Some (Some start) =
        subst (λ (s : ℕ). slice_get (slice_set st.running session None) s ≡ Some (Some start)) e is.is in
        let own : (let n : Option (Option ℕ) = Some None in n) ≡ Some (Some start) = sym (get_set_same {A = Option ℕ} st.running session None within) ∙ now in
        absurd cc)
    | inr n ↦ has.lead start (record { session = is.session; is = sym (get_set_other {A = Option ℕ} st.running session is.session None n) ∙ is.is })
  ];
  unique = has.unique;
}
