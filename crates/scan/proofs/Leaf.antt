-- What the leaf after the frontier gives a scan.
use Rattle.std.proofs.Common.{◌≡◌, ℕ, Bool, true, false, not, ◌&&◌, if◌then◌else◌, Option, Some, None, List, slice_get, IsSome, ◌↔◌, inl, inr, refl, sym, ap, subst, ◌∙◌}
use Rattle.index_model.proofs.Ascending.{AllByRecursion-among}
use Rattle.page_action.specs.Contents.{entry_on_live_leaf}
use Rattle.scan.proofs.Imports.{cases_Bool, and_parts, is_among, is_past, IsUpTo, from_admits, below_admits, Bound, Entry, entries_of, IsLiveLeaf, Page, State, IsCopiedFrom, entry_aim, false≢true}
use Rattle.scan.proofs.Imports.{frontier_aim, is_within, HasTree, HasCover, leaf_shows, frontier_shows, Position, IsAfter, LeafIsRead, after_reading, after_leaf, frontier_past, ScanAt, At, Last, ScanOp}
use Rattle.scan.proofs.Frontiers.{not_back, past_high, passed_stays, within_high, below_high}

-- what the frontier has passed is after the scan
pub is_after_leaf : (g : Bound) (high : Option Bound) (right : Option ℕ) (below : Option (List ℕ)) (e : Entry) → is_past g e ≡ false → IsAfter g (after_leaf high right below) e
is_after_leaf g None right below e h = tt
is_after_leaf g (Some high) None below e h = tt
is_after_leaf g (Some high) (Some right) below e h = go (below_admits below high.key)
  where
    go : (w : Bool) → IsAfter g (if w then At (record { block = right; level = 0; moves = 1 }) else Last) e
    go true = h
    go false = tt

-- a match beyond the frontier that is after the scan after a leaf isn't above the high key
within_after : (f : Bound) (high : Option Bound) (right : Option ℕ) (below : Option (List ℕ)) (e : Entry) → IsSome high ↔ IsSome right → is_past f e ≡ true → below_admits below e.key ≡ true
    → IsAfter (frontier_past f high) (after_leaf high right below) e → is_within (entry_aim e) high ≡ true
within_after f None right below e linked beyond inside h = refl
within_after f (Some high) None below e linked beyond inside h = absurd (false≢true (linked.0 refl))
within_after f (Some high) (Some right) below e linked beyond inside h = go (below_admits below high.key) refl h
  where
    go : (w : Bool) → below_admits below high.key ≡ w → IsAfter (frontier_past f (Some high)) (if w then At (record { block = right; level = 0; moves = 1 }) else Last) e → not (is_past high e) ≡ true
    go true e' h = ap not (within_high f high e beyond h)
    go false out h = ap not (below_high below high e out inside)

parts_of : (a b c : Bool) → (a && (b && c)) ≡ true → (a ≡ true) × (b ≡ true) × (c ≡ true)
parts_of true true true h = (refl, refl, refl)
parts_of true true false h = absurd cc
parts_of true false c h = absurd cc
parts_of false b c h = absurd cc

up_to_within : (high : Option Bound) (e : Entry) → IsUpTo high e → is_within (entry_aim e) high ≡ true
up_to_within None e h = refl
up_to_within (Some high) e h = ap not h

up_to_after : (f : Bound) (high : Option Bound) (right : Option ℕ) (below : Option (List ℕ)) (e : Entry) → IsUpTo high e → IsAfter (frontier_past f high) (after_leaf high right below) e
up_to_after f None right below e h = tt
up_to_after f (Some high) right below e h = is_after_leaf (frontier_past f (Some high)) (Some high) right below e (passed_stays high (frontier_past f (Some high)) (past_high f high) e h)

module _ (st : State) (before : ScanOp) (leaf : Option ℕ) (position : Position) (page : Page) (es : List Entry) (tree : HasTree st) (from : before.at ≡ At position)
    (started : (e : Entry) → is_past before.frontier e ≡ true → from_admits before.range.from e.key ≡ true)
    (found : slice_get st.pages page.block ≡ Some page) (cover : HasCover st 0 (frontier_aim before.frontier) page.block) (live : IsLiveLeaf page (entries_of page.items))
    (copied : IsCopiedFrom (entries_of page.items) before.frontier before.range.below es) where
  is_there : (e : Entry) → is_past before.frontier e ≡ true → is_within (entry_aim e) page.high ≡ true → entry_on_live_leaf st.pages e ≡ is_among (entries_of page.items) e
  is_there e beyond within = leaf_shows st e page tree found (frontier_shows st before.frontier e page tree found cover beyond within)

  given_parts : (e : Entry) → is_among es e ≡ true → (is_among (entries_of page.items) e ≡ true) × (is_past before.frontier e ≡ true) × (below_admits before.range.below e.key ≡ true)
  given_parts e m = parts_of _ _ _ (sym (copied.each e) ∙ m)

  up_to : (e : Entry) → is_among (entries_of page.items) e ≡ true → IsUpTo page.high e
  up_to e m = AllByRecursion-among (IsUpTo page.high) (entries_of page.items) e live.entries.within m

  after_before : (e : Entry) → is_past before.frontier e ≡ false → IsAfter before.frontier before.at e
  after_before e h = subst (λ (a : ScanAt). IsAfter before.frontier a e) (sym from) h

  passed_before : (e : Entry) → IsAfter before.frontier before.at e → is_past before.frontier e ≡ false
  passed_before e h = subst (λ (a : ScanAt). IsAfter before.frontier a e) from h

  pub reads_leaf : LeafIsRead st before (after_reading (record before { leaf = leaf }) page.high page.right es)
  reads_leaf = record {
    ascends = copied.ascends;
    matched = λ e m. (let p = given_parts e m in rw (started e p.1, p.2) refl);
    there = λ e m. (let p = given_parts e m in is_there e p.1 (up_to_within page.high e (up_to e p.0)) ∙ p.0);
    complete = λ e after match there.
        elim (cases_Bool (is_past before.frontier e)) [
          | inl beyond ↦
              let inside = (and_parts (from_admits before.range.from e.key) (below_admits before.range.below e.key) match).1 in
              let within = within_after before.frontier page.high page.right before.range.below e live.high beyond inside after in
              inr (copied.each e ∙ rw (sym (is_there e beyond within) ∙ there, beyond, inside) refl)
          | inr not_beyond ↦ inl (after_before e not_beyond)
        ];
    next_page = λ e m. up_to_after before.frontier page.high page.right before.range.below e (up_to e (given_parts e m).0);
    forward = λ e h. is_after_leaf (frontier_past before.frontier page.high) page.high page.right before.range.below e
        (passed_stays before.frontier (frontier_past before.frontier page.high) (not_back before.frontier page.high) e (passed_before e h));
  }
