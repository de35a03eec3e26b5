-- Leaves that others have pinned stay after the acts of a cleanup.
use Rattle.std.proofs.Common.{◌≡◌, ◌≢◌, ℕ, inl, inr, true, false, List, [], ◌∷◌, length, slice_get, Option, Some, None, refl, sym, ap, subst, ◌∙◌, arith}
use Rattle.vacuum.proofs.Holding.{pinned_is_held}
use Rattle.page_delete.proofs.Dying.{links_no_leaf}
use Rattle.page_delete.proofs.Imports.{cases_eq, is_held_by_another, Cleanup, Two, HasEntries, Page, Live, HalfDead, State, after_act, with_pages, AreActable, as_deleted, HasLinks, IsLeafAt}
use Rattle.page_delete.proofs.Imports.{WasLeaf, pages_other, pages_first, pages_second, pages_third, IsTakenLeft, PinnedLeafPagesStay, unlinked, same_page}

-- a page that keeps its state and its items
leaf_kept : (pages pages2 : List Page) (b : ℕ) (page before after : Page) → IsLeafAt pages b page → slice_get pages b ≡ Some before → slice_get pages2 b ≡ Some after
    → after.state ≡ before.state → after.items ≡ before.items → WasLeaf pages2 b
leaf_kept pages pages2 b page before after at found found2 state items =
    let one : page ≡ before = same_page pages b page before at.found found in
    record {
      page = after;
      was = record {
        found = found2;
        alive = state ∙ sym (ap (λ (p : Page). p.state) one) ∙ at.alive;
        leaf = subst HasEntries (sym items) (subst (λ (p : Page). HasEntries p.items) one at.leaf);
      };
    }

leaf_same : (pages pages2 : List Page) (b : ℕ) (page : Page) → IsLeafAt pages b page → slice_get pages2 b ≡ slice_get pages b → WasLeaf pages2 b
leaf_same pages pages2 b page at same = record { page = page; was = record { found = same ∙ at.found; alive = at.alive; leaf = at.leaf } }

-- a leaf that is made half-dead is pinned by no other session
pub pinned_dying : (st : State) (session : ℕ) (leaf parent leaf_after parent_after : Page)
    → is_held_by_another st.table session leaf.block Cleanup ≡ false → slice_get st.pages parent.block ≡ Some parent
    → HasLinks parent.items → AreActable st.format (length st.pages) (leaf_after ∷ parent_after ∷ []) → leaf_after.block ≡ leaf.block → parent_after.block ≡ parent.block
    → PinnedLeafPagesStay session st (after_act (leaf_after ∷ parent_after ∷ []) st)
pinned_dying st session leaf parent leaf_after parent_after free parent_found internal may leaf_is parent_is other b page differ at pin = elim (cases_eq b leaf.block) [
  | inl is_leaf ↦ absurd (pinned_is_held st.table session other b differ pin (subst (λ (k : ℕ). is_held_by_another st.table session k Cleanup ≡ false) (sym is_leaf) free))
  | inr not_leaf ↦ elim (cases_eq b parent.block) [
    | inl is_parent ↦ (
        let one : page ≡ parent = same_page st.pages b page parent at.found (subst (λ (k : ℕ). slice_get st.pages k ≡ Some parent) (sym is_parent) parent_found) in
        absurd (links_no_leaf page.items at.leaf (subst (λ (p : Page). HasLinks p.items) (sym one) internal)))
    | inr not_parent ↦ leaf_same st.pages (with_pages st.pages (leaf_after ∷ parent_after ∷ [])) b page at
        (pages_other st.format (length st.pages) st.pages (leaf_after ∷ parent_after ∷ []) b may (omega arith)
        ((λ same. not_leaf (sym same ∙ leaf_is)), ((λ same. not_parent (sym same ∙ parent_is)), tt)))
  ]
]

clash : Live ≡ HalfDead → ⊥
clash e = cc

-- a page that is unlinked is no live leaf, and its siblings keep their state and entries
module _ (st : State) (page right : Page) (number : ℕ) (found : slice_get st.pages page.block ≡ Some page) (dead : page.state ≡ HalfDead)
    (right_found : slice_get st.pages right.block ≡ Some right) where
  abbrev gone : Page
  gone = as_deleted page number

  abbrev right_after : Page
  right_after = record right { layout = Two; left = page.left }

  leaf_by : (pages2 : List Page) (b : ℕ) (p : Page) → IsLeafAt st.pages b p → slice_get pages2 right.block ≡ Some right_after
      → (b ≢ page.block → b ≢ right.block → WasLeaf pages2 b) → WasLeaf pages2 b
  leaf_by pages2 b p at right_there other = elim (cases_eq b page.block) [
    | inl is_page ↦ (
        let one : p ≡ page = same_page st.pages b p page at.found (subst (λ (k : ℕ). slice_get st.pages k ≡ Some page) (sym is_page) found) in
        absurd (clash (sym at.alive ∙ ap (λ (q : Page). q.state) one ∙ dead)))
    | inr not_page ↦ elim (cases_eq b right.block) [
      | inl is_right ↦ leaf_kept st.pages pages2 b p right right_after at (subst (λ (k : ℕ). slice_get st.pages k ≡ Some right) (sym is_right) right_found)
          (subst (λ (k : ℕ). slice_get pages2 k ≡ Some right_after) (sym is_right) right_there) refl refl
      | inr not_right ↦ other not_page not_right
    ]
  ]

  pub pinned_unlinking : (session : ℕ) (left : Option Page) → IsTakenLeft st true session page page.left left → AreActable st.format (length st.pages) (unlinked left page right number)
      → PinnedLeafPagesStay session st (after_act (unlinked left page right number) st)
  pinned_unlinking session left taken may other b p differ at pin = by page.left left taken may
    where
      by : (link : Option ℕ) (left : Option Page) → IsTakenLeft st true session page link left → AreActable st.format (length st.pages) (unlinked left page right number)
          → WasLeaf (with_pages st.pages (unlinked left page right number)) b
      by None None t may =
          leaf_by (with_pages st.pages (gone ∷ right_after ∷ [])) b p at (pages_second st.format (length st.pages) st.pages gone right_after [] may (omega arith))
          (λ not_page not_right. leaf_same st.pages (with_pages st.pages (gone ∷ right_after ∷ [])) b p at
          (pages_other st.format (length st.pages) st.pages (gone ∷ right_after ∷ []) b may (omega arith) ((λ e. not_page (sym e)), ((λ e. not_right (sym e)), tt))))
      by None (Some l) t may = absurd t
      by (Some k) None t may = absurd t
      by (Some k) (Some l) t may =
          let left_after = record l { layout = Two; right = Some right.block } in
          let first = pages_first st.format (length st.pages) st.pages left_after (gone ∷ right_after ∷ []) may (omega arith) in
          let left_found : slice_get st.pages l.block ≡ Some l = subst (λ (x : ℕ). slice_get st.pages x ≡ Some l) (sym t.0.stored.block_is) (t.0.found refl) in
          leaf_by (with_pages st.pages (left_after ∷ gone ∷ right_after ∷ [])) b p at (pages_third st.format (length st.pages) st.pages left_after gone right_after [] may (omega arith))
          (λ not_page not_right. elim (cases_eq b l.block) [
            | inl is_left ↦ leaf_kept st.pages (with_pages st.pages (left_after ∷ gone ∷ right_after ∷ [])) b p l left_after at
                (subst (λ (x : ℕ). slice_get st.pages x ≡ Some l) (sym is_left) left_found)
                (subst (λ (x : ℕ). slice_get (with_pages st.pages (left_after ∷ gone ∷ right_after ∷ [])) x ≡ Some left_after) (sym is_left) first) refl refl
            | inr not_left ↦ leaf_same st.pages (with_pages st.pages (left_after ∷ gone ∷ right_after ∷ [])) b p at
                (pages_other st.format (length st.pages) st.pages (left_after ∷ gone ∷ right_after ∷ []) b may (omega arith)
                ((λ e. not_left (sym e)), ((λ e. not_page (sym e)), ((λ e. not_right (sym e)), tt))))
          ])
