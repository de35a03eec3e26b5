-- What the acts of a cleanup leave of entries and states.
use Rattle.std.proofs.Common.{◌≡◌, ◌≢◌, ℕ, inl, inr, true, List, [], ◌∷◌, length, slice_get, Option, Some, None, refl, sym, ap, subst, ◌∙◌, arith}
use Rattle.vacuum.proofs.Removing.{live_is}
use Rattle.page_delete.proofs.Imports.{cases_eq, Two, renewed, Downlink, Page, Live, HalfDead, State, after_act, with_pages, AreActable, MayDie, as_deleted, HasLinks, with_downlinks, node_from}
use Rattle.page_delete.proofs.Imports.{nodes_of, pages_other, pages_first, pages_second, pages_third, entry_count, no_leaf_count, IsTakenLeft, LeafDies, PageIsDeleted, unlinked}
use Rattle.page_delete.proofs.Dying.{links_no_leaf}

-- the state of a page that is there
state_at : (pages : List Page) (b : ℕ) (page : Page) → slice_get pages b ≡ Some page → (nodes_of pages b).state ≡ page.state
state_at pages b page found = ap (λ (o : Option Page). (node_from o).state) found

count_at : (pages : List Page) (b : ℕ) (page : Page) → slice_get pages b ≡ Some page → entry_count (slice_get pages b) ≡ entry_count (Some page)
count_at pages b page found = ap entry_count found

-- an empty leaf has no entries, nor has an internal or a half-dead page
pub leaf_count : (page : Page) → MayDie page → entry_count (Some page) ≡ 0
leaf_count page may = ap length (live_is page may.alive may.leaf ∙ may.empty)

internal_count : (page : Page) → HasLinks page.items → entry_count (Some page) ≡ 0
internal_count page links = no_leaf_count page (λ alive leaf. links_no_leaf page.items leaf links)

pub dead_count : (page : Page) → page.state ≡ HalfDead → entry_count (Some page) ≡ 0
dead_count page dead = no_leaf_count page (λ alive leaf. clash (sym alive ∙ dead))
  where
    clash : Live ≡ HalfDead → ⊥
    clash e = cc

-- the leaf becomes half-dead
pub dying_moves : (st : State) (leaf parent leaf_after parent_after : Page) (links : List Downlink) → slice_get st.pages leaf.block ≡ Some leaf
    → slice_get st.pages parent.block ≡ Some parent → MayDie leaf
    → HasLinks parent.items → AreActable st.format (length st.pages) (leaf_after ∷ parent_after ∷ [])
    → leaf_after ≡ record leaf { layout = Two; state = HalfDead } → parent_after ≡ with_downlinks (renewed parent) links
    → LeafDies leaf.block st (after_act (leaf_after ∷ parent_after ∷ []) st)
dying_moves st leaf parent leaf_after parent_after links found parent_found may_die internal may leaf_is parent_is = record {
  counts = λ b. elim (cases_eq b leaf.block) [
    | inl is_leaf ↦ rw is_leaf (count_at pages2 leaf.block leaf_after leaf_there ∙ after_count ∙ sym (count_at st.pages leaf.block leaf found ∙ leaf_count leaf may_die))
    | inr not_leaf ↦ elim (cases_eq b parent.block) [
      | inl is_parent ↦ rw is_parent (count_at pages2 parent.block parent_after parent_there ∙ parent_count ∙ sym (count_at st.pages parent.block parent parent_found ∙ internal_count parent internal))
      | inr not_parent ↦ ap entry_count (other b not_leaf not_parent)
    ]
  ];
  others = λ b not_leaf. elim (cases_eq b parent.block) [
    | inl is_parent ↦ rw is_parent (state_at pages2 parent.block parent_after parent_there ∙ ap (λ (p : Page). p.state) parent_is ∙ sym (state_at st.pages parent.block parent parent_found))
    | inr not_parent ↦ ap (λ (o : Option Page). (node_from o).state) (other b not_leaf not_parent)
  ];
  before = state_at st.pages leaf.block leaf found ∙ may_die.alive;
  after = state_at pages2 leaf.block leaf_after leaf_there ∙ ap (λ (p : Page). p.state) leaf_is;
}
  where
    pages2 : List Page
    pages2 = with_pages st.pages (leaf_after ∷ parent_after ∷ [])

    leaf_there : slice_get (with_pages st.pages (leaf_after ∷ parent_after ∷ [])) leaf.block ≡ Some leaf_after
    leaf_there = subst (λ (b : ℕ). slice_get (with_pages st.pages (leaf_after ∷ parent_after ∷ [])) b ≡ Some leaf_after) (ap (λ (p : Page). p.block) leaf_is)
        (pages_first st.format (length st.pages) st.pages leaf_after (parent_after ∷ []) may (omega arith))

    parent_there : slice_get (with_pages st.pages (leaf_after ∷ parent_after ∷ [])) parent.block ≡ Some parent_after
    parent_there = subst (λ (b : ℕ). slice_get (with_pages st.pages (leaf_after ∷ parent_after ∷ [])) b ≡ Some parent_after) (ap (λ (p : Page). p.block) parent_is)
        (pages_second st.format (length st.pages) st.pages leaf_after parent_after [] may (omega arith))

    other : (b : ℕ) → b ≢ leaf.block → b ≢ parent.block → slice_get (with_pages st.pages (leaf_after ∷ parent_after ∷ [])) b ≡ slice_get st.pages b
    other b not_leaf not_parent = pages_other st.format (length st.pages) st.pages (leaf_after ∷ parent_after ∷ []) b may (omega arith)
        ((λ same. not_leaf (sym same ∙ ap (λ (p : Page). p.block) leaf_is)), ((λ same. not_parent (sym same ∙ ap (λ (p : Page). p.block) parent_is)), tt))

    after_count : entry_count (Some leaf_after) ≡ 0
    after_count = ap (λ (p : Page). entry_count (Some p)) leaf_is

    parent_count : entry_count (Some parent_after) ≡ 0
    parent_count = internal_count parent_after (subst (λ (p : Page). HasLinks p.items) (sym parent_is) tt)

-- the page is deleted
module _ (st : State) (page right : Page) (number : ℕ) (found : slice_get st.pages page.block ≡ Some page) (dead : page.state ≡ HalfDead)
    (right_found : slice_get st.pages right.block ≡ Some right) where
  abbrev gone : Page
  gone = as_deleted page number

  abbrev right_after : Page
  right_after = record right { layout = Two; left = page.left }

  moved : (pages2 : List Page) → slice_get pages2 page.block ≡ Some gone → slice_get pages2 right.block ≡ Some right_after
      → ((b : ℕ) → b ≢ page.block → b ≢ right.block → (entry_count (slice_get pages2 b) ≡ entry_count (slice_get st.pages b)) × ((nodes_of pages2 b).state ≡ (nodes_of st.pages b).state))
      → ((b : ℕ) → entry_count (slice_get pages2 b) ≡ entry_count (slice_get st.pages b)) × ((b : ℕ) → b ≢ page.block → (nodes_of pages2 b).state ≡ (nodes_of st.pages b).state)
  moved pages2 gone_there right_there other = (
    (λ b. elim (cases_eq b page.block) [
      | inl is_page ↦ rw is_page (count_at pages2 page.block gone gone_there ∙ sym (count_at st.pages page.block page found ∙ dead_count page dead))
      | inr not_page ↦ elim (cases_eq b right.block) [
        | inl is_right ↦ rw is_right (count_at pages2 right.block right_after right_there ∙ sym (count_at st.pages right.block right right_found))
        | inr not_right ↦ (other b not_page not_right).0
      ]
    ]),
    (λ b not_page. elim (cases_eq b right.block) [
      | inl is_right ↦ rw is_right (state_at pages2 right.block right_after right_there ∙ sym (state_at st.pages right.block right right_found))
      | inr not_right ↦ (other b not_page not_right).1
    ]),
  )

  pub unlinking_moves : (session : ℕ) (left : Option Page) → IsTakenLeft st true session page page.left left → AreActable st.format (length st.pages) (unlinked left page right number)
      → PageIsDeleted page.block st (after_act (unlinked left page right number) st)
  unlinking_moves session left taken may = by page.left left taken may
    where
      by : (link : Option ℕ) (left : Option Page) → IsTakenLeft st true session page link left → AreActable st.format (length st.pages) (unlinked left page right number)
          → PageIsDeleted page.block st (after_act (unlinked left page right number) st)
      by None None t may =
          let there = pages_first st.format (length st.pages) st.pages gone (right_after ∷ []) may (omega arith) in
          let m = moved (with_pages st.pages (gone ∷ right_after ∷ [])) there (pages_second st.format (length st.pages) st.pages gone right_after [] may (omega arith))
          (λ b not_page not_right.
          let same = pages_other st.format (length st.pages) st.pages (gone ∷ right_after ∷ []) b may (omega arith) ((λ e. not_page (sym e)), ((λ e. not_right (sym e)), tt)) in
          (ap entry_count same, ap (λ (o : Option Page). (node_from o).state) same)) in
          record { counts = m.0; others = m.1; before = state_at st.pages page.block page found ∙ dead; after = state_at _ page.block gone there }
      by None (Some l) t may = absurd t
      by (Some k) None t may = absurd t
      by (Some k) (Some l) t may =
          let left_after = record l { layout = Two; right = Some right.block } in
          let there = pages_second st.format (length st.pages) st.pages left_after gone (right_after ∷ []) may (omega arith) in
          let first = pages_first st.format (length st.pages) st.pages left_after (gone ∷ right_after ∷ []) may (omega arith) in
          let left_found : slice_get st.pages l.block ≡ Some l = subst (λ (b : ℕ). slice_get st.pages b ≡ Some l) (sym t.0.stored.block_is) (t.0.found refl) in
          let m = moved (with_pages st.pages (left_after ∷ gone ∷ right_after ∷ [])) there (pages_third st.format (length st.pages) st.pages left_after gone right_after [] may (omega arith))
          (λ b not_page not_right. elim (cases_eq b l.block) [
            | inl is_left ↦ rw is_left
                (count_at _ l.block left_after first ∙ sym (count_at st.pages l.block l left_found), state_at _ l.block left_after first ∙ sym (state_at st.pages l.block l left_found))
            | inr not_left ↦
                let same = pages_other st.format (length st.pages) st.pages (left_after ∷ gone ∷ right_after ∷ []) b may (omega arith)
                ((λ e. not_left (sym e)), ((λ e. not_page (sym e)), ((λ e. not_right (sym e)), tt))) in
                (ap entry_count same, ap (λ (o : Option Page). (node_from o).state) same)
          ]) in
          record { counts = m.0; others = m.1; before = state_at st.pages page.block page found ∙ dead; after = state_at _ page.block gone there }
