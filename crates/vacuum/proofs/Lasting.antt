-- What a bulk delete knows lasts while others act, and what is due to it is to come still.
use Rattle.std.proofs.Common.{◌≡◌, ℕ, ◌<◌, ◌≤◌, inl, inr, true, true≢false, Option, Some, None, List, slice_get, sym, subst, ◌∙◌, arith}
use Rattle.vacuum.specs.Laws.{BulkDeletesAreUndisturbed, DueIsUndisturbed, AllIsToCome}
use Rattle.vacuum.proofs.Imports.{cases_lt, Effect, is_among, Entry, entries_of, Page, State, stored_page, IsLeafAt, WasLeaf, HasOldEntries, LeafBecomes, LeafIsHalved, LeafPagesStay, leaf_is}
use Rattle.vacuum.proofs.Imports.{NumbersStay, IsGoingBack, last_read, BlockIsToCome, ahead, sibling, led, WentBackFromLeaf, Backtrack}

goes_back_still : (old new : State) (start : ℕ) (backtrack : Option Backtrack) → NumbersStay start old new → IsGoingBack old start backtrack → IsGoingBack new start backtrack
goes_back_still old new start None stay h = tt
goes_back_still old new start (Some backtrack) stay h = stay.trails 0 backtrack.block backtrack.moves h

pub undisturbed : BulkDeletesAreUndisturbed
undisturbed old new op rely fits = record {
  session = fits.session;
  start = fits.start;
  running = rely.number ∙ fits.running;
  held = rely.held ∙ fits.held;
  backtrack = goes_back_still old new fits.start op.backtrack (rely.numbers fits.start fits.running) fits.backtrack;
}

pub same_page : (pages : List Page) (block : ℕ) (a b : Page) → slice_get pages block ≡ Some a → slice_get pages block ≡ Some b → a ≡ b
same_page pages block a b x y = (let k : Some a ≡ Some b = sym x ∙ y in cc)

module _ (effect : Option Effect) (old new : State) (cursor : ℕ) (backtrack : Option Backtrack) (stay : LeafPagesStay effect old new) (went : WentBackFromLeaf old cursor backtrack) where
  -- the right half of a leaf to come is to come
  half_comes : (n : ℕ) → ((page : Page) → IsLeafAt old.pages n page → ⊥) → (n < last_read cursor backtrack → BlockIsToCome new cursor backtrack n) → BlockIsToCome new cursor backtrack n
  half_comes n free was_read = elim (cases_lt n (last_read cursor backtrack)) [
    | inl lt ↦ was_read lt
    | inr ge ↦ ahead (beyond backtrack went ge)
  ]
    where
      beyond : (b : Option Backtrack) → WentBackFromLeaf old cursor b → last_read cursor b ≤ n → cursor ≤ n
      beyond None h ge = ge
      beyond (Some b) h ge = elim (cases_lt b.from n) [
        | inl lt ↦ omega (arith, lt, h.0)
        | inr le ↦ (let same : b.from ≡ n = omega (arith, le, ge) in absurd (free h.1.page (subst (λ (k : ℕ). IsLeafAt old.pages k h.1.page) same h.1.was)))
      ]

  comes_half : (block : ℕ) (left : Page) (page : Page) → IsLeafAt new.pages block left
      → (h : LeafIsHalved effect old.cycle old.pages new.pages page left) → BlockIsToCome new cursor backtrack block → BlockIsToCome new cursor backtrack h.new
  comes_half block left page there h now = half_comes h.new h.free (λ lt. led left there (h.left_cycle ∙ sym stay.cycle) h.left_right lt now)

  -- what was to come is to come
  comes : {block : ℕ} → BlockIsToCome old cursor backtrack block → BlockIsToCome new cursor backtrack block
  comes (ahead le) = ahead le
  comes (sibling is) = sibling is
  comes (led {from} page at carries right below rest) = next_page from page carries right below (stay.each from page at) (comes rest)
    where
      next_page : {block : ℕ} (p : ℕ) (page : Page) → page.cycle ≡ old.cycle → page.right ≡ Some block → block < last_read cursor backtrack → LeafBecomes effect old.cycle old.pages new.pages p page
          → BlockIsToCome new cursor backtrack p → BlockIsToCome new cursor backtrack block
      next_page p page carries right below go now = elim go.how [
        | inl same ↦ led go.new go.there (same.cycle ∙ carries ∙ sym stay.cycle) (same.right ∙ right) below now
        | inr h ↦ led h.half h.there (h.half_cycle ∙ sym stay.cycle) (h.half_right ∙ right) below (comes_half p go.new page go.there h now)
      ]

  leaf_lasts : (b : ℕ) → WasLeaf old.pages b → WasLeaf new.pages b
  leaf_lasts b was = (let go = stay.each b was.page was.was in record { page = go.new; was = go.there })

  from_lasts : (b : Option Backtrack) → WentBackFromLeaf old cursor b → WentBackFromLeaf new cursor b
  from_lasts None h = tt
  from_lasts (Some b) h = (h.0, leaf_lasts b.from h.1)

pub due_undisturbed : DueIsUndisturbed
due_undisturbed due effect old new cursor backtrack stay added h = record {
  from = from_lasts effect old new cursor backtrack stay h.from backtrack h.from;
  to_come = λ block page e at on is_due. elim (stay.others block page at) [
    | inl was ↦ still block page e at on is_due was.page was.was (stay.each block was.page was.was)
    | inr half ↦ (
        let page_is : page ≡ half.halved.half =
        same_page new.pages block page half.halved.half at.found (subst (λ (k : ℕ). slice_get new.pages k ≡ Some half.halved.half) half.is half.halved.there.found) in
        let was_on = kept half.old half.halved.half e half.halved.half_entries (subst (λ (p : Page). is_among (entries_of p.items) e ≡ true) page_is on) is_due in
        subst (BlockIsToCome new cursor backtrack) half.is (comes_half effect old new cursor backtrack stay h.from half.from half.left half.old half.there half.halved
        (comes effect old new cursor backtrack stay h.from (h.to_come half.from half.old e half.was was_on is_due))))
  ];
}
  where
    kept : (was now : Page) (e : Entry) → HasOldEntries effect was now → is_among (entries_of now.items) e ≡ true → due e ≡ true → is_among (entries_of was.items) e ≡ true
    kept was now e old_ones on is_due = elim (old_ones e on) [
      | inl there ↦ there
      | inr new_one ↦ absurd (true≢false (sym is_due ∙ added e new_one))
    ]

    still : (block : ℕ) (page : Page) (e : Entry) → IsLeafAt new.pages block page → is_among (entries_of page.items) e ≡ true → due e ≡ true → (was : Page) → IsLeafAt old.pages block was
        → LeafBecomes effect old.cycle old.pages new.pages block was → BlockIsToCome new cursor backtrack block
    still block page e at on is_due was was_at go =
        let page_is : page ≡ go.new = same_page new.pages block page go.new at.found go.there.found in
        let now_on : is_among (entries_of go.new.items) e ≡ true = subst (λ (p : Page). is_among (entries_of p.items) e ≡ true) page_is on in
        let was_on : is_among (entries_of was.items) e ≡ true = elim go.how [
          | inl same ↦ kept was go.new e same.entries now_on is_due
          | inr half ↦ kept was go.new e half.left_entries now_on is_due
        ] in
        comes effect old new cursor backtrack stay h.from (h.to_come block was e was_at was_on is_due)

-- a leaf isn't the metapage
pub all_to_come : AllIsToCome
all_to_come due st session order = record {
  from = tt;
  to_come = λ block page e at on is_due.
      let s = stored_page st.format block st.pages page order.tree.stored at.found in
      let above = (leaf_is page s.storable.admitted at.leaf).0 in
      ahead (subst (λ (b : ℕ). 1 ≤ b) s.block_is (omega (arith, above)));
}
