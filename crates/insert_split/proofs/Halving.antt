-- The pages of an act that splits a leaf may be written.
use Rattle.std.proofs.Common.{◌≡◌, ◌≢◌, ℕ, ◌+◌, ◌<◌, ◌≤◌, true, Option, Some, None, List, [], ◌∷◌, ◌++◌, map, length, slice_set, refl, sym, subst, ◌∙◌, arith}
use Rattle.page_codec.specs.Spelling.{count_of}
use Rattle.page_action.proofs.Writable.{writable}
use Rattle.descent.proofs.Mended.{fresh_apart, RightMay, right_may}
use Rattle.insert_split.proofs.Imports.{Entry, Format, Two, entries_of, HasEntries, IsBlock, IsPage, Items, Meta, Entries, Downlinks, Page, Live, Deleted, IsFresh, State, IsStored, IsApartFrom}
use Rattle.insert_split.proofs.Imports.{AreActable, left_count, MayHold, has_pin, pinned_blocks, count_apart, apart_pinned, sibling, RightIsStored, mended_to, IsSplittable, slice_get_within}

-- a leaf has as many items as entries
pub leaf_count : (items : Items) → HasEntries items → count_of items ≡ length (entries_of items)
leaf_count Meta h = absurd h
leaf_count (Entries v) h = refl
leaf_count (Downlinks v) h = absurd h

-- the halves of a leaf, and the page to the right of them
pub halves_may : (st : State) (session : ℕ) (e : Entry) (page left half : Page) (right : Option Page)
    → IsSplittable st page → MayHold page e → 2 ≤ length (entries_of page.items)
    → left.layout ≡ Two → half.layout ≡ Two → IsPage left → IsPage half → HasEntries left.items → HasEntries half.items
    → length (entries_of left.items) ≡ left_count (length (entries_of page.items))
    → length (entries_of left.items) + length (entries_of half.items) ≡ length (entries_of page.items) + 1
    → left.block ≡ page.block → IsFresh st half.block → IsBlock half.block → RightIsStored st session page.right right
    → AreActable st.format (length st.pages) (left ∷ half ∷ mended_to half.block right)
halves_may st session e page left half right fits may some left_new half_new left_page half_page left_leaf half_leaf kept moved left_block fresh block stored = (
  writable st.format left left_new left_page few_left,
  (omega (arith, used, left_block), subst (λ (b : ℕ). b < st.format.pages) (sym left_block) (omega (arith, used, fits.few))),
  (λ same. apart_new (sym left_block ∙ sym same), subst (λ (b : ℕ). IsApartFrom b (mended_to half.block right)) (sym left_block) beside.apart),
  (writable st.format half half_new half_page few_half, (fresh.within, fresh.inside), beside.apart_new, beside.may),
)
  where
    used : page.block < length st.pages
    used = slice_get_within st.pages page.block page fits.found

    apart_new : page.block ≢ half.block
    apart_new = fresh_apart st half.block page.block page fresh fits.found (λ gone. live_not_deleted (sym may.alive ∙ gone))
      where
        live_not_deleted : Live ≡ Deleted → ⊥
        live_not_deleted h = cc

    all : length (entries_of page.items) ≤ st.format.items
    all = subst (λ (n : ℕ). n ≤ st.format.items) (leaf_count page.items may.leaf) fits.stored.storable.few

    few_left : count_of left.items ≤ st.format.items
    few_left = subst (λ (n : ℕ). n ≤ st.format.items) (sym (leaf_count left.items left_leaf)) (omega (arith, kept, all, some))

    few_half : count_of half.items ≤ st.format.items
    few_half = subst (λ (n : ℕ). n ≤ st.format.items) (sym (leaf_count half.items half_leaf)) (omega (arith, kept, moved, all, some))

    beside : RightMay st page.block half.block right
    beside = right_may st session page.block half.block page.right right fits.few fresh block fits.mendable fits.apart stored

-- the blocks of the pages of such an act
pub halved_are : (st : State) (session at new : ℕ) (left half : Page) (block : Option ℕ) (right : Option Page) → left.block ≡ at → half.block ≡ new → RightIsStored st session block right
    → map (λ (page : Page). page.block) (left ∷ half ∷ mended_to half.block right) ≡ at ∷ new ∷ sibling block
halved_are st session at new left half None None one two stored = rw (one, two) refl
halved_are st session at new left half None (Some page) one two stored = absurd stored
halved_are st session at new left half (Some b) None one two stored = absurd stored
halved_are st session at new left half (Some b) (Some page) one two stored = rw (one, two, stored.0.block_is) refl

-- if the leaf is pinned, it needs a frame for each page beside it
pub frames_beside : (st : State) (at : ℕ) (beside blocks : List ℕ) → blocks ≡ at ∷ beside → has_pin (pinned_blocks st.table) at ≡ true
    → count_apart (blocks ++ pinned_blocks st.table) ≤ length beside + count_apart (pinned_blocks st.table)
frames_beside st at beside blocks is pin =
    subst (λ (bs : List ℕ). count_apart (bs ++ pinned_blocks st.table) ≤ length beside + count_apart (pinned_blocks st.table)) (sym is) (apart_pinned at beside (pinned_blocks st.table) pin)

-- a leaf with one entry more
pub put_may : (format : Format) (used : ℕ) (page after : Page) → IsStored format page.block page → page.block < used → used ≤ format.pages → after.layout ≡ Two → IsPage after → HasEntries after.items
    → length (entries_of after.items) ≤ format.items → after.block ≡ page.block → AreActable format used (after ∷ [])
put_may format used page after stored in_use inside new admitted leaf few block_is = (
  writable format after new admitted (subst (λ (n : ℕ). n ≤ format.items) (sym (leaf_count after.items leaf)) few),
  (omega (arith, block_is, in_use), omega (arith, block_is, in_use, inside)),
  tt,
  tt,
)

-- what is put on the third of three pages stands there
pub third_put : (pages : List Page) (page : Page) → length pages ≡ 3 → (one two : Page) × (slice_set pages 2 page ≡ one ∷ two ∷ page ∷ [])
third_put [] page three = absurd cc
third_put (one ∷ []) page three = absurd (omega (arith, three))
third_put (one ∷ two ∷ []) page three = absurd (omega (arith, three))
third_put (one ∷ two ∷ p ∷ []) page three = (one, two, refl)
third_put (one ∷ two ∷ p ∷ q ∷ ps) page three = absurd (omega (arith, three))
