-- How much is left to do, and what is counted, after a page that is read.
use Rattle.std.proofs.Common.{◌≡◌, ◌≢◌, ℕ, zero, suc, ◌+◌, ◌-◌, ◌*◌, ◌<◌, ◌≤◌, inl, inr, Bool, true, false, Option, Some, None, List, length, slice_get, refl, sym, ap, subst, ◌∙◌, arith}
use Rattle.vacuum.proofs.Imports.{cases_eq, cases_lt, is_among, Row, Entry, entries_of, HasEntries, Items, Meta, Entries, Downlinks, Page, PageState, Live, HalfDead, Deleted, live_entries, State}
use Rattle.vacuum.proofs.Imports.{IsLeafAt, entry_count, entries_below, IsBelow, IsCounted, next_block, last_read, moves_of, cursor_past, moved_beyond, bulk_delete_left, Backtrack, BulkDeleteOp}
use Rattle.vacuum.proofs.Imports.{slice_get_past}

-- a block less, and no more moves than one block brings
block_less : (n k m : ℕ) → m < k → n * k + m < suc n * k
block_less n k m lt = omega (arith, lt)

pub leaves_less : (most used cursor : ℕ) (backtrack next_page : Option Backtrack) → (backtrack ≡ None → cursor < used)
    → ((b : Backtrack) → next_page ≡ Some b → (b.moves ≡ suc (moves_of backtrack)) × (moves_of backtrack < most))
    → bulk_delete_left most used (cursor_past cursor backtrack) next_page < bulk_delete_left most used cursor backtrack
leaves_less most used cursor (Some b) None below turn = omega arith
leaves_less most used cursor (Some b) (Some c) below turn = (let t = turn c refl in omega (arith, t.0, t.1))
leaves_less most used cursor None None below turn =
    let lt = below refl in
    let n : used - cursor ≡ suc (used - suc cursor) = omega (arith, lt) in
    rw n (let l = block_less (used - suc cursor) (most + 3) 0 (omega arith) in omega (arith, l))
leaves_less most used cursor None (Some c) below turn =
    let lt = below refl in
    let t = turn c refl in
    let n : used - cursor ≡ suc (used - suc cursor) = omega (arith, lt) in
    rw n (let l = block_less (used - suc cursor) (most + 3) (suc (suc most - c.moves)) (omega (arith, t.0, t.1)) in omega (arith, l))

-- pages that aren't changed are counted alike
pub counted_alike : (pages pages' : List Page) (n : ℕ) → ((b : ℕ) → b < n → slice_get pages' b ≡ slice_get pages b) → entries_below pages' n ≡ entries_below pages n
counted_alike pages pages' zero same = refl
counted_alike pages pages' (suc n) same = rw (same n (omega arith), counted_alike pages pages' n (λ b lt. same b (omega (arith, lt)))) refl

-- a page that isn't a live leaf has no entries
pub no_leaf_count : (page : Page) → (page.state ≡ Live → HasEntries page.items → ⊥) → length (live_entries page.state page.items) ≡ 0
no_leaf_count page none = by page.state page.items none
  where
    by : (s : PageState) (items : Items) → (s ≡ Live → HasEntries items → ⊥) → length (live_entries s items) ≡ 0
    by Live Meta h = refl
    by Live (Downlinks v) h = refl
    by Live (Entries v) h = absurd (h refl tt)
    by HalfDead items h = refl
    by Deleted items h = refl

below_past : (cursor : ℕ) (backtrack next_page : Option Backtrack) → IsBelow cursor backtrack → ((b : Backtrack) → next_page ≡ Some b → (b.block < last_read cursor backtrack) × (b.from ≡ last_read cursor backtrack))
    → IsBelow (cursor_past cursor backtrack) next_page
below_past cursor backtrack None below turn = tt
below_past cursor None (Some b) below turn = (let t = turn b refl in (omega (arith, t.0), omega (arith, t.1)))
below_past cursor (Some c) (Some b) below turn = (let t = turn b refl in let l = below.1 in (omega (arith, t.0, l), omega (arith, t.1, l)))

-- If nobody else acts, the counts go on. The page that is read in block order has as many entries as are
-- counted, and no dead one; going back nothing is changed.
pub counts_on : (dead : Row → Bool) (st new : State) (op : BulkDeleteOp) (next_page : Option Backtrack) (kept gone : ℕ) → IsCounted dead st op
    → ((b : ℕ) → b ≢ next_block op.cursor op.backtrack → slice_get new.pages b ≡ slice_get st.pages b)
    → ((b : Backtrack) → next_page ≡ Some b → (b.block < last_read op.cursor op.backtrack) × (b.from ≡ last_read op.cursor op.backtrack))
    → (op.backtrack ≡ None → entry_count (slice_get new.pages op.cursor) ≡ kept)
    → ((page : Page) (e : Entry) → IsLeafAt new.pages (next_block op.cursor op.backtrack) page → is_among (entries_of page.items) e ≡ true → dead e.row ≡ false)
    → ((b : Backtrack) → op.backtrack ≡ Some b → new.pages ≡ st.pages)
    → IsCounted dead new (moved_beyond op next_page kept gone)
counts_on dead st new op next_page kept gone h others turn count clean unchanged = by op.backtrack refl
  where
    by : (backtrack : Option Backtrack) → op.backtrack ≡ backtrack → IsCounted dead new (moved_beyond op next_page kept gone)
    by None is = record {
      counted = rw is (rw (count is, counted_alike st.pages new.pages op.cursor (λ b lt. others b (λ same. let k : b ≡ op.cursor = same ∙ rw is refl in omega (arith, k, lt))))
          (let c = h.counted in omega (arith, c)));
      below = below_past op.cursor op.backtrack next_page h.below turn;
      clean = λ block page e lt at on. elim (cases_eq block op.cursor) [
        | inl same ↦ clean page e (subst (λ (b : ℕ). IsLeafAt new.pages b page) (same ∙ sym here) at) on
        | inr differ ↦ h.clean block page e (omega (arith, differ, past lt))
            (record { found = sym (others block (λ same. differ (same ∙ here))) ∙ at.found; alive = at.alive; leaf = at.leaf }) on
      ];
    }
      where
        here : next_block op.cursor op.backtrack ≡ op.cursor
        here = rw is refl

        past : {b : ℕ} → b < cursor_past op.cursor op.backtrack → b < suc op.cursor
        past lt = rw is at lt
    by (Some b) is = record {
      counted = rw is (h.counted ∙ ap (λ (ps : List Page). entries_below ps op.cursor) (sym (unchanged b is)));
      below = below_past op.cursor op.backtrack next_page h.below turn;
      clean = λ block page e lt at on.
          h.clean block page e (rw is at lt) (record { found = ap (λ (ps : List Page). slice_get ps block) (sym (unchanged b is)) ∙ at.found; alive = at.alive; leaf = at.leaf }) on;
    }

-- after the last page nothing is counted
pub counted_beyond : (pages : List Page) (n : ℕ) → length pages ≤ n → entries_below pages n ≡ entries_below pages (length pages)
counted_beyond pages zero le = (let none : length pages ≡ 0 = omega (arith, le) in rw none refl)
counted_beyond pages (suc n) le = elim (cases_lt n (length pages)) [
  | inl lt ↦ (let same : length pages ≡ suc n = omega (arith, le, lt) in ap (entries_below pages) (sym same))
  | inr ge ↦ rw (slice_get_past pages n ge) (let r = counted_beyond pages n ge in omega (arith, r))
]
