-- What a cleanup has counted and cleaned, after each step.
use Rattle.std.proofs.Common.{◌≡◌, ◌≢◌, ℕ, zero, suc, ◌+◌, ◌<◌, ◌≤◌, inl, inr, length, slice_get, Option, Some, List, [], ◌∷◌, refl, sym, ap, ap₂, subst, ◌∙◌, arith}
use Rattle.page_delete.proofs.Imports.{cases_eq, HasEntries, Page, PageState, Live, HalfDead, Deleted, State, node_from, state_in, meta_lives, entry_count, entries_below, counted_beyond}
use Rattle.page_delete.proofs.Imports.{no_leaf_count, IsEmptyAt, IsFoundEmpty, come_to, IsCleaned, AllIsCleaned, NothingIsCleaned, turned_to, moved_past, moved_past_deleted, TurnsAt, unlinks}
use Rattle.page_delete.proofs.Imports.{tries, passes, MovesState, LeafDies, PageIsDeleted, CleanupAt, Start, Unlink, CleanupOp}
use Rattle.page_delete.proofs.Moving.{leaf_count, dead_count}

-- after a page that has `count` entries and isn't half-dead
pub cleaned_past : (st : State) (op : CleanupOp) (count : ℕ) → IsCleaned st op → suc op.cursor ≤ length st.pages
    → entry_count (slice_get st.pages op.cursor) ≡ count → state_in st op.cursor ≢ HalfDead → IsCleaned st (moved_past op count)
cleaned_past st op count h inside is alive = record {
  counted = (let a = h.counted in let b = is in omega (arith, a, b));
  none_dead = λ block lt. elim (cases_eq block op.cursor) [
    | inl same ↦ subst (λ (b : ℕ). state_in st b ≢ HalfDead) (sym same) alive
    | inr differ ↦ h.none_dead block (omega (arith, lt, differ))
  ];
  empty = tt;
  within = inside;
  fewer = (let k = h.fewer in omega (arith, k));
}

-- at another step for the page
pub cleaned_at : (st : State) (op : CleanupOp) (at : CleanupAt) → IsCleaned st op → come_to op.cursor at ≤ length st.pages → IsFoundEmpty st op.cursor at → IsCleaned st (turned_to op at)
cleaned_at st op at h inside empty = record { counted = h.counted; none_dead = h.none_dead; empty = empty; within = inside; fewer = h.fewer }

counts_alike : (old new : State) (n : ℕ) → ((b : ℕ) → entry_count (slice_get new.pages b) ≡ entry_count (slice_get old.pages b)) → entries_below new.pages n ≡ entries_below old.pages n
counts_alike old new zero same = refl
counts_alike old new (suc n) same = ap₂ (λ (a b : ℕ). a + b) (same n) (counts_alike old new n same)

-- after an act that moves the state of the page at the cursor
moved_counts : (old new : State) (op : CleanupOp) (was is : PageState) → IsCleaned old op → MovesState op.cursor was is old new
    → (op.left ≡ entries_below new.pages op.cursor) × ((block : ℕ) → block < op.cursor → state_in new block ≢ HalfDead)
moved_counts old new op was is h moves = (
  h.counted ∙ sym (counts_alike old new op.cursor moves.counts),
  (λ block lt dead. h.none_dead block lt (sym (moves.others block (λ same. (let e : block ≡ op.cursor = same in omega (arith, lt, e)))) ∙ dead)),
)

pub cleaned_dying : (old new : State) (op : CleanupOp) → IsCleaned old op → suc op.cursor ≤ length old.pages → length new.pages ≡ length old.pages
    → LeafDies op.cursor old new → IsEmptyAt old op.cursor → IsCleaned new (turned_to op Unlink)
cleaned_dying old new op h inside used moves empty =
    let m = moved_counts old new op Live HalfDead h moves in
    record { counted = m.0; none_dead = m.1; empty = moves.counts op.cursor ∙ empty; within = subst (λ (n : ℕ). suc op.cursor ≤ n) (sym used) inside; fewer = h.fewer }

pub cleaned_deleted : (old new : State) (op : CleanupOp) → IsCleaned old op → suc op.cursor ≤ length old.pages → length new.pages ≡ length old.pages
    → PageIsDeleted op.cursor old new → IsEmptyAt old op.cursor → IsCleaned new (moved_past_deleted op)
cleaned_deleted old new op h inside used moves empty =
    let m = moved_counts old new op HalfDead Deleted h moves in
    let none = moves.counts op.cursor ∙ empty in
    record {
      counted = (let a = m.0 in omega (arith, a, none));
      none_dead = λ block lt. elim (cases_eq block op.cursor) [
        | inl same ↦ λ dead. clash (sym moves.after ∙ sym (ap (state_in new) same) ∙ dead)
        | inr differ ↦ m.1 block (omega (arith, lt, differ))
      ];
      empty = tt;
      within = subst (λ (n : ℕ). suc op.cursor ≤ n) (sym used) inside;
      fewer = (let k = h.fewer in omega (arith, k));
    }
  where
    clash : Deleted ≡ HalfDead → ⊥
    clash e = cc

-- after the look at a page
pub cleaned_looking : (st : State) (before after : CleanupOp) (page : Page) → slice_get st.pages before.cursor ≡ Some page
    → suc before.cursor ≤ length st.pages → IsCleaned st before → TurnsAt page before after → IsCleaned st after
cleaned_looking st before after page found inside h (unlinks dead is) = rw is (cleaned_at st before Unlink h inside (ap entry_count found ∙ dead_count page dead))
cleaned_looking st before after page found inside h (tries high may is_high is) = rw is (cleaned_at st before (Start high) h inside (
  ap entry_count found ∙ leaf_count page may,
  (λ dead. clash (sym may.alive ∙ sym (ap (λ (o : Option Page). (node_from o).state) found) ∙ dead)),
))
  where
    clash : Live ≡ HalfDead → ⊥
    clash e = cc
cleaned_looking st before after page found inside h (passes alive empty is) = rw is (cleaned_past st before (entry_count (Some page)) h inside (ap entry_count found)
    (λ dead. alive (sym (ap (λ (o : Option Page). (node_from o).state) found) ∙ dead)))

-- at the end
pub cleaned_all : (st : State) (op : CleanupOp) → IsCleaned st op → length st.pages ≤ op.cursor → AllIsCleaned st op.left
cleaned_all st op h last = record {
  counted = h.counted ∙ counted_beyond st.pages op.cursor last;
  none_dead = λ block lt. h.none_dead block (omega (arith, lt, last));
}

-- at the beginning
pub nothing_cleaned : NothingIsCleaned
nothing_cleaned st session order = record {
  counted = (let none = meta_count in omega (arith, none));
  none_dead = λ block lt dead.
      clash (sym (meta_lives st order.tree) ∙ sym (ap (λ (o : Option Page). (node_from o).state) order.tree.tree.meta_at)
      ∙ subst (λ (b : ℕ). state_in st b ≡ HalfDead) (let z : block ≡ 0 = omega (arith, lt) in z) dead);
  empty = tt;
  within = some_first st.pages order.tree.tree.meta order.tree.tree.meta_at;
  fewer = omega arith;
}
  where
    some_first : (pages : List Page) (page : Page) → slice_get pages 0 ≡ Some page → 1 ≤ length pages
    some_first [] page at = absurd cc
    some_first (p ∷ pages) page at = omega arith

    clash : Live ≡ HalfDead → ⊥
    clash e = cc

    meta_count : entry_count (slice_get st.pages 0) ≡ 0
    meta_count = ap entry_count order.tree.tree.meta_at ∙ no_leaf_count order.tree.tree.meta (λ alive leaf. subst HasEntries order.tree.tree.names_root.kind leaf)
