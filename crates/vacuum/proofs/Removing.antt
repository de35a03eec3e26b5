-- A leaf that loses its dead entries, and the act by which it does.
use Rattle.std.proofs.Common.{◌≡◌, ℕ, suc, ◌+◌, ◌<◌, ◌≤◌, inl, inr, Bool, true, false, not, ◌&&◌, if◌then◌else◌, Some, None, List, [], ◌∷◌, length, slice_get, refl, sym, ap, subst, ◌∙◌, arith}
use Rattle.std.specs.List.{filter}
use Rattle.std.specs.Prelude.{unwrap_or}
use Rattle.index_model.specs.declared.format.Format.{Format}
use Rattle.index_model.proofs.Ascending.{same_entry-self}
use Rattle.page_codec.proofs.Renewed.{renewed_is_page}
use Rattle.page_codec.specs.Grammar.{AreEntries, IsLeafIn, IsLiveLeaf, IsOfKind, IsPage}
use Rattle.page_codec.specs.Spelling.{count_of}
use Rattle.page_action.proofs.Writable.{writable}
use Rattle.tree_shape.proofs.Removal.{AscendsPast-filter, AllByRecursion-filter, is_among-filter}
use Rattle.tree_acts.proofs.Leaving.{removing_leaves}
use Rattle.vacuum.proofs.Imports.{cases_Bool, and_parts, Remove, said_of, is_among, IsUpTo, IsAscending, IsEntry, Row, Entry, is_held_by_another, Exclusive, Cleanup, entries_of, HasEntries, not-true}
use Rattle.vacuum.proofs.Imports.{with_entries, renewed, Items, Meta, Entries, Downlinks, Page, PageState, Live, live_entries, entry_on_live_leaf, State, after_act, IsStored, AreActable, slice_get_within}
use Rattle.vacuum.proofs.Imports.{stored_page, removed_from, EntriesAreRemoved, TreeLasts, ContentsLose, node_there, removing_lasts, removing_flags, contents_held, IsInOrder, StepEffect}
use Rattle.vacuum.proofs.Imports.{others_rely, lives, without_dead, dead_entries, IsPruned, PrunedLeaf}
use Rattle.vacuum.proofs.Holding.{free_for_all}

-- the entries that pass and those that don't are all
pub parted : (keeps : Entry → Bool) (es : List Entry) → length (filter keeps es) + length (removed_from keeps es) ≡ length es
parted keeps [] = refl
parted keeps (e ∷ es) = elim (cases_Bool (keeps e)) [
  | inl is ↦ rw is (let r = parted keeps es in omega (arith, r))
  | inr is ↦ rw is (let r = parted keeps es in omega (arith, r))
]

none_removed : (keeps : Entry → Bool) (es : List Entry) → length (removed_from keeps es) ≡ 0 → filter keeps es ≡ es
none_removed keeps [] none = refl
none_removed keeps (e ∷ es) none = elim (cases_Bool (keeps e)) [
  | inl is ↦ (let rest : length (removed_from keeps es) ≡ 0 = rw is at none in rw is (ap (λ (r : List Entry). e ∷ r) (none_removed keeps es rest)))
  | inr is ↦ (let k : suc (length (removed_from keeps es)) ≡ 0 = rw is at none in absurd (omega (arith, k)))
]

-- the entries of a live leaf
pub live_is : (page : Page) → page.state ≡ Live → HasEntries page.items → live_entries page.state page.items ≡ entries_of page.items
live_is page alive leaf = rw alive (by page.items leaf)
  where
    by : (items : Items) → HasEntries items → live_entries Live items ≡ entries_of items
    by Meta h = absurd h
    by (Entries v) h = refl
    by (Downlinks v) h = absurd h

pub dead_is : (dead : Row → Bool) (page : Page) → page.state ≡ Live → HasEntries page.items → dead_entries dead page ≡ removed_from (lives dead) (entries_of page.items)
dead_is dead page alive leaf = ap (removed_from (lives dead)) (live_is page alive leaf)

-- what a sweep counts
pub gone_is : (dead : Row → Bool) (page : Page) (pruned : PrunedLeaf) → page.state ≡ Live → HasEntries page.items → IsPruned dead page pruned → pruned.gone ≡ length (dead_entries dead page)
gone_is dead page pruned alive leaf h =
    let kept : pruned.kept ≡ length (filter (lives dead) (entries_of page.items)) = h.kept_is ∙ ap (λ (p : Page). length (entries_of p.items)) h.after_is in
    let parts = parted (lives dead) (entries_of page.items) in
    let sum = h.gone_is in
    let gone : pruned.gone ≡ length (removed_from (lives dead) (entries_of page.items)) = omega (arith, kept, parts, sum) in
    gone ∙ ap length (sym (dead_is dead page alive leaf))

-- a live leaf with those entries of the page that live
pub record HasLivingEntries (dead : Row → Bool) (page left : Page) : Type 0 where
  pub alive : left.state ≡ Live
  pub leaf : HasEntries left.items
  pub entries : entries_of left.items ≡ filter (lives dead) (entries_of page.items)

-- the page is one where none is dead; else it is one when it has been written
pub is_left : (dead : Row → Bool) (page : Page) → page.state ≡ Live → HasEntries page.items → (changed : Bool) → (changed ≡ false → length (dead_entries dead page) ≡ 0)
    → HasLivingEntries dead page (if changed then without_dead dead page else page)
is_left dead page alive leaf true none = record { alive = alive; leaf = tt; entries = refl }
is_left dead page alive leaf false none = record {
  alive = alive;
  leaf = leaf;
  entries = sym (none_removed (lives dead) (entries_of page.items) (ap length (sym (dead_is dead page alive leaf)) ∙ none refl));
}

-- each entry that is left lives
pub left_lives : (dead : Row → Bool) (page : Page) (e : Entry) → is_among (entries_of (without_dead dead page).items) e ≡ true → dead e.row ≡ false
left_lives dead page e on = not-true (dead e.row) (and_parts (is_among (entries_of page.items) e) (lives dead e) (sym (is_among-filter (lives dead) (entries_of page.items) e) ∙ on)).1

-- each entry that is lost is dead
pub dead_are : (dead : Row → Bool) (page : Page) (e : Entry) → is_among (dead_entries dead page) e ≡ true → dead e.row ≡ true
dead_are dead page e on = dead_is_so (dead e.row)
    (and_parts (is_among (live_entries page.state page.items) e) (not (lives dead e)) (sym (is_among-filter (λ x. not (lives dead x)) (live_entries page.state page.items) e) ∙ on)).1
  where
    dead_is_so : (b : Bool) → not (not b) ≡ true → b ≡ true
    dead_is_so true h = refl
    dead_is_so false h = absurd cc

-- the leaf may be written
swept_entries : (high : _) (keeps : Entry → Bool) (es : List Entry) → AreEntries high es → AreEntries high (filter keeps es)
swept_entries high keeps es h = record {
  valid = AllByRecursion-filter IsEntry keeps es h.valid;
  ascends = AscendsPast-filter keeps None es h.ascends;
  within = AllByRecursion-filter (IsUpTo high) keeps es h.within;
}

swept_page : (page : Page) (keeps : Entry → Bool) → page.state ≡ Live → HasEntries page.items → IsPage page → IsPage (with_entries page (filter keeps (entries_of page.items)))
swept_page page keeps alive leaf h = record {
  cycle = h.cycle;
  deletion = h.deletion;
  left = h.left;
  right = h.right;
  high = h.high;
  kind = by page.items leaf h.kind;
}
  where
    by : (items : Items) → HasEntries items → IsOfKind page items
        → IsOfKind (with_entries page (filter keeps (entries_of items))) (Entries (record { items = filter keeps (entries_of items) }))
    by Meta has kind = absurd has
    by (Downlinks v) has kind = absurd has
    by (Entries v) has kind =
        let live : IsLiveLeaf page v.items = subst (λ (s : PageState). IsLeafIn s page v.items) alive kind.rest in
        let new : IsLiveLeaf (with_entries page (filter keeps v.items)) (filter keeps v.items) = record {
          deletion = live.deletion;
          high = live.high;
          split = live.split;
          entries = swept_entries page.high keeps v.items live.entries;
        } in
        record {
          block = kind.block;
          level = kind.level;
          count = (let parts = parted keeps v.items in let c = kind.count in omega (arith, parts, c));
          rest = subst (λ (s : PageState). IsLeafIn s (with_entries page (filter keeps v.items)) (filter keeps v.items)) (sym alive) new;
        }

pub leaf_few : (page : Page) → HasEntries page.items → IsPage page → length (entries_of page.items) ≤ 50
leaf_few page leaf h = by page.items leaf h.kind
  where
    by : (items : Items) → HasEntries items → IsOfKind page items → length (entries_of items) ≤ 50
    by Meta has kind = absurd has
    by (Downlinks v) has kind = absurd has
    by (Entries v) has kind = kind.count

pub swept_may : (dead : Row → Bool) (format : Format) (used block : ℕ) (page : Page) → page.state ≡ Live → HasEntries page.items → IsStored format block page → block < used → used ≤ format.pages
    → AreActable format used (without_dead dead page ∷ [])
swept_may dead format used block page alive leaf stored in_use few = (
  writable format (without_dead dead page) refl
      (swept_page (renewed page) (lives dead) alive leaf (renewed_is_page page stored.storable.admitted)) (fewer page.items leaf stored.storable.few),
  (omega (arith, in_use, stored.block_is), omega (arith, in_use, few, stored.block_is)),
  tt,
  tt,
)
  where
    fewer : (items : Items) → HasEntries items → count_of items ≤ format.items → length (filter (lives dead) (entries_of items)) ≤ format.items
    fewer Meta has le = absurd has
    fewer (Downlinks v) has le = absurd has
    fewer (Entries v) has le = (let parts = parted (lives dead) v.items in omega (arith, parts, le))

-- the entries of a leaf in use are there
on_page : (st : State) (page : Page) (x : Entry) → slice_get st.pages page.block ≡ Some page → page.state ≡ Live → is_among (entries_of page.items) x ≡ true → entry_on_live_leaf st.pages x ≡ true
on_page st page x found alive on = (contents_held st.pages x).1 (record {
  block = page.block;
  in_use = slice_get_within st.pages page.block page found;
  on = rw (node_there st.pages page.block page found) (rw alive on);
})

said : (es : List Entry) (x : Entry) (was : Bool) → (was && not (is_among es x)) ≡ unwrap_or (said_of (Remove es) x) was
said es x was = by (is_among es x) was
  where
    by : (b was : Bool) → (was && not b) ≡ unwrap_or (if b then Some false else None) was
    by true true = refl
    by true false = refl
    by false true = refl
    by false false = refl

pub does_remove : (st : State) (session : ℕ) (dead : Row → Bool) (page : Page) (e : Entry) (es : List Entry) → IsInOrder st
    → EntriesAreRemoved st (lives dead) page (without_dead dead page) → removed_from (lives dead) (entries_of page.items) ≡ e ∷ es → is_held_by_another st.table session page.block Cleanup ≡ false
    → StepEffect session (Some (Remove (e ∷ es))) st (after_act (without_dead dead page ∷ []) st)
does_remove st session dead page e es order h is free = record {
  changes = record {
    acts = refl;
    apt = (
      λ none. absurd (no_more none),
      subst IsAscending is (AscendsPast-filter (λ x. not (lives dead x)) None (entries_of page.items) ascends),
      λ x on. on_page st page x h.found h.alive (was_on x on),
    );
    contents = λ x. lasts.1 x ∙ ap (λ (l : List Entry). entry_on_live_leaf st.pages x && not (is_among l x)) is ∙ said (e ∷ es) x (entry_on_live_leaf st.pages x);
  };
  flags = removing_flags st (lives dead) page (without_dead dead page) order.tree h;
  leaves = removing_leaves st (lives dead) page (without_dead dead page) (e ∷ es) order.tree h;
  format = refl;
  frames = refl;
  begun = refl;
  running = refl;
  order = record { tree = lasts.0.has; apart = order.apart; holdings = order.holdings; calls = order.calls };
  others = others_rely st session (without_dead dead page ∷ []) h.may lasts.0 (free_for_all st.table session page.block Exclusive free, tt);
}
  where
    lasts : TreeLasts st (after_act (without_dead dead page ∷ []) st) × ContentsLose (removed_from (lives dead) (entries_of page.items)) st (after_act (without_dead dead page ∷ []) st)
    lasts = removing_lasts st (lives dead) page (without_dead dead page) order.tree h

    no_more : e ∷ es ≡ [] → ⊥
    no_more none = cc

    stored : IsStored st.format page.block page
    stored = stored_page st.format page.block st.pages page order.tree.stored h.found

    ascends : IsAscending (entries_of page.items)
    ascends = by page.items h.leaf stored.storable.admitted.kind
      where
        by : (items : Items) → HasEntries items → IsOfKind page items → IsAscending (entries_of items)
        by Meta has kind = absurd has
        by (Downlinks v) has kind = absurd has
        by (Entries v) has kind = (let live : IsLiveLeaf page v.items = subst (λ (s : PageState). IsLeafIn s page v.items) h.alive kind.rest in live.entries.ascends)

    was_on : (x : Entry) → is_among (e ∷ es) x ≡ true → is_among (entries_of page.items) x ≡ true
    was_on x on = (and_parts (is_among (entries_of page.items) x) (not (lives dead x))
        (sym (is_among-filter (λ y. not (lives dead y)) (entries_of page.items) x) ∙ subst (λ (l : List Entry). is_among l x ≡ true) (sym is) on)).0

-- if each entry lives, none is lost
pub none_lost : (dead : Row → Bool) (page : Page) → page.state ≡ Live → HasEntries page.items → ((e : Entry) → is_among (entries_of page.items) e ≡ true → dead e.row ≡ false)
    → length (dead_entries dead page) ≡ 0
none_lost dead page alive leaf living = ap length (dead_is dead page alive leaf) ∙ by (removed_from (lives dead) (entries_of page.items)) refl
  where
    clash : (b : Bool) → b ≡ false → not (not b) ≡ true → ⊥
    clash true p q = cc
    clash false p q = cc

    first : (e : Entry) (es : List Entry) → is_among (e ∷ es) e ≡ true
    first e es = rw (same_entry-self e) refl

    by : (es : List Entry) → removed_from (lives dead) (entries_of page.items) ≡ es → length es ≡ 0
    by [] is = refl
    by (e ∷ es) is =
        let parts = and_parts (is_among (entries_of page.items) e) (not (lives dead e))
        (sym (is_among-filter (λ y. not (lives dead y)) (entries_of page.items) e) ∙ subst (λ (l : List Entry). is_among l e ≡ true) (sym is) (first e es)) in
        absurd (clash (dead e.row) (living e parts.0) parts.1)
