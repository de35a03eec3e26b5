-- Steps of a bulk delete.
use Rattle.std.proofs.Common.{◌≡◌, ◌≢◌, ℕ, zero, suc, ◌+◌, ◌<◌, ◌≤◌, nat_lt, inl, inr, Bool, true, false, if◌then◌else◌, Option, Some, None, Ok, Err, List, [], ◌∷◌, length, slice_get, slice_index, refl, sym, ap, subst, ◌∙◌, arith}
use Rattle.index_model.specs.declared.stats.VacuumStats.{VacuumStats}
use Rattle.page_action.specs.declared.page_store.PageStore.{Ghosts}
use Rattle.tree_shape.specs.Nodes.{nodes_of}
use Rattle.tree_shape.specs.Walks.{IsTrail, reached, over}
use Rattle.tree_acts.specs.Trees.{HasTree, HasTrail}
use Rattle.tree_acts.proofs.Lasting.{deleted_in_use}
use Rattle.tree_acts.proofs.Meanings.{trail_moves_right, trail_is_short_here}
use Rattle.vacuum.proofs.Imports.{cases_eq, lt-ltb, HasCause, is_among, Row, Entry, Fault, Stopped, Holding, Table, HasRoom, has_pin, holding_of, is_held_by_another, Cleanup, entries_of, slice_get_within}
use Rattle.vacuum.proofs.Imports.{HasEntries, Page, Live, live_entries, State, Continues, IsStored, removed_from, EntriesAreRemoved, IsLeafAt, page_there, page_other, page_length}
use Rattle.vacuum.proofs.Imports.{leaf_begins_trail, removing_lasts, trail_in, IsInOrder, StepEffect, IsOneActAtMost, one_act, one_nothing, nothing_else, IsGoingBack, BulkDeleteInvariant}
use Rattle.vacuum.proofs.Imports.{BulkDeleteSteps, causes_of_deleting, removes, dead_of, dead_at, has_dead, stats_of, IsBelow, IsCounted, entry_count, lives, without_dead, dead_entries}
use Rattle.vacuum.proofs.Imports.{next_block, last_read, moves_of, cursor_past, IsSibling, DueIsToCome, LeadsBack, TurnsTo, TurnsNoMore, IsPruned, moved_beyond, written, bulk_delete_left}
use Rattle.vacuum.proofs.Imports.{PrunedLeaf, Backtrack, BulkDeleteOp}
use Rattle.vacuum.specs.declared.steps.BulkDeleteStep.TheVariants.{Going, Finished}
use Rattle.vacuum.proofs.Counting.{counts_on, counted_beyond, leaves_less, no_leaf_count}
use Rattle.vacuum.proofs.Holding.{pinned_is_held}
use Rattle.vacuum.proofs.Lasting.{same_page}
use Rattle.vacuum.proofs.Removing.{does_remove, swept_may, HasLivingEntries, is_left, gone_is, left_lives, live_is, dead_is, none_lost, dead_are}
use Rattle.vacuum.proofs.Vacuuming.{IsReadOn, due_comes_on, none_is_due}

runs_no_more : (b : Bool) {A : Type 0} → b ≡ false → b ≡ true → A
runs_no_more b alive stopped = absurd cc

-- a step that is refused before anything is changed
pub refuses : {S : Type 0} (g : Ghosts S) (dead : Row → Bool) (op : BulkDeleteOp) (old new : S) (fault : Fault) → Continues g.follows old new → g.state new ≡ g.state old
    → ((g.backing old).stopped ≡ true → fault ≡ Stopped)
    → ((g.backing new).honest ≡ true → IsInOrder (g.state old) → BulkDeleteInvariant (g.state old) op → HasCause (causes_of_deleting dead (g.state old) (g.backing old) (g.backing new) op) fault)
    → BulkDeleteSteps g dead op op old new (Err fault)
refuses g dead op old new fault steps same stops cause = record {
  steps = steps;
  session = refl;
  kept = one_nothing (g.state old) (g.state new) same;
  table = ap (λ (st : State). st.table) same;
  cycle = ap (λ (st : State). st.cycle) same;
  refused = record { state = same; op = refl };
  stopped = λ h. ap Err (stops h);
  stats = tt;
  less = tt;
  due = λ honest due of h. subst (λ (st : State). DueIsToCome due st op.cursor op.backtrack) (sym same) h;
  pins = λ honest other block page differ at pin le. le;
  counts = λ honest h. subst (λ (st : State). IsCounted dead st op) (sym same) h;
  stepped = cause;
}

-- the last step
pub ends : {S : Type 0} (g : Ghosts S) (dead : Row → Bool) (op : BulkDeleteOp) (store : S) (stats : VacuumStats) → (g.backing store).stopped ≡ false → op.backtrack ≡ None
    → length (g.state store).pages ≤ op.cursor → stats ≡ stats_of (g.state store) op → Continues g.follows store store → BulkDeleteSteps g dead op op store store (Ok (Finished stats))
ends g dead op store stats alive none last told steps = record {
  steps = steps;
  session = refl;
  kept = one_nothing (g.state store) (g.state store) refl;
  table = refl;
  cycle = refl;
  refused = tt;
  stopped = λ h. runs_no_more (g.backing store).stopped alive h;
  stats = told;
  less = tt;
  due = λ honest due of h. none_is_due due (g.state store) op.cursor last (subst (DueIsToCome due (g.state store) op.cursor) none h);
  pins = λ honest other block page differ at pin before. absurd (let i = slice_get_within (g.state store).pages block page at.found in omega (arith, i, last, before));
  counts = λ honest h. ap (λ (s : VacuumStats). s.num_index_tuples) told ∙ h.counted ∙ counted_beyond (g.state store).pages op.cursor last;
  stepped = λ honest order fits. record { state = refl; op = refl; last = last; none = none };
}

-- the page that is written, or not, stands at its block, and no other is changed
module _ (changed : Bool) (after : Page) (st : State) where
  pub written_one : (new : State) → new ≡ written changed after st → IsOneActAtMost st new
  written_one new is = by changed is
    where
      by : (c : Bool) → new ≡ written c after st → IsOneActAtMost st new
      by true is = one_act st new (after ∷ []) is
      by false is = one_nothing st new is

  pub written_table : (written changed after st).table ≡ st.table
  written_table = by changed
    where
      by : (c : Bool) → (written c after st).table ≡ st.table
      by true = refl
      by false = refl

  pub written_cycle : (written changed after st).cycle ≡ st.cycle
  written_cycle = by changed
    where
      by : (c : Bool) → (written c after st).cycle ≡ st.cycle
      by true = refl
      by false = refl

  pub written_format : (written changed after st).format ≡ st.format
  written_format = by changed
    where
      by : (c : Bool) → (written c after st).format ≡ st.format
      by true = refl
      by false = refl

  pub written_running : (written changed after st).running ≡ st.running
  written_running = by changed
    where
      by : (c : Bool) → (written c after st).running ≡ st.running
      by true = refl
      by false = refl

  pub written_length : after.block < length st.pages → length (written changed after st).pages ≡ length st.pages
  written_length lt = by changed
    where
      by : (c : Bool) → length (written c after st).pages ≡ length st.pages
      by true = (let l = page_length st.pages after (omega (arith, lt)) in omega (arith, l, lt))
      by false = refl

  pub written_other : (b : ℕ) → b ≢ after.block → after.block < length st.pages → slice_get (written changed after st).pages b ≡ slice_get st.pages b
  written_other b differ lt = by changed
    where
      by : (c : Bool) → slice_get (written c after st).pages b ≡ slice_get st.pages b
      by true = page_other st.pages after b (λ same. differ (sym same)) (omega (arith, lt))
      by false = refl

  pub written_there : (page : Page) → slice_get st.pages after.block ≡ Some page → after.block < length st.pages
      → slice_get (written changed after st).pages after.block ≡ Some (if changed then after else page)
  written_there page found lt = by changed
    where
      by : (c : Bool) → slice_get (written c after st).pages after.block ≡ Some (if c then after else page)
      by true = page_there st.pages after (omega (arith, lt))
      by false = found

-- a leaf that loses nothing isn't written
pub unwritten : (n : ℕ) → nat_lt 0 n ≡ false → n ≡ 0
unwritten zero h = refl
unwritten (suc n) h = absurd (let t : nat_lt 0 (suc n) ≡ true = lt-ltb 0 (suc n) (omega arith) in (let k : true ≡ false = sym t ∙ h in cc))

-- a leaf that carries the cycle leads to one block
leads_to : (cycle from : ℕ) (page : Page) (a b : ℕ) → LeadsBack cycle from page a → LeadsBack cycle from page b → a ≡ b
leads_to cycle from page a b x y = (let k : Some a ≡ Some b = sym x.right_is ∙ y.right_is in cc)

turned : (cycle most from moves : ℕ) (page : Page) (next_page : Option Backtrack) → TurnsTo cycle most from moves page next_page → (block : ℕ) → LeadsBack cycle from page block → IsSibling next_page block
turned cycle most from moves page None turn block leads = absurd (turn block leads)
turned cycle most from moves page (Some b) turn block leads = leads_to cycle from page block b.block leads turn.0

turned_from : (cycle most from moves : ℕ) (page : Page) (next_page : Option Backtrack) → TurnsTo cycle most from moves page next_page → (b : Backtrack) → next_page ≡ Some b
    → LeadsBack cycle from page b.block × (b.from ≡ from) × (b.moves ≡ suc moves) × (moves < most)
turned_from cycle most from moves page None turn b is = absurd cc
turned_from cycle most from moves page (Some c) turn b is = subst (λ (d : Backtrack). LeadsBack cycle from page d.block × (d.from ≡ from) × (d.moves ≡ suc moves) × (moves < most)) (some_is is) turn
  where
    some_is : Some c ≡ Some b → c ≡ b
    some_is k = cc

-- the page that a call has come to, going right, is in use
trail_in_use : (st : State) (start block moves : ℕ) → HasTree st → HasTrail st start 0 block moves → block < length st.pages
trail_in_use st start block moves tree trail = (let t = trail_in st tree.tree start 0 block moves trail in by t.passed t.steps t.trail)
  where
    by : (passed : List ℕ) (steps : ℕ) → IsTrail (nodes_of st.pages) (slice_index st.counted) (tree.tree.chain 0) start passed steps block → block < length st.pages
    by passed steps (reached i left) = (tree.tree.is.in_use 0 block (omega arith) i).1
    by passed steps (over r kept right apart rest) = (deleted_in_use st tree block kept.gone).1

pub next_in_use : (st : State) (op : BulkDeleteOp) → HasTree st → (fits : BulkDeleteInvariant st op) → (op.backtrack ≡ None → op.cursor < length st.pages) → next_block op.cursor op.backtrack < length st.pages
next_in_use st op tree fits inside = by op.backtrack refl fits.backtrack
  where
    by : (backtrack : Option Backtrack) → op.backtrack ≡ backtrack → IsGoingBack st fits.start backtrack → next_block op.cursor backtrack < length st.pages
    by None is goes = inside is
    by (Some b) is goes = trail_in_use st fits.start b.block b.moves tree goes

pub has_room : (st : State) (op : BulkDeleteOp) → BulkDeleteInvariant st op → HasRoom st.table op.session
has_room st op fits = subst (λ (h : Holding). length h.latches < 8) (sym fits.held) (omega arith)

-- the walk to the right has come to the leaf that is read
comes_here : (st : State) (op : BulkDeleteOp) (page : Page) (block : ℕ) → HasTree st → (fits : BulkDeleteInvariant st op) → next_block op.cursor op.backtrack ≡ block
    → IsLeafAt st.pages block page → page.block ≡ block → HasTrail st fits.start 0 page.block (moves_of op.backtrack)
comes_here st op page block tree fits at leaf block_is = by op.backtrack refl fits.backtrack
  where
    by : (backtrack : Option Backtrack) → op.backtrack ≡ backtrack → IsGoingBack st fits.start backtrack → HasTrail st fits.start 0 page.block (moves_of backtrack)
    by None is goes = leaf_begins_trail st fits.start page tree (subst (λ (b : ℕ). slice_get st.pages b ≡ Some page) (sym block_is) leaf.found) leaf.alive leaf.leaf
    by (Some b) is goes = subst (λ (k : ℕ). HasTrail st fits.start 0 k b.moves) (sym at') goes
      where
        at' : page.block ≡ b.block
        at' = block_is ∙ sym at ∙ ap (λ (o : Option Backtrack). next_block op.cursor o) is

-- so it makes no more moves than there are pages
pub never_too_far : (st : State) (op : BulkDeleteOp) (page : Page) (block cycle from : ℕ) → IsInOrder st → (fits : BulkDeleteInvariant st op) → next_block op.cursor op.backtrack ≡ block
    → IsLeafAt st.pages block page → page.block ≡ block → length st.pages ≤ st.format.pages → TurnsNoMore cycle st.format.pages from (moves_of op.backtrack) page → ⊥
never_too_far st op page block cycle from order fits at leaf block_is few more =
    let short = trail_is_short_here st fits.start 0 page.block (moves_of op.backtrack) order.tree (comes_here st op page block order.tree fits at leaf block_is) in
    (let m = more.many in omega (arith, short, few, m))

none_turned : {A : Type 0} (b : Backtrack) → None ≡ Some b → A
none_turned b is = absurd cc

-- a page that isn't a live leaf is passed
pub passes : {S : Type 0} (g : Ghosts S) (dead : Row → Bool) (before after : BulkDeleteOp) (old new : S) (block : ℕ) (page : Page) → Continues g.follows old new → g.state new ≡ g.state old
    → (g.backing old).stopped ≡ false → next_block before.cursor before.backtrack ≡ block → (before.backtrack ≡ None → before.cursor < length (g.state old).pages)
    → ((g.backing new).honest ≡ true → slice_get (g.state old).pages block ≡ Some page) → (page.state ≡ Live → HasEntries page.items → ⊥)
    → after ≡ moved_beyond before None 0 0 → BulkDeleteSteps g dead before after old new (Ok Going)
passes g dead before after old new block page steps same alive at inside_is found none is =
    subst (λ (op : BulkDeleteOp). BulkDeleteSteps g dead before op old new (Ok Going)) (sym is) (record {
      steps = steps;
      session = refl;
      kept = one_nothing (g.state old) (g.state new) same;
      table = ap (λ (s : State). s.table) same;
      cycle = ap (λ (s : State). s.cycle) same;
      refused = tt;
      stopped = λ h. runs_no_more (g.backing old).stopped alive h;
      stats = tt;
      less = subst (λ (s : State).
          bulk_delete_left s.format.pages (length s.pages) (cursor_past before.cursor before.backtrack) None < bulk_delete_left st.format.pages (length st.pages) before.cursor before.backtrack)
          (sym same) (leaves_less st.format.pages (length st.pages) before.cursor before.backtrack None inside_is (λ b k. none_turned b k));
      due = λ honest due of h. subst (λ (s : State). DueIsToCome due s (cursor_past before.cursor before.backtrack) None) (sym same)
          (due_comes_on st st before.cursor before.backtrack None h.from (read_on honest) due h (λ p e leaf on is_due. no_leaf honest p leaf));
      pins = λ honest other b p differ leaf pin le. past honest b p leaf le;
      counts = λ honest h. subst (λ (s : State). IsCounted dead s (moved_beyond before None 0 0)) (sym same)
          (counts_on dead st st before None 0 0 h (λ b differ. refl) (λ b k. none_turned b k) (λ k. count honest k) (λ p e leaf on. absurd (no_leaf honest p leaf)) (λ b k. refl));
      stepped = λ honest order fits. record {
        does = subst (λ (es : List Entry). StepEffect before.session (removes es) st (g.state new)) (sym (none_dead honest)) (nothing_else before.session st (g.state new) same order);
        dead_rows = λ e on. absurd (let k : false ≡ true = subst (λ (es : List Entry). is_among es e ≡ true) (none_dead honest) on in cc);
        count = ap (λ (es : List Entry). before.removed + length es) (sym (none_dead honest));
        fits = subst (λ (s : State). BulkDeleteInvariant s (moved_beyond before None 0 0)) (sym same)
            (record { session = fits.session; start = fits.start; running = fits.running; held = fits.held; backtrack = tt });
      };
    })
  where
    st : State
    st = g.state old

    here : (g.backing new).honest ≡ true → slice_get st.pages (next_block before.cursor before.backtrack) ≡ Some page
    here honest = subst (λ (b : ℕ). slice_get st.pages b ≡ Some page) (sym at) (found honest)

    no_leaf : (g.backing new).honest ≡ true → (p : Page) → IsLeafAt st.pages (next_block before.cursor before.backtrack) p → ⊥
    no_leaf honest p leaf =
        let is_page = same_page st.pages (next_block before.cursor before.backtrack) p page leaf.found (here honest) in
        none (subst (λ (q : Page). q.state ≡ Live) is_page leaf.alive) (subst (λ (q : Page). HasEntries q.items) is_page leaf.leaf)

    read_on : (g.backing new).honest ≡ true → IsReadOn st st before.cursor before.backtrack None
    read_on honest = record {
      cycle = refl;
      others = λ b differ. refl;
      stays = λ p leaf. absurd (no_leaf honest p leaf);
      turn = λ p b leaf leads. absurd (no_leaf honest p leaf);
      from = λ b k. none_turned b k;
    }

    none_dead : (g.backing new).honest ≡ true → dead_at dead st (next_block before.cursor before.backtrack) ≡ []
    none_dead honest = ap (dead_of dead) (here honest) ∙ no_entries (live_entries page.state page.items) (no_leaf_count page none)
      where
        no_entries : (es : List Entry) → length es ≡ 0 → removed_from (lives dead) es ≡ []
        no_entries [] h = refl
        no_entries (e ∷ es) h = absurd (let k : suc (length es) ≡ 0 = h in omega (arith, k))

    count : (g.backing new).honest ≡ true → before.backtrack ≡ None → entry_count (slice_get st.pages before.cursor) ≡ 0
    count honest k = ap entry_count (subst (λ (o : Option Backtrack). slice_get st.pages (next_block before.cursor o) ≡ Some page) k (here honest)) ∙ no_leaf_count page none

    past : (g.backing new).honest ≡ true → (b : ℕ) (p : Page) → IsLeafAt st.pages b p → before.cursor ≤ b → cursor_past before.cursor before.backtrack ≤ b
    past honest b p leaf le = by before.backtrack refl
      where
        by : (o : Option Backtrack) → before.backtrack ≡ o → cursor_past before.cursor o ≤ b
        by (Some c) k = le
        by None k = elim (cases_eq before.cursor b) [
          | inl eq ↦ absurd (no_leaf honest p (subst (λ (n : ℕ). IsLeafAt st.pages n p) (sym eq ∙ sym (ap (λ (o : Option Backtrack). next_block before.cursor o) k)) leaf))
          | inr ne ↦ omega (arith, le, ne)
        ]

not_written : (n : ℕ) → n ≡ 0 → nat_lt 0 n ≡ false
not_written n is = rw is refl

is_written : (n m : ℕ) → n ≡ suc m → nat_lt 0 n ≡ true
is_written n m is = lt-ltb 0 n (omega (arith, is))

-- a page that is read is written exactly if it has dead entries
pub writes_dead : (dead : Row → Bool) (st : State) (op : BulkDeleteOp) (block : ℕ) (page : Page) (pruned : PrunedLeaf) → next_block op.cursor op.backtrack ≡ block → slice_get st.pages block ≡ Some page
    → page.state ≡ Live → HasEntries page.items → IsPruned dead page pruned → nat_lt 0 pruned.gone ≡ has_dead dead st op
writes_dead dead st op block page pruned at found alive leaf sw =
    let here : slice_get st.pages (next_block op.cursor op.backtrack) ≡ Some page = subst (λ (b : ℕ). slice_get st.pages b ≡ Some page) (sym at) found in
    ap (λ (n : ℕ). nat_lt 0 n) (gone_is dead page pruned alive leaf sw ∙ ap (λ (o : Option Page). length (dead_of dead o)) (sym here))

-- a live leaf loses its dead entries, and may lead back
module _ {S : Type 0} (g : Ghosts S) (dead : Row → Bool) (before : BulkDeleteOp) (old new : S) (block : ℕ) (page : Page) (pruned : PrunedLeaf) (next_page : Option Backtrack)
    (at : next_block before.cursor before.backtrack ≡ block) (inside_is : before.backtrack ≡ None → before.cursor < length (g.state old).pages)
    (found : (g.backing new).honest ≡ true → slice_get (g.state old).pages block ≡ Some page) (alive : page.state ≡ Live) (leaf : HasEntries page.items)
    (stored : IsStored (g.state old).format block page) (used : block < length (g.state old).pages) (few : length (g.state old).pages ≤ (g.state old).format.pages)
    (turn : TurnsTo (g.state old).cycle (g.state old).format.pages (last_read before.cursor before.backtrack) (moves_of before.backtrack) page next_page)
    (sw : IsPruned dead page pruned) (free : is_held_by_another (g.state old).table before.session pruned.after.block Cleanup ≡ false) where
  -- the store after the step
  abbrev pub now : State
  now = written (nat_lt 0 pruned.gone) (without_dead dead page) (g.state old)

  lost : pruned.gone ≡ length (dead_entries dead page)
  lost = gone_is dead page pruned alive leaf sw

  block_is : page.block ≡ block
  block_is = stored.block_is

  lt : page.block < length (g.state old).pages
  lt = subst (λ (b : ℕ). b < length (g.state old).pages) (sym block_is) used

  -- where it is read
  next_is : page.block ≡ next_block before.cursor before.backtrack
  next_is = block_is ∙ sym at

  found_here : (g.backing new).honest ≡ true → slice_get (g.state old).pages page.block ≡ Some page
  found_here honest = subst (λ (b : ℕ). slice_get (g.state old).pages b ≡ Some page) (sym block_is) (found honest)

  leaf_here : (g.backing new).honest ≡ true → IsLeafAt (g.state old).pages (next_block before.cursor before.backtrack) page
  leaf_here honest = record { found = subst (λ (b : ℕ). slice_get (g.state old).pages b ≡ Some page) next_is (found_here honest); alive = alive; leaf = leaf }

  free_here : is_held_by_another (g.state old).table before.session page.block Cleanup ≡ false
  free_here = subst (λ (p : Page). is_held_by_another (g.state old).table before.session p.block Cleanup ≡ false) sw.after_is free

  -- what stands there then
  abbrev stands : Page
  stands = if nat_lt 0 pruned.gone then without_dead dead page else page

  left : HasLivingEntries dead page stands
  left = is_left dead page alive leaf (nat_lt 0 pruned.gone) (λ h. sym lost ∙ unwritten pruned.gone h)

  there : (g.backing new).honest ≡ true → slice_get now.pages page.block ≡ Some stands
  there honest = written_there (nat_lt 0 pruned.gone) (without_dead dead page) (g.state old) page (found_here honest) lt

  after_here : (g.backing new).honest ≡ true → (p : Page) → IsLeafAt now.pages (next_block before.cursor before.backtrack) p → p ≡ stands
  after_here honest p h = same_page now.pages page.block p stands (subst (λ (b : ℕ). slice_get now.pages b ≡ Some p) (sym next_is) h.found) (there honest)

  live_there : (g.backing new).honest ≡ true → (p : Page) (e : Entry) → IsLeafAt now.pages (next_block before.cursor before.backtrack) p → is_among (entries_of p.items) e ≡ true → dead e.row ≡ false
  live_there honest p e at_leaf on = left_lives dead page e (subst (λ (es : List Entry). is_among es e ≡ true) (ap (λ (q : Page). entries_of q.items) (after_here honest p at_leaf) ∙ left.entries) on)

  others : (b : ℕ) → b ≢ next_block before.cursor before.backtrack → slice_get now.pages b ≡ slice_get (g.state old).pages b
  others b differ = written_other (nat_lt 0 pruned.gone) (without_dead dead page) (g.state old) b (λ same. differ (same ∙ next_is)) lt

  read_on : (g.backing new).honest ≡ true → IsReadOn (g.state old) now before.cursor before.backtrack next_page
  read_on honest = record {
    cycle = written_cycle (nat_lt 0 pruned.gone) (without_dead dead page) (g.state old);
    others = others;
    stays = λ p h. record { page = stands; was = record { found = subst (λ (b : ℕ). slice_get now.pages b ≡ Some stands) next_is (there honest); alive = left.alive; leaf = left.leaf } };
    turn = λ p b h leads.
        let is_page = same_page (g.state old).pages (next_block before.cursor before.backtrack) p page h.found (leaf_here honest).found in
        turned (g.state old).cycle (g.state old).format.pages (last_read before.cursor before.backtrack) (moves_of before.backtrack) page next_page turn b
        (subst (λ (q : Page). LeadsBack (g.state old).cycle (last_read before.cursor before.backtrack) q b) is_page leads);
    from = λ b is. (
      (turned_from (g.state old).cycle (g.state old).format.pages (last_read before.cursor before.backtrack) (moves_of before.backtrack) page next_page turn b is).1,
      record { page = page; was = leaf_here honest },
    );
  }

  removed : (g.backing new).honest ≡ true → EntriesAreRemoved (g.state old) (lives dead) page (without_dead dead page)
  removed honest = record {
    found = found_here honest;
    alive = alive;
    leaf = leaf;
    after_is = refl;
    may = swept_may dead (g.state old).format (length (g.state old).pages) block page alive leaf stored used few;
  }

  does : (g.backing new).honest ≡ true → IsInOrder (g.state old) → (es : List Entry) → dead_entries dead page ≡ es → StepEffect before.session (removes es) (g.state old) now
  does honest order [] is =
      let c : nat_lt 0 pruned.gone ≡ false = not_written pruned.gone (lost ∙ ap length is) in
      nothing_else before.session (g.state old) now (ap (λ (b : Bool). written b (without_dead dead page) (g.state old)) c) order
  does honest order (e ∷ es) is =
      let c : nat_lt 0 pruned.gone ≡ true = is_written pruned.gone (length es) (lost ∙ ap length is) in
      subst (StepEffect before.session (removes (e ∷ es)) (g.state old)) (ap (λ (b : Bool). written b (without_dead dead page) (g.state old)) (sym c))
      (does_remove (g.state old) before.session dead page e es order (removed honest) (sym (dead_is dead page alive leaf) ∙ is) free_here)

  dead_here : (g.backing new).honest ≡ true → dead_at dead (g.state old) (next_block before.cursor before.backtrack) ≡ dead_entries dead page
  dead_here honest = ap (dead_of dead) (leaf_here honest).found

  trail_lasts : (g.backing new).honest ≡ true → IsInOrder (g.state old) → (start b moves : ℕ) → slice_get (g.state old).running before.session ≡ Some (Some start)
      → HasTrail (g.state old) start 0 b moves → HasTrail now start 0 b moves
  trail_lasts honest order start b moves running trail = by (nat_lt 0 pruned.gone)
    where
      by : (c : Bool) → HasTrail (written c (without_dead dead page) (g.state old)) start 0 b moves
      by true = (removing_lasts (g.state old) (lives dead) page (without_dead dead page) order.tree (removed honest)).0.trails start 0 b moves (record { session = before.session; is = running }) trail
      by false = trail

  goes_back : (g.backing new).honest ≡ true → IsInOrder (g.state old) → (fits : BulkDeleteInvariant (g.state old) before) → IsGoingBack now fits.start next_page
  goes_back honest order fits = by next_page refl
    where
      by : (o : Option Backtrack) → next_page ≡ o → IsGoingBack now fits.start o
      by None is = tt
      by (Some b) is =
          let t = turned_from (g.state old).cycle (g.state old).format.pages (last_read before.cursor before.backtrack) (moves_of before.backtrack) page next_page turn b is in
          let here = comes_here (g.state old) before page block order.tree fits at (record { found = found honest; alive = alive; leaf = leaf }) block_is in
          let right = trail_moves_right (g.state old) fits.start 0 (moves_of before.backtrack) b.block page order.tree (found_here honest) t.0.right_is here in
          trail_lasts honest order fits.start b.block b.moves fits.running (subst (HasTrail (g.state old) fits.start 0 b.block) (sym t.2) right)

  pub fits_on : (g.backing new).honest ≡ true → IsInOrder (g.state old) → BulkDeleteInvariant (g.state old) before → BulkDeleteInvariant now (moved_beyond before next_page pruned.kept pruned.gone)
  fits_on honest order fits = record {
    session = fits.session;
    start = fits.start;
    running = ap (λ (r : List (Option ℕ)). slice_get r before.session) (written_running (nat_lt 0 pruned.gone) (without_dead dead page) (g.state old)) ∙ fits.running;
    held = ap (λ (t : Table). holding_of t before.session) (written_table (nat_lt 0 pruned.gone) (without_dead dead page) (g.state old)) ∙ fits.held;
    backtrack = goes_back honest order fits;
  }

  past : (g.backing new).honest ≡ true → (other b : ℕ) → other ≢ before.session → has_pin (holding_of (g.state old).table other).pins b ≡ true → before.cursor ≤ b
      → cursor_past before.cursor before.backtrack ≤ b
  past honest other b differ pin le = by before.backtrack refl
    where
      by : (o : Option Backtrack) → before.backtrack ≡ o → cursor_past before.cursor o ≤ b
      by (Some c) k = le
      by None k = elim (cases_eq before.cursor b) [
        | inl eq ↦ (
            let is : page.block ≡ b = next_is ∙ ap (λ (o : Option Backtrack). next_block before.cursor o) k ∙ eq in
            absurd (pinned_is_held (g.state old).table before.session other b differ pin (subst (λ (n : ℕ). is_held_by_another (g.state old).table before.session n Cleanup ≡ false) is free_here)))
        | inr ne ↦ omega (arith, le, ne)
      ]

  counted : (g.backing new).honest ≡ true → IsCounted dead (g.state old) before → IsCounted dead now (moved_beyond before next_page pruned.kept pruned.gone)
  counted honest h = counts_on dead (g.state old) now before next_page pruned.kept pruned.gone h others
      (λ b is.
      let t = turned_from (g.state old).cycle (g.state old).format.pages (last_read before.cursor before.backtrack) (moves_of before.backtrack) page next_page turn b is in
      (t.0.below, t.1))
      (λ k. ap entry_count (subst (λ (b : ℕ). slice_get now.pages b ≡ Some stands) (next_is ∙ ap (λ (o : Option Backtrack). next_block before.cursor o) k) (there honest))
      ∙ ap length (live_is stands left.alive left.leaf ∙ left.entries) ∙ ap (λ (p : Page). length (entries_of p.items)) (sym sw.after_is) ∙ sym sw.kept_is)
      (λ p e at_leaf on. live_there honest p e at_leaf on)
      (λ b k.
      let low : b.block < before.cursor = (subst (IsBelow before.cursor) k h.below).0 in
      let is : next_block before.cursor before.backtrack ≡ b.block = ap (λ (o : Option Backtrack). next_block before.cursor o) k in
      let none = none_lost dead page alive leaf (λ e on. h.clean (next_block before.cursor before.backtrack) page e (omega (arith, low, is)) (leaf_here honest) on) in
      ap (λ (c : Bool). (written c (without_dead dead page) (g.state old)).pages) (not_written pruned.gone (lost ∙ none)))

  pub takes : (op : BulkDeleteOp) → Continues g.follows old new → (g.backing old).stopped ≡ false → g.state new ≡ written (nat_lt 0 pruned.gone) pruned.after (g.state old)
      → op ≡ moved_beyond before next_page pruned.kept pruned.gone → BulkDeleteSteps g dead before op old new (Ok Going)
  takes op steps running written_is is = subst (λ (o : BulkDeleteOp). BulkDeleteSteps g dead before o old new (Ok Going)) (sym is) (record {
    steps = steps;
    session = refl;
    kept = written_one (nat_lt 0 pruned.gone) (without_dead dead page) (g.state old) (g.state new) new_is;
    table = ap (λ (s : State). s.table) new_is ∙ written_table (nat_lt 0 pruned.gone) (without_dead dead page) (g.state old);
    cycle = ap (λ (s : State). s.cycle) new_is ∙ written_cycle (nat_lt 0 pruned.gone) (without_dead dead page) (g.state old);
    refused = tt;
    stopped = λ h. runs_no_more (g.backing old).stopped running h;
    stats = tt;
    less = subst (λ (s : State). bulk_delete_left s.format.pages (length s.pages) (cursor_past before.cursor before.backtrack) next_page
        < bulk_delete_left (g.state old).format.pages (length (g.state old).pages) before.cursor before.backtrack) (sym new_is)
        (rw (written_format (nat_lt 0 pruned.gone) (without_dead dead page) (g.state old), written_length (nat_lt 0 pruned.gone) (without_dead dead page) (g.state old) lt)
        (leaves_less (g.state old).format.pages (length (g.state old).pages) before.cursor before.backtrack next_page inside_is
        (λ b k. let t = turned_from (g.state old).cycle (g.state old).format.pages (last_read before.cursor before.backtrack) (moves_of before.backtrack) page next_page turn b k in (t.2, t.3))));
    due = λ honest due of h. subst (λ (s : State). DueIsToCome due s (cursor_past before.cursor before.backtrack) next_page) (sym new_is)
        (due_comes_on (g.state old) now before.cursor before.backtrack next_page h.from (read_on honest) due h
        (λ p e at_leaf on is_due. clash (dead e.row) (of e is_due) (live_there honest p e at_leaf on)));
    pins = λ honest other b p differ at_leaf pin le. past honest other b differ pin le;
    counts = λ honest h. subst (λ (s : State). IsCounted dead s (moved_beyond before next_page pruned.kept pruned.gone)) (sym new_is) (counted honest h);
    stepped = λ honest order fits. record {
      does = subst (StepEffect before.session (removes (dead_at dead (g.state old) (next_block before.cursor before.backtrack))) (g.state old)) (sym new_is)
          (subst (λ (es : List Entry). StepEffect before.session (removes es) (g.state old) now) (sym (dead_here honest)) (does honest order (dead_entries dead page) refl));
      dead_rows = λ e on. dead_are dead page e (subst (λ (es : List Entry). is_among es e ≡ true) (dead_here honest) on);
      count = ap (λ (n : ℕ). before.removed + n) (lost ∙ ap length (sym (dead_here honest)));
      fits = subst (λ (s : State). BulkDeleteInvariant s (moved_beyond before next_page pruned.kept pruned.gone)) (sym new_is) (fits_on honest order fits);
    };
  })
    where
      new_is : g.state new ≡ now
      new_is = written_is ∙ ap (λ (p : Page). written (nat_lt 0 pruned.gone) p (g.state old)) sw.after_is

      clash : (b : Bool) → b ≡ true → b ≡ false → ⊥
      clash b x y = cc
