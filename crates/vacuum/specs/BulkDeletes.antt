-- What a bulk delete knows between its steps, and what a step of it does.
use Rattle.std.specs.Prelude.{◌≡◌, ◌≢◌, ℕ, ◌+◌, ◌<◌, ◌≤◌, ◌||◌, nat_lt, Bool, true, false, Option, Some, None, Result, Ok, Err, OnErr, List, [], ◌∷◌, length, slice_get}
use Rattle.index_model.specs.Actions.{Effect, Remove}
use Rattle.index_model.specs.Faults.{Circumstances, HasCause}
use Rattle.index_model.specs.Order.{is_among}
use Rattle.index_model.specs.Row.{Row}
use Rattle.index_model.specs.declared.entry.Entry.{Entry}
use Rattle.index_model.specs.declared.fault.Fault.{Fault}
use Rattle.index_model.specs.declared.fault.Fault.TheVariants.{Stopped}
use Rattle.latch_table.specs.Holdings.{has_pin, holding_of, nothing_held, is_held_by_another}
use Rattle.latch_table.specs.declared.mode.Mode.TheVariants.{Cleanup}
use Rattle.page_codec.specs.declared.page.Page.{Page}
use Rattle.page_action.specs.Causes.{nothing_wrong, has_failed, is_at_end, pinned_blocks, count_apart}
use Rattle.page_action.specs.Contents.{entry_on_live_leaf}
use Rattle.page_action.specs.States.{State, Backing, Continues}
use Rattle.page_action.specs.declared.page_store.PageStore.{Ghosts}
use Rattle.tree_acts.specs.Leaves.{IsLeafAt}
use Rattle.tree_acts.specs.Trees.{HasTrail}
use Rattle.tree_acts.specs.StepEffects.{IsInOrder, StepEffect, IsOneActAtMost, lacks_room}
use Rattle.vacuum.specs.Counts.{stats_of, entries_below, IsCounted}
use Rattle.vacuum.specs.Ops.{dead_entries, next_block}
use Rattle.vacuum.specs.Vacuuming.{DueIsToCome}
use Rattle.vacuum.specs.Work.{bulk_delete_left}
use Rattle.vacuum.specs.declared.steps.Backtrack.{Backtrack}
use Rattle.vacuum.specs.declared.steps.BulkDeleteOp.{BulkDeleteOp}
use Rattle.vacuum.specs.declared.steps.BulkDeleteStep.{BulkDeleteStep}
use Rattle.vacuum.specs.declared.steps.BulkDeleteStep.TheVariants.{Going, Finished}

-- going back, it has come so far to the right from the leaf at which it began, past no page twice
abbrev pub IsGoingBack : State → ℕ → Option Backtrack → Type 0
IsGoingBack st start None = Unit {0}
IsGoingBack st start (Some backtrack) = HasTrail st start 0 backtrack.block backtrack.moves

-- what a bulk delete knows between its steps
pub record BulkDeleteInvariant (st : State) (op : BulkDeleteOp) : Type 0 where
  pub session : op.session < 64
  -- its call runs, with a start number
  pub start : ℕ
  pub running : slice_get st.running op.session ≡ Some (Some start)
  pub held : holding_of st.table op.session ≡ nothing_held
  pub backtrack : IsGoingBack st start op.backtrack

-- a counter of 64 bits has no room for the entries of one more leaf
abbrev pub is_full_count : ℕ → Bool
is_full_count count = nat_lt 18446744073709551565 count

abbrev pub is_counted_out : BulkDeleteOp → Bool
is_counted_out op = is_full_count op.left || is_full_count op.removed

-- these entries are removed, if there are any
abbrev pub removes : List Entry → Option Effect
removes [] = None
removes (e ∷ es) = Some (Remove (e ∷ es))

-- the dead entries of the page at a block
abbrev pub dead_of : (Row → Bool) → Option Page → List Entry
dead_of dead None = []
dead_of dead (Some page) = dead_entries dead page

abbrev pub dead_at : (Row → Bool) → State → ℕ → List Entry
dead_at dead st block = dead_of dead (slice_get st.pages block)

-- the page that is read next has dead entries
abbrev pub has_dead : (Row → Bool) → State → BulkDeleteOp → Bool
has_dead dead st op = nat_lt 0 (length (dead_at dead st (next_block op.cursor op.backtrack)))

-- the block, if it is written
abbrev pub block_if : Bool → ℕ → List ℕ
block_if true block = block ∷ []
block_if false block = []

-- why a step of a bulk delete is refused that writes these blocks
abbrev pub causes_of_taking : List ℕ → State → Backing → Backing → BulkDeleteOp → Circumstances
causes_of_taking images st old new op = record nothing_wrong {
  device_failed = has_failed old new;
  is_stopped = old.stopped || (is_at_end st.acts || is_counted_out op);
  is_held_by_another = λ b. is_held_by_another st.table op.session b Cleanup;
  log_is_full = lacks_room old new images;
  frames_are_pinned = nat_lt st.frames (1 + count_apart (pinned_blocks st.table));
}

-- why a step of a bulk delete of this set of rows is refused, on pages that are a tree and a device that
-- keeps its model: it writes the page that it reads if that has dead entries
abbrev pub causes_of_deleting : (Row → Bool) → State → Backing → Backing → BulkDeleteOp → Circumstances
causes_of_deleting dead st old new op =
    causes_of_taking (block_if (has_dead dead st op) (next_block op.cursor op.backtrack)) st old new op

-- a page is read: its dead entries are removed in one act
pub record BulkDeleteContinues (dead : Row → Bool) (old new : State) (before after : BulkDeleteOp)
    : Type 0 where
  pub does : StepEffect before.session
      (removes (dead_at dead old (next_block before.cursor before.backtrack))) old new
  pub dead_rows : (e : Entry)
      → is_among (dead_at dead old (next_block before.cursor before.backtrack)) e ≡ true
      → dead e.row ≡ true
  pub count : after.removed
      ≡ before.removed + length (dead_at dead old (next_block before.cursor before.backtrack))
  pub fits : BulkDeleteInvariant new after

-- each block in use was read
pub record BulkDeleteEnds (old new : State) (before after : BulkDeleteOp) : Type 0 where
  pub state : new ≡ old
  pub op : after ≡ before
  pub last : length old.pages ≤ before.cursor
  pub none : before.backtrack ≡ None

-- what a step of a bulk delete does, by what it answers
abbrev pub BulkDeleteStepped : (Row → Bool) → State → Backing → State → Backing → BulkDeleteOp
    → BulkDeleteOp → Result BulkDeleteStep Fault → Type 0
BulkDeleteStepped dead old old_backing new new_backing before after (Ok Going) =
    BulkDeleteContinues dead old new before after
BulkDeleteStepped dead old old_backing new new_backing before after (Ok (Finished stats)) =
    BulkDeleteEnds old new before after
BulkDeleteStepped dead old old_backing new new_backing before after (Err fault) =
    HasCause (causes_of_deleting dead old old_backing new_backing before) fault

-- a refused step changes neither the pages, nor who holds what, nor the call
pub record BulkDeleteStays (old new : State) (before after : BulkDeleteOp) : Type 0 where
  pub state : new ≡ old
  pub op : after ≡ before

-- the statistics are those of the call and of the pages
abbrev pub StatsAreRight : State → BulkDeleteOp → Result BulkDeleteStep Fault → Type 0
StatsAreRight st op (Ok Going) = Unit {0}
StatsAreRight st op (Ok (Finished stats)) = stats ≡ stats_of st op
StatsAreRight st op (Err fault) = Unit {0}

-- each step that goes on leaves less to do
abbrev pub BulkDeleteHasLessLeft : State → State → BulkDeleteOp → BulkDeleteOp
    → Result BulkDeleteStep Fault → Type 0
BulkDeleteHasLessLeft old new before after (Ok Going) =
    bulk_delete_left new.format.pages (length new.pages) after.cursor after.backtrack
    < bulk_delete_left old.format.pages (length old.pages) before.cursor before.backtrack
BulkDeleteHasLessLeft old new before after (Ok (Finished stats)) = Unit {0}
BulkDeleteHasLessLeft old new before after (Err fault) = Unit {0}

-- what was due is to come still; at the end none of it is there
abbrev pub DueStaysToCome : (Entry → Bool) → State → BulkDeleteOp → Result BulkDeleteStep Fault
    → Type 0
DueStaysToCome due new after (Ok Going) = DueIsToCome due new after.cursor after.backtrack
DueStaysToCome due new after (Ok (Finished stats)) =
    (e : Entry) → due e ≡ true → entry_on_live_leaf new.pages e ≡ false
DueStaysToCome due new after (Err fault) = DueIsToCome due new after.cursor after.backtrack

-- the set has each entry that is due
abbrev pub IsDueOf : (Row → Bool) → (Entry → Bool) → Type 0
IsDueOf dead due = (e : Entry) → due e ≡ true → dead e.row ≡ true

-- it is still before the leaf
abbrev pub StaysBefore : ℕ → BulkDeleteOp → Result BulkDeleteStep Fault → Type 0
StaysBefore block after (Ok Going) = after.cursor ≤ block
StaysBefore block after (Ok (Finished stats)) = ⊥
StaysBefore block after (Err fault) = after.cursor ≤ block

-- it doesn't come past a leaf that another session has pinned, nor to its end
abbrev pub StaysBeforePins : State → BulkDeleteOp → BulkDeleteOp → Result BulkDeleteStep Fault
    → Type 0
StaysBeforePins st before after result =
    (other block : ℕ) (page : Page) → other ≢ before.session → IsLeafAt st.pages block page
    → has_pin (holding_of st.table other).pins block ≡ true → before.cursor ≤ block
    → StaysBefore block after result

-- if nobody else acts, what it has counted are the entries that it has left; at the end all of them
abbrev pub CountsOn : (Row → Bool) → State → BulkDeleteOp → Result BulkDeleteStep Fault → Type 0
CountsOn dead new after (Ok Going) = IsCounted dead new after
CountsOn dead new after (Ok (Finished stats)) =
    stats.num_index_tuples ≡ entries_below new.pages (length new.pages)
CountsOn dead new after (Err fault) = IsCounted dead new after

-- A step of a bulk delete of this set of rows. On any pages: it does one act at most and holds nothing after
-- it; a refused one changes nothing; a stopped log refuses it; each that goes on leaves less to do; the
-- statistics are right. Over a device that keeps its model: what is due to be removed is to come still, and
-- is gone at the end; it doesn't come past a leaf that another session has pinned. On pages in order: what it
-- does, and why it is refused.
pub record BulkDeleteSteps {S : Type 0} (g : Ghosts S) (dead : Row → Bool)
    (before after : BulkDeleteOp) (old new : S) (result : Result BulkDeleteStep Fault) : Type 0
  where
    pub steps : Continues g.follows old new
    pub session : after.session ≡ before.session
    pub kept : IsOneActAtMost (g.state old) (g.state new)
    pub table : (g.state new).table ≡ (g.state old).table
    pub cycle : (g.state new).cycle ≡ (g.state old).cycle
    pub refused : OnErr result (BulkDeleteStays (g.state old) (g.state new) before after)
    pub stopped : (g.backing old).stopped ≡ true → result ≡ Err Stopped
    pub stats : StatsAreRight (g.state old) before result
    pub less : BulkDeleteHasLessLeft (g.state old) (g.state new) before after result
    pub due : (g.backing new).honest ≡ true → (due : Entry → Bool) → IsDueOf dead due
        → DueIsToCome due (g.state old) before.cursor before.backtrack
        → DueStaysToCome due (g.state new) after result
    pub pins : (g.backing new).honest ≡ true
        → StaysBeforePins (g.state old) before after result
    pub counts : (g.backing new).honest ≡ true → IsCounted dead (g.state old) before
        → CountsOn dead (g.state new) after result
    pub stepped : (g.backing new).honest ≡ true → IsInOrder (g.state old)
        → BulkDeleteInvariant (g.state old) before
        → BulkDeleteStepped dead (g.state old) (g.backing old) (g.state new) (g.backing new)
        before after result
