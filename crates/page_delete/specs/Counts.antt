-- What a cleanup counts, and what it has cleaned, if nobody else acts.
use Rattle.std.specs.Prelude.{◌≡◌, ◌≢◌, ℕ, suc, ◌+◌, ◌<◌, ◌≤◌, Result, Ok, Err, length, slice_get}
use Rattle.index_model.specs.declared.fault.Fault.{Fault}
use Rattle.page_codec.specs.declared.page.PageState.TheVariants.{HalfDead}
use Rattle.page_action.specs.States.{State}
use Rattle.tree_acts.specs.Deletions.{state_in}
use Rattle.vacuum.specs.Counts.{entry_count, entries_below, deleted_count}
use Rattle.page_delete.specs.declared.steps.CleanupAt.{CleanupAt}
use Rattle.page_delete.specs.declared.steps.CleanupAt.TheVariants.{Look, Start, Down, Judge, Unlink}
use Rattle.page_delete.specs.declared.steps.CleanupOp.{CleanupOp}
use Rattle.page_delete.specs.declared.steps.CleanupStep.{CleanupStep}
use Rattle.page_delete.specs.declared.steps.CleanupStep.TheVariants.{Going, Finished}

-- the page of the block has no entries
abbrev pub IsEmptyAt : State → ℕ → Type 0
IsEmptyAt st block = entry_count (slice_get st.pages block) ≡ 0

-- after the look at it the page at the cursor has no entries; it isn't half-dead, unless it is unlinked next
abbrev pub IsFoundEmpty : State → ℕ → CleanupAt → Type 0
IsFoundEmpty st cursor Look = Unit {0}
IsFoundEmpty st cursor (Start high) = IsEmptyAt st cursor × (state_in st cursor ≢ HalfDead)
IsFoundEmpty st cursor (Down high position) = IsEmptyAt st cursor × (state_in st cursor ≢ HalfDead)
IsFoundEmpty st cursor (Judge high parent) = IsEmptyAt st cursor × (state_in st cursor ≢ HalfDead)
IsFoundEmpty st cursor Unlink = IsEmptyAt st cursor

-- how many blocks it has come to: those before the cursor, and the one at it once it was looked at
abbrev pub come_to : ℕ → CleanupAt → ℕ
come_to cursor Look = cursor
come_to cursor (Start high) = suc cursor
come_to cursor (Down high position) = suc cursor
come_to cursor (Judge high parent) = suc cursor
come_to cursor Unlink = suc cursor

-- If nobody else acted since it began: the pages before the cursor have as many entries as it counted, and
-- none of them is half-dead; it has come to blocks in use alone, and has unlinked fewer pages than it went
-- past.
pub record IsCleaned (st : State) (op : CleanupOp) : Type 0 where
  pub counted : op.left ≡ entries_below st.pages op.cursor
  pub none_dead : (block : ℕ) → block < op.cursor → state_in st block ≢ HalfDead
  pub empty : IsFoundEmpty st op.cursor op.at
  pub within : come_to op.cursor op.at ≤ length st.pages
  pub fewer : op.deleted < op.cursor

-- all pages in use have `count` entries, and none of them is half-dead
pub record AllIsCleaned (st : State) (count : ℕ) : Type 0 where
  pub counted : count ≡ entries_below st.pages (length st.pages)
  pub none_dead : (block : ℕ) → block < length st.pages → state_in st block ≢ HalfDead

-- it stays so, and at the end all pages are cleaned
abbrev pub CleansOn : State → CleanupOp → Result CleanupStep Fault → Type 0
CleansOn new after (Ok Going) = IsCleaned new after
CleansOn new after (Ok (Finished stats)) = AllIsCleaned new stats.num_index_tuples
CleansOn new after (Err fault) = IsCleaned new after

-- how many pages are deleted
abbrev pub deleted_in : State → ℕ
deleted_in st = deleted_count st (length st.pages)

-- as many more pages are deleted after a step as it has counted more; at the end it tells as many as it has
-- counted
abbrev pub CountsDeleted : State → State → CleanupOp → CleanupOp → Result CleanupStep Fault → Type 0
CountsDeleted old new before after (Ok Going) =
    deleted_in new + before.deleted ≡ deleted_in old + after.deleted
CountsDeleted old new before after (Ok (Finished stats)) =
    deleted_in new + before.deleted ≡ deleted_in old + stats.pages_newly_deleted
CountsDeleted old new before after (Err fault) = Unit {0}
