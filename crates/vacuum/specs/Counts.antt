-- What a bulk delete counts.
use Rattle.std.specs.Prelude.{◌≡◌, ℕ, zero, suc, ◌+◌, ◌<◌, Bool, true, false, ◌&&◌, if◌then◌else◌, Option, Some, None, List, length, slice_get}
use Rattle.index_model.specs.Order.{is_among}
use Rattle.index_model.specs.Row.{Row}
use Rattle.index_model.specs.declared.entry.Entry.{Entry}
use Rattle.index_model.specs.declared.stats.VacuumStats.{VacuumStats}
use Rattle.page_codec.specs.Edits.{entries_of}
use Rattle.page_codec.specs.declared.page.Page.{Page}
use Rattle.page_action.specs.Contents.{live_entries}
use Rattle.page_action.specs.Reuse.{is_deleted, is_reusable_without}
use Rattle.page_action.specs.States.{State}
use Rattle.tree_acts.specs.Leaves.{IsLeafAt}
use Rattle.vacuum.specs.declared.steps.Backtrack.{Backtrack}
use Rattle.vacuum.specs.declared.steps.BulkDeleteOp.{BulkDeleteOp}

-- how many of the pages of blocks below a number are deleted
abbrev pub deleted_count : State → ℕ → ℕ
deleted_count st zero = 0
deleted_count st (suc block) =
    (if is_deleted st.pages block then 1 else 0) + deleted_count st block

-- ... and would be reusable, were the session's call not running
abbrev pub free_count : State → ℕ → ℕ → ℕ
free_count st session zero = 0
free_count st session (suc block) =
    (if is_deleted st.pages block && is_reusable_without st session block then 1 else 0)
    + free_count st session block

-- how many entries stand on a live leaf
abbrev pub entry_count : Option Page → ℕ
entry_count None = 0
entry_count (Some page) = length (live_entries page.state page.items)

-- ... and on those of blocks below a number
abbrev pub entries_below : List Page → ℕ → ℕ
entries_below pages zero = 0
entries_below pages (suc block) = entry_count (slice_get pages block) + entries_below pages block

-- the statistics of a bulk delete that ends
abbrev pub stats_of : State → BulkDeleteOp → VacuumStats
stats_of st op = record {
  num_pages = length st.pages;
  num_index_tuples = op.left;
  tuples_removed = op.removed;
  pages_newly_deleted = 0;
  pages_deleted = deleted_count st (length st.pages);
  pages_free = free_count st op.session (length st.pages);
}

-- going back, it is below the cursor
abbrev pub IsBelow : ℕ → Option Backtrack → Type 0
IsBelow cursor None = Unit {0}
IsBelow cursor (Some backtrack) = (backtrack.block < cursor) × (backtrack.from < cursor)

-- If nobody else acted since it began: the pages before the cursor have no dead entry any more, and as
-- many entries as it counted.
pub record IsCounted (dead : Row → Bool) (st : State) (op : BulkDeleteOp) : Type 0 where
  pub counted : op.left ≡ entries_below st.pages op.cursor
  pub below : IsBelow op.cursor op.backtrack
  pub clean : (block : ℕ) (page : Page) (e : Entry) → block < op.cursor
      → IsLeafAt st.pages block page → is_among (entries_of page.items) e ≡ true
      → dead e.row ≡ false
