-- Where a cleanup goes.
use Rattle.std.specs.Prelude.{◌≡◌, ◌≢◌, ℕ, suc, ◌+◌, ◌||◌, ◌==◌, Bool, Some, None, length}
use Rattle.index_model.specs.declared.bound.Bound.{Bound}
use Rattle.index_model.specs.declared.stats.VacuumStats.{VacuumStats}
use Rattle.page_codec.specs.declared.page.Page.{Page}
use Rattle.page_codec.specs.declared.page.PageState.TheVariants.{HalfDead}
use Rattle.page_action.specs.States.{State}
use Rattle.tree_shape.specs.Deletion.{MayDie}
use Rattle.vacuum.specs.BulkDeletes.{is_full_count}
use Rattle.vacuum.specs.Counts.{deleted_count, free_count, entry_count}
use Rattle.page_delete.specs.declared.steps.CleanupAt.{CleanupAt}
use Rattle.page_delete.specs.declared.steps.CleanupAt.TheVariants.{Look, Start, Unlink}
use Rattle.page_delete.specs.declared.steps.CleanupOp.{CleanupOp}

-- a cleanup before its first step
abbrev pub fresh_cleanup : ℕ → CleanupOp
fresh_cleanup session = record {
  session = session;
  cursor = 1;
  at = Look;
  left = 0;
  deleted = 0;
}

-- the cleanup before another step for the page at the cursor
abbrev pub turned_to : CleanupOp → CleanupAt → CleanupOp
turned_to op at = record op { at = at }

-- the cleanup after the page at the cursor, on which it counted `count` entries
abbrev pub moved_past : CleanupOp → ℕ → CleanupOp
moved_past op count = record op { cursor = suc op.cursor; at = Look; left = op.left + count }

-- ... which it has unlinked
abbrev pub moved_past_deleted : CleanupOp → CleanupOp
moved_past_deleted op = record op { cursor = suc op.cursor; at = Look; deleted = suc op.deleted }

-- a counter of 32 bits is at its end
abbrev pub is_last_number : ℕ → Bool
is_last_number count = count == 4294967295

-- a counter is at its end, or has no room for the entries of one more leaf
abbrev pub cleanup_counted_out : CleanupOp → Bool
cleanup_counted_out op = is_full_count op.left || (is_last_number op.cursor || is_last_number op.deleted)

-- where the page at the cursor leads the cleanup: a half-dead one is unlinked; for an empty leaf the parent
-- is looked for; any other is passed
pub data TurnsAt (page : Page) (before after : CleanupOp) : Type 0 where
  unlinks : page.state ≡ HalfDead → after ≡ turned_to before Unlink → TurnsAt page before after
  tries : (high : Bound) → MayDie page → page.high ≡ Some high → after ≡ turned_to before (Start high)
      → TurnsAt page before after
  passes : page.state ≢ HalfDead → (MayDie page → page.high ≡ None)
      → after ≡ moved_past before (entry_count (Some page))
      → TurnsAt page before after

-- the statistics of a cleanup that ends
abbrev pub cleanup_stats : State → CleanupOp → VacuumStats
cleanup_stats st op = record {
  num_pages = length st.pages;
  num_index_tuples = op.left;
  tuples_removed = 0;
  pages_newly_deleted = op.deleted;
  pages_deleted = deleted_count st (length st.pages);
  pages_free = free_count st op.session (length st.pages);
}
