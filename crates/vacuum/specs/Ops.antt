-- What a bulk delete reads next, and what it leaves of a leaf.
use Rattle.std.specs.Prelude.{ℕ, Bool, not, suc, Option, Some, None, List}
use Rattle.std.specs.List.{filter}
use Rattle.index_model.specs.Row.{Row}
use Rattle.index_model.specs.declared.entry.Entry.{Entry}
use Rattle.page_codec.specs.Edits.{entries_of, with_entries, renewed}
use Rattle.page_codec.specs.declared.page.Page.{Page}
use Rattle.page_action.specs.Contents.{live_entries}
use Rattle.tree_shape.specs.Edits.{removed_from}
use Rattle.vacuum.specs.declared.steps.Backtrack.{Backtrack}
use Rattle.vacuum.specs.declared.steps.BulkDeleteOp.{BulkDeleteOp}

-- a bulk delete before its first step
abbrev pub fresh_bulk_delete : ℕ → BulkDeleteOp
fresh_bulk_delete session = record {
  session = session;
  cursor = 1;
  backtrack = None;
  left = 0;
  removed = 0;
}

-- the row of the entry isn't in the set
abbrev pub lives : (Row → Bool) → Entry → Bool
lives dead e = not (dead e.row)

-- a leaf without its dead entries, in the second layout
abbrev pub without_dead : (Row → Bool) → Page → Page
without_dead dead page = with_entries (renewed page) (filter (lives dead) (entries_of page.items))

-- the dead entries of a page
abbrev pub dead_entries : (Row → Bool) → Page → List Entry
dead_entries dead page = removed_from (lives dead) (live_entries page.state page.items)

-- the block that is read next: going back the sibling, else that at the cursor
abbrev pub next_block : ℕ → Option Backtrack → ℕ
next_block cursor None = cursor
next_block cursor (Some backtrack) = backtrack.block

-- the last leaf that was read in block order, or is: going back it goes to blocks below that
abbrev pub last_read : ℕ → Option Backtrack → ℕ
last_read cursor None = cursor
last_read cursor (Some backtrack) = backtrack.from

-- how many moves back were made since that leaf
abbrev pub moves_of : Option Backtrack → ℕ
moves_of None = 0
moves_of (Some backtrack) = backtrack.moves

-- the cursor after the block that is read
abbrev pub cursor_past : ℕ → Option Backtrack → ℕ
cursor_past cursor None = suc cursor
cursor_past cursor (Some backtrack) = cursor
