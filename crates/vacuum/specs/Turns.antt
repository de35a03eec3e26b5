-- What the parts of a step of a bulk delete do.
use Rattle.std.specs.Prelude.{◌≡◌, ℕ, suc, ◌+◌, ◌<◌, ◌≤◌, Bool, if◌then◌else◌, Option, Some, None, length, [], ◌∷◌}
use Rattle.index_model.specs.Row.{Row}
use Rattle.page_codec.specs.Edits.{entries_of}
use Rattle.page_codec.specs.declared.page.Page.{Page}
use Rattle.page_action.specs.States.{State, after_act}
use Rattle.vacuum.specs.Ops.{without_dead, cursor_past}
use Rattle.vacuum.specs.declared.leaf.PrunedLeaf.{PrunedLeaf}
use Rattle.vacuum.specs.declared.steps.Backtrack.{Backtrack}
use Rattle.vacuum.specs.declared.steps.BulkDeleteOp.{BulkDeleteOp}

-- the leaf carries the cycle number, and its right link leads to this block, below that one
pub record LeadsBack (cycle from : ℕ) (page : Page) (block : ℕ) : Type 0 where
  pub carries : page.cycle ≡ cycle
  pub right_is : page.right ≡ Some block
  pub below : block < from

-- after a leaf the bulk delete goes back to the sibling to which it leads, by one move more; or it leads to
-- none
abbrev pub TurnsTo : ℕ → ℕ → ℕ → ℕ → Page → Option Backtrack → Type 0
TurnsTo cycle most from moves page None = (block : ℕ) → LeadsBack cycle from page block → ⊥
TurnsTo cycle most from moves page (Some backtrack) = LeadsBack cycle from page backtrack.block
    × (backtrack.from ≡ from) × (backtrack.moves ≡ suc moves) × (moves < most)

-- the leaf leads back, and `most` moves back were made already
pub record TurnsNoMore (cycle most from moves : ℕ) (page : Page) : Type 0 where
  pub block : ℕ
  pub leads : LeadsBack cycle from page block
  pub many : most ≤ moves

-- the leaf without its dead entries, and how many entries it keeps and loses
pub record IsPruned (dead : Row → Bool) (page : Page) (pruned : PrunedLeaf) : Type 0 where
  pub after_is : pruned.after ≡ without_dead dead page
  pub kept_is : pruned.kept ≡ length (entries_of pruned.after.items)
  pub gone_is : pruned.kept + pruned.gone ≡ length (entries_of page.items)

-- the entries left are counted in block order alone
abbrev pub left_with : ℕ → Option Backtrack → ℕ → ℕ
left_with left None kept = left + kept
left_with left (Some backtrack) kept = left

-- the bulk delete after a page that it has read
abbrev pub moved_beyond : BulkDeleteOp → Option Backtrack → ℕ → ℕ → BulkDeleteOp
moved_beyond op backtrack kept gone = record op {
  cursor = cursor_past op.cursor op.backtrack;
  backtrack = backtrack;
  left = left_with op.left op.backtrack kept;
  removed = op.removed + gone;
}

-- the page is written, if it is changed
abbrev pub written : Bool → Page → State → State
written changed page st = if changed then after_act (page ∷ []) st else st
