-- What a bulk delete is to remove still: where it stands.
use Rattle.std.specs.Prelude.{◌≡◌, ℕ, suc, ◌<◌, ◌≤◌, Bool, true, Option, Some, None}
use Rattle.index_model.specs.Order.{is_among}
use Rattle.index_model.specs.declared.entry.Entry.{Entry}
use Rattle.page_codec.specs.Edits.{entries_of}
use Rattle.page_codec.specs.declared.page.Page.{Page}
use Rattle.page_action.specs.States.{State}
use Rattle.tree_acts.specs.Leaves.{IsLeafAt, WasLeaf}
use Rattle.vacuum.specs.Ops.{last_read}
use Rattle.vacuum.specs.declared.steps.Backtrack.{Backtrack}

-- the block is the sibling that is read next
abbrev pub IsSibling : Option Backtrack → ℕ → Type 0
IsSibling None block = ⊥
IsSibling (Some backtrack) block = block ≡ backtrack.block

-- A block that the bulk delete comes to: it isn't read yet in block order; it is the sibling that is read
-- next; or it lies below the last leaf read in block order, and a leaf that carries the running cycle number
-- leads to it, to which the bulk delete comes.
pub data BlockIsToCome (st : State) (cursor : ℕ) (backtrack : Option Backtrack) : ℕ → Type 0 where
  ahead : {block : ℕ} → cursor ≤ block → BlockIsToCome st cursor backtrack block
  sibling : {block : ℕ} → IsSibling backtrack block → BlockIsToCome st cursor backtrack block
  led : {from block : ℕ} (page : Page) → IsLeafAt st.pages from page → page.cycle ≡ st.cycle
      → page.right ≡ Some block → block < last_read cursor backtrack
      → BlockIsToCome st cursor backtrack from → BlockIsToCome st cursor backtrack block

-- going back, the leaf from which it went back is there, right before the cursor
abbrev pub WentBackFromLeaf : State → ℕ → Option Backtrack → Type 0
WentBackFromLeaf st cursor None = Unit {0}
WentBackFromLeaf st cursor (Some backtrack) = (suc backtrack.from ≡ cursor) × WasLeaf st.pages backtrack.from

-- each entry that is due to be removed stands on a leaf to which the bulk delete comes
pub record DueIsToCome (due : Entry → Bool) (st : State) (cursor : ℕ) (backtrack : Option Backtrack) : Type 0
  where
    pub from : WentBackFromLeaf st cursor backtrack
    pub to_come : (block : ℕ) (page : Page) (e : Entry) → IsLeafAt st.pages block page
        → is_among (entries_of page.items) e ≡ true → due e ≡ true
        → BlockIsToCome st cursor backtrack block
