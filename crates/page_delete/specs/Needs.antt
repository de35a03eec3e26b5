-- What a step of a cleanup needs, by what it finds.
use Rattle.std.specs.Prelude.{ℕ, false, Option, Some, None, List, [], ◌∷◌, ◌++◌, slice_get}
use Rattle.index_model.specs.Faults.{Circumstances}
use Rattle.page_codec.specs.declared.page.Page.{Page}
use Rattle.page_codec.specs.declared.page.PageState.{PageState}
use Rattle.page_codec.specs.declared.page.PageState.TheVariants.{Live, HalfDead, Deleted}
use Rattle.page_action.specs.States.{State, Backing}
use Rattle.tree_acts.specs.StepEffects.{sibling, frames_for, causes_of_working}
use Rattle.page_delete.specs.declared.steps.CleanupAt.{CleanupAt}
use Rattle.page_delete.specs.declared.steps.CleanupAt.TheVariants.{Look, Start, Down, Judge, Unlink}

-- the blocks that are written when a half-dead page of this block is unlinked from these siblings: its own
-- and theirs
abbrev pub blocks_unlinked : PageState → ℕ → Option ℕ → Option ℕ → List ℕ
blocks_unlinked Live block left right = []
blocks_unlinked HalfDead block left right = sibling left ++ block ∷ sibling right
blocks_unlinked Deleted block left right = []

abbrev pub blocks_unlinked_of : ℕ → Option Page → List ℕ
blocks_unlinked_of block None = []
blocks_unlinked_of block (Some page) = blocks_unlinked page.state block page.left page.right

abbrev pub blocks_unlinked_at : ℕ → State → List ℕ
blocks_unlinked_at block st = blocks_unlinked_of block (slice_get st.pages block)

-- the blocks that are written when a leaf is made half-dead: its own and its parent's
abbrev pub blocks_judged : ℕ → ℕ → State → List ℕ
blocks_judged leaf parent st = leaf ∷ parent ∷ []

-- the blocks that a step writes that stands there, at most
abbrev pub blocks_written : CleanupAt → ℕ → State → List ℕ
blocks_written Look cursor st = []
blocks_written (Start high) cursor st = []
blocks_written (Down high position) cursor st = []
blocks_written (Judge high parent) cursor st = blocks_judged cursor parent st
blocks_written Unlink cursor st = blocks_unlinked_at cursor st

-- why a step is refused that writes these blocks at most
abbrev pub causes_of_trying : State → Backing → Backing → ℕ → List ℕ → Circumstances
causes_of_trying st old new session written =
    causes_of_working st old new session written (frames_for written) false false
