-- Which empty leaves a cleanup leaves in the tree, if nobody else acts.
use Rattle.std.specs.Prelude.{◌≡◌, ◌≢◌, ℕ, ◌<◌, Some, Result, Ok, Err, [], length, slice_get}
use Rattle.index_model.specs.declared.bound.Bound.{Bound}
use Rattle.index_model.specs.declared.fault.Fault.{Fault}
use Rattle.latch_table.specs.Holdings.{holding_of, nothing_held}
use Rattle.page_codec.specs.declared.page.Page.{Page}
use Rattle.page_codec.specs.declared.page.PageState.TheVariants.{Live, HalfDead}
use Rattle.page_action.specs.States.{State}
use Rattle.tree_shape.specs.Deletion.{MayDie}
use Rattle.tree_shape.specs.Edits.{IsHalfDeath, IsUnlink}
use Rattle.tree_shape.specs.Nodes.{nodes_of}
use Rattle.tree_shape.specs.Staying.{MustStay}
use Rattle.tree_shape.specs.Walks.{bound_aim}
use Rattle.tree_acts.specs.Deletions.{state_in}
use Rattle.tree_acts.specs.Trees.{HasCover}
use Rattle.page_delete.specs.declared.steps.CleanupAt.{CleanupAt}
use Rattle.page_delete.specs.declared.steps.CleanupAt.TheVariants.{Look, Start, Down, Judge, Unlink}
use Rattle.page_delete.specs.declared.steps.CleanupOp.{CleanupOp}
use Rattle.page_delete.specs.declared.steps.CleanupStep.{CleanupStep}
use Rattle.page_delete.specs.declared.steps.CleanupStep.TheVariants.{Going, Finished}

-- no other session holds a latch or a pin
abbrev pub IsAlone : State → ℕ → Type 0
IsAlone st session = (other : ℕ) → other ≢ session → holding_of st.table other ≡ nothing_held

-- the page of the block is a live leaf without entries
pub record IsEmptyLeaf (st : State) (block : ℕ) : Type 0 where
  pub above : 0 < block
  pub inside : block < length st.pages
  pub alive : (nodes_of st.pages block).state ≡ Live
  pub leaf : (nodes_of st.pages block).level ≡ 0
  pub empty : (nodes_of st.pages block).entries ≡ []

-- it is the rightmost leaf, has an incomplete split, stands right after a page with one, or is the last child
-- of its parent
abbrev pub HasToStay : State → ℕ → Type 0
HasToStay st block = MustStay (nodes_of st.pages) (length st.pages) block

-- an empty leaf with this high key that may leave the tree, by what its own page says
pub record MayGo (st : State) (block : ℕ) (high : Bound) : Type 0 where
  pub leaf : Page
  pub found : slice_get st.pages block ≡ Some leaf
  pub may_die : MayDie leaf
  pub high_is : leaf.high ≡ Some high

-- ... whose high key this page of the level above covers
pub record MayGoFrom (st : State) (block parent : ℕ) : Type 0 where
  pub high : Bound
  pub leaf : MayGo st block high
  pub above : HasCover st 1 (bound_aim high) parent

-- what a cleanup knows of the page at the cursor
abbrev pub IsSought : State → ℕ → CleanupAt → Type 0
IsSought st cursor Look = Unit {0}
IsSought st cursor (Start high) = MayGo st cursor high
IsSought st cursor (Down high position) = MayGo st cursor high
IsSought st cursor (Judge high parent) = MayGoFrom st cursor parent
IsSought st cursor Unlink = state_in st cursor ≡ HalfDead

-- If nobody else acted since it began, and no page was half-dead then: no page is, but one at the cursor
-- that is to be unlinked next, and each empty leaf before the cursor has to stay.
pub record IsSparing (st : State) (op : CleanupOp) : Type 0 where
  pub none_dead : (block : ℕ) → state_in st block ≡ HalfDead
      → (block ≡ op.cursor) × (op.at ≡ Unlink)
  pub sought : IsSought st op.cursor op.at
  pub stays : (block : ℕ) → block < op.cursor → IsEmptyLeaf st block → HasToStay st block

-- each empty leaf has to stay
abbrev pub OnlyNeededStay : State → Type 0
OnlyNeededStay st = (block : ℕ) → IsEmptyLeaf st block → HasToStay st block

-- it stays so, and at the end each empty leaf has to stay
abbrev pub SparesOn : State → CleanupOp → Result CleanupStep Fault → Type 0
SparesOn new after (Ok Going) = IsSparing new after
SparesOn new after (Ok (Finished stats)) = OnlyNeededStay new
SparesOn new after (Err fault) = IsSparing new after

-- the pages changed by one of the two acts of a page deletion
pub data EditsALeaf (old new : State) : Type 0 where
  dies : (leaf parent : ℕ) → 0 < leaf → leaf < length old.pages
      → IsHalfDeath (nodes_of old.pages) (nodes_of new.pages) leaf parent → EditsALeaf old new
  goes : (leaf : ℕ) → 0 < leaf → leaf < length old.pages
      → IsUnlink (nodes_of old.pages) (nodes_of new.pages) leaf → EditsALeaf old new
