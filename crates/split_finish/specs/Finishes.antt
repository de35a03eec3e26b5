-- What a step does by which splits are finished.
use Rattle.std.specs.Prelude.{◌≡◌, ◌⊎◌, ℕ, suc, ◌*◌, ◌<◌, ◌≤◌, ◌&&◌, ◌==◌, nat_lt, nat_le, if◌then◌else◌, Bool, true, false, Option, Some, None, Result, Ok, Err, OnErr, List, [], ◌∷◌, ◌++◌, length, slice_get}
use Rattle.index_model.specs.Actions.{Effect, Shape}
use Rattle.index_model.specs.Faults.{Circumstances, HasCause}
use Rattle.index_model.specs.declared.fault.Fault.{Fault}
use Rattle.index_model.specs.declared.fault.Fault.TheVariants.{Stopped}
use Rattle.page_codec.specs.declared.page.Page.{Page}
use Rattle.page_action.specs.States.{State, Backing, Continues}
use Rattle.page_action.specs.declared.page_store.PageStore.{Ghosts}
use Rattle.tree_shape.specs.Nodes.{links_of, nodes_of}
use Rattle.tree_acts.specs.StepEffects.{IsInOrder, StepEffect, IsOneActAtMost, is_incomplete, fresh_block, sibling, frames_for, causes_of_working}
use Rattle.tree_acts.specs.Levels.{root_level}
use Rattle.descent.specs.declared.position.Position.{Position}
use Rattle.descent.specs.NextPage.{walk_length}
use Rattle.split_finish.specs.Targets.{targets_of, OnlyTargetsAreIncomplete, FinishInvariant, is_as_read, is_ready, finish_left}
use Rattle.split_finish.specs.Turns.{splits_root_of}
use Rattle.split_finish.specs.declared.finish.FinishAt.{FinishAt}
use Rattle.split_finish.specs.declared.finish.FinishAt.TheVariants.{Start, Down, Link, Root}
use Rattle.split_finish.specs.declared.finish.FinishOp.{FinishOp}
use Rattle.split_finish.specs.declared.finish.FinishStep.{FinishStep}
use Rattle.split_finish.specs.declared.finish.FinishStep.TheVariants.{Going, Done}
use Rattle.split_finish.specs.declared.finish.Target.{Target}

-- a step has no effect, or one on the shape of the pages
abbrev pub OnlyShapes : Option Effect → Type 0
OnlyShapes effect = (effect ≡ None) ⊎ (effect ≡ Some Shape)

-- a step that goes on: if only targets had incomplete splits, only targets have them still
pub record FinishContinues (old new : State) (before after : FinishOp) : Type 0 where
  pub effect : Option Effect
  pub shapes : OnlyShapes effect
  pub does : StepEffect before.session effect old new
  pub table : new.table ≡ old.table
  pub fits : FinishInvariant new after
  pub flags : OnlyTargetsAreIncomplete old (targets_of before)
      → OnlyTargetsAreIncomplete new (targets_of after)

-- the last step: no target is left
pub record FinishIsDone (old new : State) (before : FinishOp) : Type 0 where
  pub effect : Option Effect
  pub shapes : OnlyShapes effect
  pub does : StepEffect before.session effect old new
  pub table : new.table ≡ old.table
  pub flags : OnlyTargetsAreIncomplete old (targets_of before)
      → (block : ℕ) → is_incomplete new block ≡ false

-- the page has no room for one more downlink
abbrev pub is_full_parent : ℕ → Option Page → Bool
is_full_parent items None = false
is_full_parent items (Some page) = nat_le items (length (links_of page.items))

-- the blocks that are written when the target's downlink is put on this page: that of the page, and of the
-- target, whose split is finished; if it is full, of its right half and its right sibling too
abbrev pub blocks_linked : State → Target → ℕ → Option Page → List ℕ
blocks_linked st target parent None = parent ∷ target.block ∷ []
blocks_linked st target parent (Some page) = if nat_le st.format.items (length (links_of page.items))
    then parent ∷ fresh_block st ∷ sibling page.right ++ target.block ∷ []
    else parent ∷ target.block ∷ []

-- a step puts the target's downlink on the page of this way: the target is as its page says, and the page is
-- ready for it
abbrev pub is_to_link : State → Target → Position → Bool
is_to_link st target position = is_as_read (nodes_of st.pages) target
    && is_ready (nodes_of st.pages position.block) (suc target.level) target.separator

-- a step makes a new root over the target: that is as its page says, and on the root's level still, below the
-- highest
abbrev pub is_to_grow : State → Target → Bool
is_to_grow st target = is_as_read (nodes_of st.pages) target
    && (root_level st.pages == target.level) && nat_lt target.level 31

-- the blocks that the act of a step writes, that stands there with this newest target
abbrev pub finish_blocks : State → Target → FinishAt → List ℕ
finish_blocks st target Start = []
finish_blocks st target (Down position) = []
finish_blocks st target (Link position) = if is_to_link st target position
    then blocks_linked st target position.block (slice_get st.pages position.block) else []
finish_blocks st target Root =
    if is_to_grow st target then fresh_block st ∷ 0 ∷ target.block ∷ [] else []

-- ... and how many frames it needs
abbrev pub frames_of : State → Target → FinishAt → ℕ
frames_of st target at = frames_for (finish_blocks st target at)

-- ... and whether it takes a block: to split a full parent, or the root
abbrev pub takes_block_of : State → Target → FinishAt → Bool
takes_block_of st target Start = false
takes_block_of st target (Down position) = false
takes_block_of st target (Link position) = is_to_link st target position
    && is_full_parent st.format.items (slice_get st.pages position.block)
takes_block_of st target Root = is_to_grow st target

-- why a step is refused of a call that stands there with this newest target, on pages that are a tree and a
-- device that keeps its model
abbrev pub causes_of_finishing : State → Backing → Backing → ℕ → Target → FinishAt → Circumstances
causes_of_finishing st old new session target at =
    causes_of_working st old new session (finish_blocks st target at) (frames_of st target at)
    (takes_block_of st target at) (splits_root_of st target at)

-- what a step does, by what it answers
abbrev pub FinishStepped : State → Backing → State → Backing → FinishOp → FinishOp
    → Result FinishStep Fault → Type 0
FinishStepped old old_backing new new_backing before after (Ok Going) =
    FinishContinues old new before after
FinishStepped old old_backing new new_backing before after (Ok Done) = FinishIsDone old new before
FinishStepped old old_backing new new_backing before after (Err fault) =
    HasCause (causes_of_finishing old old_backing new_backing before.session before.target before.at)
    fault

-- a refused step changes neither the pages, nor who holds what, nor the call
pub record FinishStays (old new : State) (before after : FinishOp) : Type 0 where
  pub state : new ≡ old
  pub op : after ≡ before

-- A step by which splits are finished. On any pages: it does one act at most and holds nothing after it, a
-- refused one changes nothing, and a stopped log refuses it. On any pages, over a device that keeps its
-- model: one that goes on without an act leaves less to do. On pages in order: what it does, and why it is
-- refused.
pub record FinishSteps {S : Type 0} (g : Ghosts S) (before after : FinishOp) (old new : S)
    (result : Result FinishStep Fault) : Type 0 where
  pub steps : Continues g.follows old new
  pub session : after.session ≡ before.session
  pub kept : IsOneActAtMost (g.state old) (g.state new)
  pub table : (g.state new).table ≡ (g.state old).table
  pub refused : OnErr result (FinishStays (g.state old) (g.state new) before after)
  pub stopped : (g.backing old).stopped ≡ true → result ≡ Err Stopped
  pub less : (g.backing new).honest ≡ true → result ≡ Ok Going
      → (g.state new).acts ≡ (g.state old).acts
      → finish_left (g.state new).format.pages (g.state new).pages after
      < finish_left (g.state old).format.pages (g.state old).pages before
  -- one that is done without an act found that its last target needn't be finished
  pub over : (g.backing new).honest ≡ true → result ≡ Ok Done
      → (g.state new).acts ≡ (g.state old).acts
      → 34 * suc (walk_length (g.state old).format.pages)
      ≤ finish_left (g.state old).format.pages (g.state old).pages before
  pub stepped : (g.backing new).honest ≡ true → IsInOrder (g.state old)
      → FinishInvariant (g.state old) before
      → FinishStepped (g.state old) (g.backing old) (g.state new) (g.backing new) before after result
