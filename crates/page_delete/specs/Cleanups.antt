-- What a cleanup knows between its steps, and what a step of it does.
use Rattle.std.specs.Prelude.{◌≡◌, ℕ, ◌<◌, ◌≤◌, ◌||◌, true, false, Option, Some, Result, Ok, Err, OnErr, length, slice_get}
use Rattle.index_model.specs.Actions.{Effect}
use Rattle.index_model.specs.Faults.{Circumstances, HasCause}
use Rattle.index_model.specs.declared.bound.Bound.{Bound}
use Rattle.index_model.specs.declared.fault.Fault.{Fault}
use Rattle.index_model.specs.declared.fault.Fault.TheVariants.{Stopped}
use Rattle.latch_table.specs.Holdings.{holding_of, nothing_held}
use Rattle.page_action.specs.Causes.{is_at_end}
use Rattle.page_action.specs.States.{State, Backing, Continues}
use Rattle.page_action.specs.declared.page_store.PageStore.{Ghosts}
use Rattle.tree_shape.specs.Walks.{bound_aim}
use Rattle.tree_acts.specs.Deletions.{StartsAreBelow}
use Rattle.tree_acts.specs.Trees.{LeadsTo, HasTrail}
use Rattle.descent.specs.NextPage.{IsOnDescent}
use Rattle.tree_acts.specs.StepEffects.{IsInOrder, CleanupEffect, IsOneActAtMost}
use Rattle.page_delete.specs.Counts.{IsCleaned, CleansOn, CountsDeleted}
use Rattle.page_delete.specs.Needs.{blocks_written, causes_of_trying}
use Rattle.page_delete.specs.Ops.{cleanup_counted_out, cleanup_stats}
use Rattle.page_delete.specs.Parts.{PinnedLeafPagesStay}
use Rattle.page_delete.specs.Spares.{IsAlone, IsSparing, SparesOn}
use Rattle.page_delete.specs.Turns.{TurnsFrom}
use Rattle.page_delete.specs.Work.{cleanup_left}
use Rattle.page_delete.specs.declared.steps.CleanupAt.{CleanupAt}
use Rattle.page_delete.specs.declared.steps.CleanupAt.TheVariants.{Look, Start, Down, Judge, Unlink}
use Rattle.page_delete.specs.declared.steps.CleanupOp.{CleanupOp}
use Rattle.page_delete.specs.declared.steps.CleanupStep.{CleanupStep}
use Rattle.page_delete.specs.declared.steps.CleanupStep.TheVariants.{Going, Finished}

-- The leaf at the cursor is on the chain of leaves, or was deleted since. Its parent is looked for on the way
-- to its high key. Or it may be this page of the level above, from which right links lead to the one that
-- covers the high key.
abbrev pub CleanupIsUnderway : State → ℕ → ℕ → CleanupAt → Type 0
CleanupIsUnderway st start cursor Look = Unit {0}
CleanupIsUnderway st start cursor (Start high) = HasTrail st start 0 cursor 0
CleanupIsUnderway st start cursor (Down high position) =
    HasTrail st start 0 cursor 0 × IsOnDescent st start (bound_aim high) false 1 position
CleanupIsUnderway st start cursor (Judge high parent) =
    HasTrail st start 0 cursor 0 × LeadsTo st start 1 (bound_aim high) false parent
CleanupIsUnderway st start cursor Unlink = HasTrail st start 0 cursor 0

-- it tests the leaf, and this page, which may be its parent
pub record IsJudging (at : CleanupAt) (parent : ℕ) : Type 0 where
  pub high : Bound
  pub is : at ≡ Judge high parent

-- what a cleanup knows between its steps
pub record CleanupInvariant (st : State) (op : CleanupOp) : Type 0 where
  pub session : op.session < 64
  -- its call runs, with a start number
  pub start : ℕ
  pub running : slice_get st.running op.session ≡ Some (Some start)
  pub held : holding_of st.table op.session ≡ nothing_held
  pub at : CleanupIsUnderway st start op.cursor op.at

-- why a step of a cleanup is refused, on pages that are a tree and a device that keeps its model
abbrev pub causes_of_cleaning : State → Backing → Backing → CleanupOp → Circumstances
causes_of_cleaning st old new op = record (causes_of_trying st old new op.session
    (blocks_written op.at op.cursor st)) {
      is_stopped = old.stopped || (is_at_end st.acts || cleanup_counted_out op);
    }

-- a step is made, with one act at most, which is of one leaf on its way out of the tree
pub record CleanupContinues (old new : State) (before after : CleanupOp) : Type 0 where
  pub effect : Option Effect
  pub does : CleanupEffect before.session effect old new
  pub turns : TurnsFrom before.at old before effect after
  pub fits : CleanupInvariant new after

-- each block in use was looked at
pub record CleanupEnds (old new : State) (before after : CleanupOp) : Type 0 where
  pub state : new ≡ old
  pub op : after ≡ before
  pub at : before.at ≡ Look
  pub last : length old.pages ≤ before.cursor

-- what a step of a cleanup does, by what it answers
abbrev pub CleanupStepped : State → Backing → State → Backing → CleanupOp → CleanupOp
    → Result CleanupStep Fault → Type 0
CleanupStepped old old_backing new new_backing before after (Ok Going) =
    CleanupContinues old new before after
CleanupStepped old old_backing new new_backing before after (Ok (Finished stats)) =
    CleanupEnds old new before after
CleanupStepped old old_backing new new_backing before after (Err fault) =
    HasCause (causes_of_cleaning old old_backing new_backing before) fault

-- a refused step changes neither the pages, nor who holds what, nor the call
pub record CleanupStays (old new : State) (before after : CleanupOp) : Type 0 where
  pub state : new ≡ old
  pub op : after ≡ before

-- the statistics are those of the call and of the pages
abbrev pub CleanupStatsAreRight : State → CleanupOp → Result CleanupStep Fault → Type 0
CleanupStatsAreRight st op (Ok Going) = Unit {0}
CleanupStatsAreRight st op (Ok (Finished stats)) = stats ≡ cleanup_stats st op
CleanupStatsAreRight st op (Err fault) = Unit {0}

-- each step that goes on leaves less to do
abbrev pub CleanupHasLessLeft : State → State → CleanupOp → CleanupOp → Result CleanupStep Fault
    → Type 0
CleanupHasLessLeft old new before after (Ok Going) =
    cleanup_left new.format.pages (length new.pages) after.cursor after.at
    < cleanup_left old.format.pages (length old.pages) before.cursor before.at
CleanupHasLessLeft old new before after (Ok (Finished stats)) = Unit {0}
CleanupHasLessLeft old new before after (Err fault) = Unit {0}

-- A step of a cleanup. On any pages: it does one act at most and holds nothing after it; a refused one
-- changes nothing; a stopped log refuses it; each that goes on leaves less to do; the statistics are right.
-- Over a device that keeps its model: live leaves that others have pinned stay; it counts the pages that it
-- deletes; if nobody else acts, it counts the entries, and leaves no half-dead page that it has passed. On
-- pages in order: what it does, where it goes on, why it is refused, and, if nobody else holds a page, which
-- empty leaves stay.
pub record CleanupSteps {S : Type 0} (g : Ghosts S) (before after : CleanupOp) (old new : S)
    (result : Result CleanupStep Fault) : Type 0 where
  pub steps : Continues g.follows old new
  pub session : after.session ≡ before.session
  pub kept : IsOneActAtMost (g.state old) (g.state new)
  pub table : (g.state new).table ≡ (g.state old).table
  pub cycle : (g.state new).cycle ≡ (g.state old).cycle
  pub refused : OnErr result (CleanupStays (g.state old) (g.state new) before after)
  pub stopped : (g.backing old).stopped ≡ true → result ≡ Err Stopped
  pub stats : CleanupStatsAreRight (g.state old) before result
  pub less : CleanupHasLessLeft (g.state old) (g.state new) before after result
  pub pins : (g.backing new).honest ≡ true
      → PinnedLeafPagesStay before.session (g.state old) (g.state new)
  pub deletes : (g.backing new).honest ≡ true
      → CountsDeleted (g.state old) (g.state new) before after result
  pub counts : (g.backing new).honest ≡ true → CleanupInvariant (g.state old) before
      → IsCleaned (g.state old) before → CleansOn (g.state new) after result
  pub stepped : (g.backing new).honest ≡ true → IsInOrder (g.state old)
      → StartsAreBelow (g.state old) → CleanupInvariant (g.state old) before
      → CleanupStepped (g.state old) (g.backing old) (g.state new) (g.backing new) before after
      result
  pub spares : (g.backing new).honest ≡ true → IsInOrder (g.state old)
      → StartsAreBelow (g.state old) → CleanupInvariant (g.state old) before
      → IsAlone (g.state old) before.session → IsSparing (g.state old) before
      → SparesOn (g.state new) after result
