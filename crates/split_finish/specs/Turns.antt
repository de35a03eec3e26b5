-- Turns: what a step does that reads pages and changes nothing but the call itself.
use Rattle.std.specs.Prelude.{◌≡◌, ℕ, suc, ◌*◌, ◌<◌, ◌≤◌, ◌&&◌, ◌==◌, nat_le, Bool, true, false, Option, Some, None, Result, Ok, Err, [], length}
use Rattle.index_model.specs.Faults.{Circumstances, HasCause}
use Rattle.index_model.specs.declared.bound.Bound.{Bound}
use Rattle.index_model.specs.declared.fault.Fault.{Fault}
use Rattle.page_codec.specs.declared.page.Items.TheVariants.{Meta}
use Rattle.page_codec.specs.declared.page.Page.{Page}
use Rattle.page_action.specs.Causes.{nothing_wrong}
use Rattle.page_action.specs.States.{State}
use Rattle.tree_shape.specs.Nodes.{node_of}
use Rattle.tree_acts.specs.Trees.{HasTree}
use Rattle.tree_acts.specs.StepEffects.{is_incomplete}
use Rattle.tree_acts.specs.Levels.{root_level}
use Rattle.descent.specs.NextPage.{walk_length}
use Rattle.split_finish.specs.Targets.{targets_of, OnlyTargetsAreIncomplete, FinishInvariant, finish_left, is_ready}
use Rattle.split_finish.specs.declared.finish.FinishAt.{FinishAt}
use Rattle.split_finish.specs.declared.finish.FinishAt.TheVariants.{Start, Down, Link, Root}
use Rattle.split_finish.specs.declared.finish.FinishOp.{FinishOp}
use Rattle.split_finish.specs.declared.finish.FinishStep.{FinishStep}
use Rattle.split_finish.specs.declared.finish.FinishStep.TheVariants.{Going, Done}
use Rattle.split_finish.specs.declared.finish.Target.{Target}

-- the newest target is gone, and the one below it is the newest
pub record IsBackAt (before after : FinishOp) : Type 0 where
  pub list_is : before.below.items ≡ targets_of after
  pub at_is : after.at ≡ Start
  pub session : after.session ≡ before.session
  pub few : length before.below.items ≤ 31

-- ... if there is one
abbrev pub Popped : FinishOp → FinishOp → FinishStep → Type 0
Popped before after Going = IsBackAt before after
Popped before after Done = (before.below.items ≡ []) × (after ≡ before)

-- there is a newer target
pub record Pushed (target : Target) (before after : FinishOp) : Type 0 where
  pub target_is : after.target ≡ target
  pub below_is : after.below.items ≡ targets_of before
  pub at_is : after.at ≡ Start
  pub session : after.session ≡ before.session

-- the newest target has another separator
pub record Retaken (separator : Bound) (at : FinishAt) (before after : FinishOp) : Type 0 where
  pub target_is : after.target ≡ record before.target { separator = separator }
  pub below_is : after.below ≡ before.below
  pub at_is : after.at ≡ at
  pub session : after.session ≡ before.session

-- a turn that goes on: less is left to do, the call stands where it may, and only targets have incomplete
-- splits
pub record TurnContinues (st : State) (before after : FinishOp) : Type 0 where
  pub less : finish_left st.format.pages st.pages after < finish_left st.format.pages st.pages before
  pub fits : HasTree st → FinishInvariant st before → FinishInvariant st after
  pub flags : OnlyTargetsAreIncomplete st (targets_of before) → OnlyTargetsAreIncomplete st (targets_of after)

-- the last turn: the only target needn't be finished, so as much was left to do as before the first step for
-- it; if only targets had incomplete splits, no page has one
pub record TurnIsOver (st : State) (before : FinishOp) : Type 0 where
  pub over : 34 * suc (walk_length st.format.pages) ≤ finish_left st.format.pages st.pages before
  pub flags : OnlyTargetsAreIncomplete st (targets_of before) → (block : ℕ) → is_incomplete st block ≡ false

-- whether a step that stands there with this newest target is to split the root: the target has an incomplete
-- split still, and on the root's level
abbrev pub splits_root_of : State → Target → FinishAt → Bool
splits_root_of st target Start = false
splits_root_of st target (Down position) = false
splits_root_of st target (Link position) = false
splits_root_of st target Root =
    is_incomplete st target.block && (root_level st.pages == target.level)

-- why a turn there is refused, in a tree: only a root on the highest level is a reason
abbrev pub causes_of_turned : State → Target → FinishAt → Circumstances
causes_of_turned st target at = record nothing_wrong {
  root_is_at_31 = splits_root_of st target at && nat_le 31 (root_level st.pages);
}

-- what a turn does, by what it answers
abbrev pub Turned : State → FinishOp → FinishOp → Result FinishStep Fault → Type 0
Turned st before after (Ok Going) = TurnContinues st before after
Turned st before after (Ok Done) = TurnIsOver st before
Turned st before after (Err fault) =
    HasTree st → FinishInvariant st before → HasCause (causes_of_turned st before.target before.at) fault

-- ... or it answers that an act is to be done
abbrev pub TurnedOrReady : State → FinishOp → FinishOp → Result (Option FinishStep) Fault → Type 0
TurnedOrReady st before after (Ok None) = Unit {0}
TurnedOrReady st before after (Ok (Some step)) = Turned st before after (Ok step)
TurnedOrReady st before after (Err fault) = Turned st before after (Err fault)

-- the page is the newest target as it was read, and the other one may take the downlink of its right half
pub record IsReadyToLink (page parent : Page) (before after : FinishOp) : Type 0 where
  pub same : after ≡ before
  pub incomplete : page.split ≡ true
  pub high_is : page.high ≡ Some before.target.separator
  pub level_is : page.level ≡ before.target.level
  pub ready : is_ready (node_of parent) (suc before.target.level) before.target.separator ≡ true

-- the page is the newest target as it was read, and the root, below the highest level
pub record IsReadyToGrow (meta page : Page) (before after : FinishOp) : Type 0 where
  pub same : after ≡ before
  pub incomplete : page.split ≡ true
  pub high_is : page.high ≡ Some before.target.separator
  pub level_is : page.level ≡ before.target.level
  pub meta_is : meta.items ≡ Meta
  pub root_level_is : meta.level ≡ before.target.level
  pub root_is : meta.right ≡ Some before.target.block
  pub low_enough : before.target.level < 31
