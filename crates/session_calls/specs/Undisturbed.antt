-- What others do leaves a running call what it stands on.
use Rattle.std.specs.Prelude.{◌≢◌, ℕ, ◌≤◌, Bool, Option, List, ◌++◌, length}
use Rattle.index_model.specs.Actions.{Effect, Action}
use Rattle.index_model.specs.Calls.{Call}
use Rattle.index_model.specs.declared.entry.Entry.{Entry}
use Rattle.page_action.specs.States.{State}
use Rattle.tree_acts.specs.StepEffects.{MayRely}
use Rattle.scan.specs.Laws.{PinnedLeavesLast}
use Rattle.session_calls.specs.TheoremCalls.{DeadSets, acts_of}
use Rattle.tree_acts.specs.Leaves.{LeafPagesStay}
use Rattle.session_calls.specs.Sessions.{OpRuns}
use Rattle.session_calls.specs.BulkDeletions.{OpDeletions}
use Rattle.session_calls.specs.declared.op.Op.{Op}

-- what holds of a running call between its events still holds after others have acted
abbrev pub CallsAreUndisturbed : Type 0
CallsAreUndisturbed =
    (old new : State) (sets : DeadSets) (start : Entry → Bool) (history acts : List Action) (call : Call) (op : Op)
    → MayRely call.session old new → PinnedLeavesLast call.session old new → OpRuns old sets start history call op → OpRuns new sets start (history ++ acts) call op

-- what a running bulk delete is to remove is to come still after others have acted, whose acts leave its
-- leaves
abbrev pub DeletionsAreUndisturbed : Type 0
DeletionsAreUndisturbed =
    (old new : State) (sets : DeadSets) (start : Entry → Bool) (history : List Action) (number other began : ℕ) (effect : Option Effect) (op : Op)
    → LeafPagesStay effect old new → other ≢ number → began ≤ length history → OpDeletions old sets start history number began op
    → OpDeletions new sets start (history ++ acts_of other effect) number began op
