-- What a bulk delete has removed since it began, and what it is to remove still.
use Rattle.std.specs.Prelude.{◌≡◌, ℕ, Bool, true, Option, Some, None, List, drop, length, ◌<◌}
use Rattle.index_model.specs.Actions.{Action, is_there_after}
use Rattle.index_model.specs.Calls.{removed_by, IsAddedIn}
use Rattle.index_model.specs.Row.{Row}
use Rattle.index_model.specs.declared.entry.Entry.{Entry}
use Rattle.page_action.specs.States.{State}
use Rattle.vacuum.specs.Vacuuming.{DueIsToCome}
use Rattle.vacuum.specs.declared.steps.BulkDeleteOp.{BulkDeleteOp}
use Rattle.session_calls.specs.Ops.{set_at}
use Rattle.session_calls.specs.TheoremCalls.{DeadSets}
use Rattle.session_calls.specs.Ops.{runs_bulk_delete}
use Rattle.session_calls.specs.declared.op.Op.{Op}
use Rattle.session_calls.specs.declared.op.Op.TheVariants.{Insert, Scan, Bulk, Cleanup}

-- an entry is due to be removed: its row is in the set, it was there when the call began, and no action since
-- then adds it
pub record IsDue (dead : Row → Bool) (start : Entry → Bool) (history : List Action) (began : ℕ) (e : Entry) : Type 0 where
  pub row : dead e.row ≡ true
  pub was_there : is_there_after start history began e ≡ true
  pub not_added : IsAddedIn (drop began history) e → ⊥

-- A bulk delete that runs as the call of this number: the store has its cycle number; whatever is due is to
-- come still; and what it has counted as removed are the entries of its Removes.
pub record IsBulkDeleteSoFar (st : State) (dead : Row → Bool) (start : Entry → Bool) (history : List Action) (number began : ℕ) (op : BulkDeleteOp) : Type 0 where
  pub runs : runs_bulk_delete st ≡ true
  pub to_come : (due : Entry → Bool) → ((e : Entry) → due e ≡ true → IsDue dead start history began e) → DueIsToCome due st op.cursor op.backtrack
  pub removed : op.removed ≡ removed_by number (drop began history)

-- what a running call has to remove still, and what it has removed
abbrev pub OpDeletions : State → DeadSets → (Entry → Bool) → List Action → ℕ → ℕ → Op → Type 0
OpDeletions st sets start history number began (Insert op) = Unit {0}
OpDeletions st sets start history number began (Scan op) = Unit {0}
OpDeletions st sets start history number began (Cleanup op) = Unit {0}
OpDeletions st sets start history number began (Bulk set op) = (set < length sets) × IsBulkDeleteSoFar st (set_at sets set) start history number began op

-- ... of what a session runs, if anything
abbrev pub SlotDeletions : State → DeadSets → (Entry → Bool) → List Action → ℕ → ℕ → Option Op → Type 0
SlotDeletions st sets start history number began None = Unit {0}
SlotDeletions st sets start history number began (Some op) = OpDeletions st sets start history number began op
