-- What holds of bulk deletes beside their steps.
use Rattle.std.specs.Prelude.{◌≡◌, ℕ, ◌<◌, ◌≤◌, Bool, false, Option}
use Rattle.index_model.specs.Actions.{Effect}
use Rattle.index_model.specs.Row.{Row}
use Rattle.index_model.specs.declared.entry.Entry.{Entry}
use Rattle.page_action.specs.States.{State}
use Rattle.tree_acts.specs.Leaves.{LeafPagesStay, IsAddedBy}
use Rattle.tree_acts.specs.StepEffects.{IsInOrder, MayRely}
use Rattle.vacuum.specs.BulkDeletes.{BulkDeleteInvariant}
use Rattle.vacuum.specs.Counts.{IsCounted}
use Rattle.vacuum.specs.Ops.{fresh_bulk_delete}
use Rattle.vacuum.specs.Vacuuming.{DueIsToCome}
use Rattle.vacuum.specs.Work.{bulk_delete_left}
use Rattle.vacuum.specs.declared.steps.Backtrack.{Backtrack}
use Rattle.vacuum.specs.declared.steps.BulkDeleteOp.{BulkDeleteOp}

-- what a bulk delete knows it still knows after others have acted
abbrev pub BulkDeletesAreUndisturbed : Type 0
BulkDeletesAreUndisturbed =
    (old new : State) (op : BulkDeleteOp) → MayRely op.session old new → BulkDeleteInvariant old op
    → BulkDeleteInvariant new op

-- what is due is to come still after others have acted, except for an entry that they have added
abbrev pub DueIsUndisturbed : Type 0
DueIsUndisturbed =
    (due : Entry → Bool) (effect : Option Effect) (old new : State) (cursor : ℕ)
    (backtrack : Option Backtrack)
    → LeafPagesStay effect old new → ((e : Entry) → IsAddedBy effect e → due e ≡ false)
    → DueIsToCome due old cursor backtrack → DueIsToCome due new cursor backtrack

-- before the first step each entry is to come
abbrev pub AllIsToCome : Type 0
AllIsToCome =
    (due : Entry → Bool) (st : State) (session : ℕ) → IsInOrder st
    → DueIsToCome due st (fresh_bulk_delete session).cursor (fresh_bulk_delete session).backtrack

-- ... and nothing is counted
abbrev pub NothingIsCounted : Type 0
NothingIsCounted =
    (dead : Row → Bool) (st : State) (session : ℕ) → IsInOrder st
    → IsCounted dead st (fresh_bulk_delete session)

-- what is left to do for a bulk delete has a bound at each moment, within the limits
abbrev pub BulkDeletesAreBounded : Type 0
BulkDeletesAreBounded =
    (most used : ℕ) (op : BulkDeleteOp) → most ≤ 65536 → used ≤ 65536
    → bulk_delete_left most used op.cursor op.backtrack < 4398046511104
