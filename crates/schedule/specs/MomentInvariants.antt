-- What keeps the theorem: what is known of a moment between its events. It needs no reading, because a world
-- begins with it and each event keeps it.
use Rattle.std.specs.Prelude.{◌≡◌, ℕ, Bool, true, false, Option, Some, None, List, slice_get}
use Rattle.std.specs.List.{list_any}
use Rattle.index_model.specs.Calls.{Call}
use Rattle.index_model.specs.declared.entry.Entry.{Entry}
use Rattle.page_action.specs.States.{State}
use Rattle.page_action.specs.declared.page_store.PageStore.{Ghosts}
use Rattle.tree_acts.specs.Deletions.{StartsAreBelow}
use Rattle.tree_acts.specs.StepEffects.{IsInOrder}
use Rattle.session_calls.specs.TheoremCalls.{DeadSets}
use Rattle.session_calls.specs.Ops.{is_bulk_delete, runs_bulk_delete}
use Rattle.session_calls.specs.Sessions.{OpRuns, IsIdle}
use Rattle.session_calls.specs.Slots.{slot_of, slot_vacuums}
use Rattle.session_calls.specs.BulkDeletions.{OpDeletions}
use Rattle.session_calls.specs.declared.op.Op.{Op}
use Rattle.schedule.specs.TheoremMoments.{StoreAndSlots, Moment, RunsOne, IsRunningCall}

-- this store with these slots and sets
abbrev pub here_with : {S : Type 0} → S → List (Option Op) → DeadSets → StoreAndSlots S
here_with store slots sets = record { store = store; slots = slots; sets = sets }

-- the store of a moment with its slots and sets
abbrev pub here_at : {S : Type 0} → Moment S → StoreAndSlots S
here_at now = record { store = now.store; slots = now.slots; sets = now.sets }

-- what the session runs is its one running call; what it was asked is told with the sets, and so is what a
-- bulk delete has to remove still
pub record SlotRuns {S : Type 0} (g : Ghosts S) (start : Entry → Bool) (now : Moment S) (session : ℕ) (op : Op) : Type 0 where
  pub number : ℕ
  pub call : Call
  pub is : IsRunningCall now.calls session number call
  pub only : (other : ℕ) (c : Call) → IsRunningCall now.calls session other c → other ≡ number
  pub runs : OpRuns (g.state now.store) now.sets start now.history call op
  pub deletions : OpDeletions (g.state now.store) now.sets start now.history number call.began op

-- the session has no running call; it holds nothing, and has no start number
pub record IsFreeSession {S : Type 0} (g : Ghosts S) (now : Moment S) (session : ℕ) : Type 0 where
  pub none : (number : ℕ) (call : Call) → IsRunningCall now.calls session number call → ⊥
  pub idle : IsIdle (g.state now.store) session

-- the slot of a session is empty if the session is free, and else has what its running call runs
abbrev pub SlotMatches : {S : Type 0} → Ghosts S → (Entry → Bool) → Moment S → ℕ → Option Op → Type 0
SlotMatches g start now session None = IsFreeSession g now session
SlotMatches g start now session (Some op) = SlotRuns g start now session op

-- what a session runs is a bulk delete
abbrev pub slot_is_bulk_delete : Option Op → Bool
slot_is_bulk_delete None = false
slot_is_bulk_delete (Some op) = is_bulk_delete op

-- some session runs a bulk delete
abbrev pub one_is_bulk_delete : List (Option Op) → Bool
one_is_bulk_delete slots = list_any slot_is_bulk_delete slots

-- one session at most runs a bulk delete or a cleanup, and the store has a cycle number exactly while one
-- runs a bulk delete
pub record OneVacuums (st : State) (slots : List (Option Op)) : Type 0 where
  pub alone : (session other : ℕ) → slot_vacuums (slot_of slots session) ≡ true → slot_vacuums (slot_of slots other) ≡ true → session ≡ other
  pub cycle : runs_bulk_delete st ≡ one_is_bulk_delete slots

-- what is known between events: pages and holdings are in order, and each running call's start number is
-- below the count of calls begun; each session's running call knows what it needs of the pages, and what it
-- is to remove still; a session without one holds nothing, and has no start number; and which session runs a
-- bulk delete or a cleanup, if one does
pub record Invariant {S : Type 0} (g : Ghosts S) (start : Entry → Bool) (now : Moment S) : Type 0 where
  pub order : IsInOrder (g.state now.store)
  pub starts : StartsAreBelow (g.state now.store)
  pub runs : (session number : ℕ) (call : Call) (op : Op) → slice_get now.slots session ≡ Some (Some op) → IsRunningCall now.calls session number call
      → OpRuns (g.state now.store) now.sets start now.history call op × OpDeletions (g.state now.store) now.sets start now.history number call.began op
  pub idle : (session : ℕ) → (RunsOne now.slots session → ⊥) → IsIdle (g.state now.store) session
  pub vacuums : OneVacuums (g.state now.store) now.slots

-- pages in order, no act since opening, no cycle number, and no session that holds anything or has a start
-- number
pub record IsUnused (st : State) : Type 0 where
  pub order : IsInOrder st
  pub acts : st.acts ≡ 0
  pub cycle : st.cycle ≡ 0
  pub idle : (session : ℕ) → IsIdle st session
