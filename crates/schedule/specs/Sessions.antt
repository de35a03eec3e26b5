-- A store with the running calls of its sessions.
use Rattle.std.specs.Prelude.{◌≡◌, ℕ, Option, List, length, map}
use Rattle.index_model.specs.declared.dead_rows.DeadRows.{Ghosts as SetGhosts}
use Rattle.session_calls.specs.Slots.{slot_of}
use Rattle.session_calls.specs.declared.calls.Calls.{Calls}
use Rattle.session_calls.specs.declared.op.Op.{Op}
use Rattle.schedule.specs.TheoremMoments.{StoreAndSlots}
use Rattle.schedule.specs.Events.{OthersStay}

-- this store with these calls, and with the sets that these values stand for
abbrev pub here : {S T : Type 0} → SetGhosts T → S → Calls → List T → StoreAndSlots S
here rows store calls sets = record { store = store; slots = calls.slots.items; sets = map rows.is_in sets }

-- what the session runs
abbrev pub op_of : Calls → ℕ → Option Op
op_of calls session = slot_of calls.slots.items session

-- the sessions are the same, and each other one runs what it ran
pub record SameOthers (session : ℕ) (old new : Calls) : Type 0 where
  pub sessions : length new.slots.items ≡ length old.slots.items
  pub others : OthersStay session old.slots.items new.slots.items
