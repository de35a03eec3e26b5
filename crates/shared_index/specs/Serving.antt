-- What is left of an index that threads have shared.
use Rattle.std.specs.Prelude.{◌≡◌, ℕ, ◌<◌, ◌≤◌, Bool, true, List, [], Option, length}
use Rattle.index_model.specs.Actions.{Action}
use Rattle.index_model.specs.Calls.{Call}
use Rattle.index_model.specs.declared.dead_rows.DeadRows.{Ghosts as SetGhosts}
use Rattle.index_model.specs.declared.entry.Entry.{Entry}
use Rattle.index_model.specs.declared.fault.Fault.{Fault}
use Rattle.index_model.specs.declared.fault.Fault.TheVariants.{BadLimits, SessionBusy, NoMemory}
use Rattle.page_action.specs.declared.page_store.PageStore.{Ghosts}
use Rattle.session_calls.specs.Slots.{has_call}
use Rattle.session_calls.specs.declared.op.Op.{Op}
use Rattle.session_seats.specs.declared.call.CompletedCall.{CompletedCall}
use Rattle.session_seats.specs.declared.call.PendingCall.{PendingCall}
use Rattle.world.specs.Worlds.{inside}
use Rattle.world.specs.declared.world.World.{World}
use Rattle.shared_world.specs.Acted.{HasActed}
use Rattle.shared_world.specs.Handed.{ComesOf, Handed, StillFollows}
use Rattle.shared_world.specs.Kept.{KeepsAll}
use Rattle.shared_world.specs.Standing.{AreIdle}
use Rattle.shared_index.specs.Told.{AreOfLog}

-- 1 to 64 sessions, no more than the world has
pub record MayServe (within sessions : ℕ) : Type 0 where
  pub some : 0 < sessions
  pub few : sessions ≤ 64
  pub seated : sessions ≤ within

-- why nothing is served: a limit is passed; else a session has a call; else there is no memory for it
abbrev pub IsNotServedFor : Fault → List (Option Op) → ℕ → Type 0
IsNotServedFor BadLimits slots sessions = MayServe (length slots) sessions → ⊥
IsNotServedFor SessionBusy slots sessions = MayServe (length slots) sessions × ((session : ℕ) × (has_call slots session ≡ true))
IsNotServedFor NoMemory slots sessions = MayServe (length slots) sessions × AreIdle slots
IsNotServedFor fault slots sessions = ⊥

-- The world after all, with one log of all calls. The sessions that came back have had just the calls that
-- the log has of them, and this is learnt by these.
pub record IsServedWorld {S T : Type 0} (g : Ghosts S) (rows : SetGhosts T) (stood kept_then : (Entry → Bool) → List Action → List Call → Type 0)
    (followed : S → Type 0) (handed : Handed) (Learnt : List (ℕ × List (ℕ × CompletedCall)) → Type 0) (world : World S T) (start : ℕ) (idle : Bool) : Type 0 where
  pub log : List CompletedCall
  pub pending : List (Option PendingCall)
  pub told : List (ℕ × List (ℕ × CompletedCall))
  pub kept : ∥ KeepsAll g handed stood kept_then (inside rows world) start pending log ∥₁
  pub acted : ∥ HasActed g handed (inside rows world) pending log ∥₁
  pub comes : ∥ ComesOf g handed start (inside rows world) ∥₁
  pub steps : ∥ StillFollows g followed world.store ∥₁
  pub own : AreOfLog log told
  pub learnt : Learnt told
  -- if the sessions are idle, none runs a call
  pub none : idle ≡ true → pending ≡ []
  pub free : idle ≡ true → AreIdle world.calls.slots.items
