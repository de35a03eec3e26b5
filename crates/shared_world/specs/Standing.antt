-- A world that threads may begin to share.
use Rattle.std.specs.Prelude.{◌≡◌, ℕ, Bool, false, Option, List}
use Rattle.index_model.specs.Actions.{Action}
use Rattle.index_model.specs.Calls.{Call}
use Rattle.index_model.specs.declared.entry.Entry.{Entry}
use Rattle.page_action.specs.declared.page_store.PageStore.{Ghosts}
use Rattle.session_calls.specs.Slots.{has_call}
use Rattle.session_calls.specs.declared.op.Op.{Op}
use Rattle.schedule.specs.TheoremCrashes.{KeepsHistory}
use Rattle.schedule.specs.TheoremMoments.{StoreAndSlots, snapshot_of}
use Rattle.schedule.specs.TheoremRuns.{Fits}
use Rattle.shared_world.specs.Handed.{StillFollows}

-- whatever stood as it was handed in fits now; if its history was kept over crashes then, it is; and the
-- store follows what it followed then
pub record Stands {S : Type 0} (g : Ghosts S) (stood kept_then : (Entry → Bool) → List Action → List Call → Type 0) (followed : S → Type 0)
    (now : StoreAndSlots S) : Type 0 where
  pub fits : (contents : Entry → Bool) (history : List Action) (calls : List Call) → stood contents history calls → Fits g contents (snapshot_of now history calls)
  pub safe : (contents : Entry → Bool) (history : List Action) (calls : List Call) → stood contents history calls → kept_then contents history calls
      → KeepsHistory g contents (snapshot_of now history calls)
  pub follows : StillFollows g followed now.store

-- no session has a call
abbrev pub AreIdle : List (Option Op) → Type 0
AreIdle slots = (session : ℕ) → has_call slots session ≡ false
