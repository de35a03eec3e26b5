-- What is promised of a world.
use Rattle.std.specs.Prelude.{◌≡◌, Bool, List, length, map}
use Rattle.index_model.specs.Actions.{Action}
use Rattle.index_model.specs.Calls.{Call}
use Rattle.index_model.specs.declared.entry.Entry.{Entry}
use Rattle.index_model.specs.declared.dead_rows.DeadRows.{Ghosts as SetGhosts}
use Rattle.page_action.specs.States.{State}
use Rattle.page_action.specs.declared.page_store.PageStore.{Ghosts}
use Rattle.session_calls.specs.declared.answer.Answer.{Answer}
use Rattle.schedule.specs.TheoremCrashes.{KeepsHistory, IsCrashSafe}
use Rattle.schedule.specs.TheoremRuns.{ForEachHistory, Runs, EventFollows, Fits}
use Rattle.schedule.specs.TheoremMoments.{StoreAndSlots, Moment, snapshot_of}
use Rattle.schedule.specs.declared.event.Event.{Event}
use Rattle.world.specs.declared.world.World.{World}

-- the store of a world, what each of its sessions runs, and its sets of dead rows
abbrev pub inside : {S T : Type 0} → SetGhosts T → World S T → StoreAndSlots S
inside rows world = record { store = world.store; slots = world.calls.slots.items; sets = map rows.is_in world.sets.items }

-- the moment at which a world stands, told by this history and these calls
abbrev pub snapshot_in : {S T : Type 0} → SetGhosts T → World S T → List Action → List Call → Moment S
snapshot_in rows world history calls = snapshot_of (inside rows world) history calls

-- these contents at the start, this history and these calls fit the world
abbrev pub WorldFits : {S T : Type 0} → Ghosts S → SetGhosts T → World S T → (Entry → Bool) → List Action → List Call → Type 0
WorldFits g rows world start history calls = Fits g start (snapshot_in rows world history calls)

-- ... and each crash leaves a prefix of the history
abbrev pub WorldKeeps : {S T : Type 0} → Ghosts S → SetGhosts T → World S T → (Entry → Bool) → List Action → List Call → Type 0
WorldKeeps g rows world start history calls = KeepsHistory g start (snapshot_in rows world history calls)

-- if the history was kept, it is so still, and a crash in between leaves a prefix of it
abbrev pub WorldIsSafe : {S T : Type 0} → Ghosts S → SetGhosts T → World S T → World S T → (Entry → Bool) → List Action → List Call → Type 0
WorldIsSafe g rows old new start history calls = WorldKeeps g rows old start history calls → IsCrashSafe g start (snapshot_in rows old history calls) (snapshot_in rows new history calls)

-- if the device has kept its model up to now, this holds of whatever fitted the world before
abbrev pub ForEachWorldHistory : {S T : Type 0} → Ghosts S → SetGhosts T → World S T → World S T → ((Entry → Bool) → List Action → List Call → Type 0) → Type 0
ForEachWorldHistory g rows old new goes = ForEachHistory g (inside rows old) (inside rows new) goes

-- there is a continuation of the history and of the calls that fits the world now, by this event with this
-- answer
abbrev pub WorldIsRun : {S T : Type 0} → Ghosts S → SetGhosts T → World S T → World S T → Event → Answer → (Entry → Bool) → List Action → List Call → Type 0
WorldIsRun g rows old new event answer start history calls = EventFollows g (inside rows old) (inside rows new) event answer start history calls

-- there is a continuation of the history and of the calls that fits the world now, by a run of these events
-- with these answers
abbrev pub WorldRuns : {S T : Type 0} → Ghosts S → SetGhosts T → World S T → World S T → List Event → List Answer → (Entry → Bool) → List Action → List Call → Type 0
WorldRuns g rows old new events answers start history calls = Runs g (inside rows old) (inside rows new) events answers start history calls

-- some history and calls fit the world
abbrev pub WorldStillFits : {S T : Type 0} → Ghosts S → SetGhosts T → World S T → (Entry → Bool) → List Action → List Call → Type 0
WorldStillFits g rows world start history calls = (then_history : List Action) × (then_calls : List Call) × WorldFits g rows world start then_history then_calls

-- the pages, the sizes and the counts of a store are as they were: only what its sessions held may be let go
pub record OnlyLetsGo (old new : State) : Type 0 where
  pub format : new.format ≡ old.format
  pub frames : new.frames ≡ old.frames
  pub pages : new.pages ≡ old.pages
  pub counted : new.counted ≡ old.counted
  pub acts : new.acts ≡ old.acts
  pub begun : new.begun ≡ old.begun

-- the sessions and the sets of dead rows are the same
pub record SameSessions {S T : Type 0} (old new : World S T) : Type 0 where
  pub sessions : length new.calls.slots.items ≡ length old.calls.slots.items
  pub sets : new.sets ≡ old.sets
