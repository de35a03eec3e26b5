-- The lines `run` and `put`: calls of a session that are stepped until a step doesn't go on.
use Rattle.std.specs.Prelude.{◌≡◌, ◌⊎◌, ℕ, Bool, List, [], ◌∷◌, ◌++◌, length, replicate}
use Rattle.index_model.specs.Actions.{Action}
use Rattle.index_model.specs.Calls.{Call}
use Rattle.index_model.specs.declared.dead_rows.DeadRows.{Ghosts as SetGhosts}
use Rattle.index_model.specs.declared.entry.Entry.{Entry}
use Rattle.index_model.specs.declared.fault.Fault.{Fault}
use Rattle.page_action.specs.declared.page_store.PageStore.{Ghosts}
use Rattle.schedule.specs.declared.event.Event.{Event}
use Rattle.schedule.specs.declared.event.Event.TheVariants.{Insert, Step}
use Rattle.session_calls.specs.declared.answer.Answer.{Answer}
use Rattle.session_calls.specs.declared.answer.Answer.TheVariants.{Begun, Going, Refused}
use Rattle.world.specs.Worlds.{WorldRuns}
use Rattle.world.specs.declared.world.World.{World}

-- there are as many sessions, and as many pages may be in memory
pub record SameSizes {S T : Type 0} (g : Ghosts S) (old new : World S T) : Type 0 where
  pub sessions : length new.calls.slots.items ≡ length old.calls.slots.items
  pub frames : (g.state new.store).frames ≡ (g.state old.store).frames

-- so many steps of the session, and one more
abbrev pub steps_of : ℕ → ℕ → List Event
steps_of session count = replicate count (Step session) ++ Step session ∷ []

-- each of so many steps answers that its call goes on, and the one more answers this
abbrev pub answers_to : Answer → ℕ → List Answer
answers_to answer count = replicate count Going ++ answer ∷ []

-- A continuation of the history and of the calls fits the world now, by a run of these events with these
-- answers and of steps of the session after them. The last step answers this, and each before it that its
-- call goes on.
pub record IsStepped {S T : Type 0} (g : Ghosts S) (rows : SetGhosts T) (events : List Event) (answers : List Answer) (session : ℕ) (answer : Answer)
    (old new : World S T) (start : Entry → Bool) (history : List Action) (calls : List Call) : Type 0 where
  -- how many steps go on
  pub count : ℕ
  pub runs : WorldRuns g rows old new (events ++ steps_of session count) (answers ++ answers_to answer count) start history calls

-- the one event of such a run is the beginning of an insert, which is refused
pub record IsRefusedInsert {S T : Type 0} (g : Ghosts S) (rows : SetGhosts T) (session : ℕ) (entry : Entry) (answer : Answer) (old new : World S T)
    (start : Entry → Bool) (history : List Action) (calls : List Call) : Type 0 where
  pub fault : Fault
  pub refused : answer ≡ Refused fault
  pub runs : WorldRuns g rows old new (Insert session entry ∷ []) (answer ∷ []) start history calls

-- the session has begun an insert and stepped it to this answer, or was refused as it began
abbrev pub IsSteppedInsert : {S T : Type 0} → Ghosts S → SetGhosts T → ℕ → Entry → Answer → World S T → World S T → (Entry → Bool) → List Action → List Call → Type 0
IsSteppedInsert g rows session entry answer old new start history calls =
    IsStepped g rows (Insert session entry ∷ []) (Begun ∷ []) session answer old new start history calls
    ⊎ IsRefusedInsert g rows session entry answer old new start history calls
