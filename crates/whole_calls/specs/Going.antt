-- Calls of one session as runs of events.
use Rattle.std.specs.Prelude.{◌≡◌, ◌⊎◌, ℕ, Bool, Option, Some, None, List, [], ◌∷◌}
use Rattle.index_model.specs.Actions.{Action}
use Rattle.index_model.specs.Calls.{Call}
use Rattle.index_model.specs.declared.entry.Entry.{Entry}
use Rattle.page_action.specs.declared.page_store.PageStore.{Ghosts}
use Rattle.session_calls.specs.declared.answer.Answer.{Answer}
use Rattle.schedule.specs.TheoremMoments.{StoreAndSlots, Moment, snapshot_of}
use Rattle.schedule.specs.Events.{AreOf}
use Rattle.schedule.specs.TheoremRuns.{Ran, ForEachHistory}
use Rattle.schedule.specs.declared.event.Event.{Event}

-- the answer is one of these
abbrev pub IsAmong : List Answer → Answer → Type 0
IsAmong [] answer = ⊥
IsAmong (x ∷ answers) answer = (x ≡ answer) ⊎ IsAmong answers answer

-- what a call came to, if it says so, is one of these answers
abbrev pub IsOutcomeOf : List Answer → Option Answer → Type 0
IsOutcomeOf answers None = Unit {0}
IsOutcomeOf answers (Some answer) = IsAmong answers answer

-- There is a continuation of the history and of the calls that fits now, by a run of events of this session
-- with these answers. What the call came to is the answer of one of them, so a refusal has the cause of that
-- event; and this is told from the moment before to the moment after.
pub record CallRuns {S : Type 0} (g : Ghosts S) (session : ℕ) (Tells : Moment S → Moment S → Type 0) (came : Option Answer)
    (old new : StoreAndSlots S) (start : Entry → Bool) (history : List Action) (calls : List Call) : Type 0 where
  pub then_history : List Action
  pub then_calls : List Call
  pub events : List Event
  pub answers : List Answer
  pub own : AreOf session events
  pub ran : Ran g start events answers (snapshot_of old history calls) (snapshot_of new then_history then_calls)
  pub outcome_by : IsOutcomeOf answers came
  pub tells : Tells (snapshot_of old history calls) (snapshot_of new then_history then_calls)

-- ... for whatever fitted before, if the device has kept its model up to now
abbrev pub CallIsRun : {S : Type 0} → Ghosts S → ℕ → (Moment S → Moment S → Type 0) → Option Answer → StoreAndSlots S → StoreAndSlots S → Type 0
CallIsRun g session Tells came old new = ForEachHistory g old new (CallRuns g session Tells came old new)

-- ... if what is told speaks of the contents at the start
abbrev pub CallIsRunFrom : {S : Type 0} → Ghosts S → ℕ → ((Entry → Bool) → Moment S → Moment S → Type 0) → Option Answer → StoreAndSlots S → StoreAndSlots S → Type 0
CallIsRunFrom g session Tells came old new = ForEachHistory g old new (λ start history calls. CallRuns g session (Tells start) came old new start history calls)
