-- The theorem's words: runs of events.
use Rattle.std.specs.Prelude.{◌≡◌, ℕ, Bool, true, List, [], ◌∷◌, ◌++◌}
use Rattle.index_model.specs.Actions.{Action}
use Rattle.index_model.specs.Calls.{Call}
use Rattle.index_model.specs.declared.entry.Entry.{Entry}
use Rattle.page_action.specs.declared.page_store.PageStore.{Ghosts}
use Rattle.session_calls.specs.declared.answer.Answer.{Answer}
use Rattle.schedule.specs.TheoremMoments.{StoreAndSlots, Moment, snapshot_of, Explains}
use Rattle.schedule.specs.TheoremEvents.{IsDurable, EventMeans}
use Rattle.schedule.specs.TheoremKinds.{kind_of}
use Rattle.schedule.specs.MomentInvariants.{Invariant}
use Rattle.schedule.specs.Events.{EventAlso}
use Rattle.schedule.specs.TheoremCrashes.{KeepsHistory, IsCrashSafe}
use Rattle.schedule.specs.declared.event.Event.{Event}

-- the history and the calls fit the moment: they explain it, and what keeps it so holds too
pub record Fits {S : Type 0} (g : Ghosts S) (start : Entry → Bool) (now : Moment S) : Type 0 where
  pub explains : Explains g start now
  pub invariant : Invariant g start now

-- each number of actions that these answers give as durable is at most this
abbrev pub AreDurable : ℕ → List Answer → Type 0
AreDurable durable [] = Unit {0}
AreDurable durable (answer ∷ answers) = IsDurable durable answer × AreDurable durable answers

-- One event with its answer: what it means, and what it also leaves; and what a crash at any moment of it
-- leaves, if the history was kept before.
pub record EventIsRun {S : Type 0} (g : Ghosts S) (start : Entry → Bool) (event : Event) (answer : Answer) (old new : Moment S) : Type 0 where
  pub means : EventMeans g start (kind_of event) answer old new
  pub also : EventAlso g start (kind_of event) answer old new
  pub crash : KeepsHistory g start old → IsCrashSafe g start old new

-- A run after these answers: events with an answer each, from one moment to another, each store following the
-- one before. Before each event, at least as many actions are durable as each answer so far gave.
abbrev pub IsRun : {S : Type 0} → Ghosts S → (Entry → Bool) → List Answer → List Event → List Answer → Moment S → Moment S → Type 0
IsRun g start told [] [] first last = first ≡ last
IsRun {S} g start told (event ∷ events) (answer ∷ answers) first last =
    AreDurable (g.backing first.store).durable told
    × ((next : Moment S) × EventIsRun g start event answer first next × IsRun g start (told ++ answer ∷ []) events answers next last)
IsRun g start told [] (answer ∷ answers) first last = ⊥
IsRun g start told (event ∷ events) [] first last = ⊥

-- a run with all that holds at its end
pub record Ran {S : Type 0} (g : Ghosts S) (start : Entry → Bool) (events : List Event) (answers : List Answer) (first last : Moment S) : Type 0 where
  pub run : IsRun g start [] events answers first last
  pub fits : Fits g start last
  -- what was acknowledged is durable
  pub acknowledged : AreDurable (g.backing last.store).durable answers
  pub follows : g.follows first.store last.store
  -- what a crash at any moment of the run leaves, if the history was kept before
  pub crash : KeepsHistory g start first → IsCrashSafe g start first last

-- if the device has kept its model up to now, this holds of whatever fitted before
abbrev pub ForEachHistory : {S : Type 0} → Ghosts S → StoreAndSlots S → StoreAndSlots S → ((Entry → Bool) → List Action → List Call → Type 0) → Type 0
ForEachHistory g old new goes =
    (g.backing new.store).honest ≡ true → (start : Entry → Bool) (history : List Action) (calls : List Call)
    → Fits g start (snapshot_of old history calls) → goes start history calls

-- there is a continuation of the history and of the calls that fits now, by a run of these events with these
-- answers
pub record Runs {S : Type 0} (g : Ghosts S) (old new : StoreAndSlots S) (events : List Event) (answers : List Answer) (start : Entry → Bool) (history : List Action) (calls : List Call) : Type 0 where
  pub then_history : List Action
  pub then_calls : List Call
  pub ran : Ran g start events answers (snapshot_of old history calls) (snapshot_of new then_history then_calls)

-- there is a continuation of the history and of the calls that fits now, as this event with this answer makes
-- it
pub record EventFollows {S : Type 0} (g : Ghosts S) (old new : StoreAndSlots S) (event : Event) (answer : Answer) (start : Entry → Bool) (history : List Action) (calls : List Call) : Type 0 where
  pub then_history : List Action
  pub then_calls : List Call
  pub goes : EventIsRun g start event answer (snapshot_of old history calls) (snapshot_of new then_history then_calls)
  pub fits : Fits g start (snapshot_of new then_history then_calls)
