-- What each function that does one event promises.
use Rattle.std.specs.Prelude.{◌≡◌, Bool, List, [], ◌∷◌, drop, length}
use Rattle.index_model.specs.Actions.{Action}
use Rattle.index_model.specs.Calls.{Call}
use Rattle.index_model.specs.declared.entry.Entry.{Entry}
use Rattle.page_action.specs.declared.page_store.PageStore.{Ghosts}
use Rattle.session_calls.specs.declared.answer.Answer.{Answer}
use Rattle.schedule.specs.TheoremMoments.{StoreAndSlots, Moment, snapshot_of}
use Rattle.schedule.specs.TheoremKinds.{Kind, kind_of}
use Rattle.schedule.specs.TheoremEvents.{EventMeans}
use Rattle.schedule.specs.TheoremRuns.{ForEachHistory}
use Rattle.schedule.specs.Events.{EventAlways, EventAlso}
use Rattle.schedule.specs.declared.event.Event.{Event}

-- one event of this kind with this answer: what it means, and what it also leaves
pub record EventDoes {S : Type 0} (g : Ghosts S) (start : Entry → Bool) (kind : Kind) (answer : Answer) (old new : Moment S) : Type 0 where
  pub means : EventMeans g start kind answer old new
  pub also : EventAlso g start kind answer old new

-- there is a continuation of the history and of the calls, as an event of this kind with this answer makes it
pub record EventRuns {S : Type 0} (g : Ghosts S) (old new : StoreAndSlots S) (kind : Kind) (answer : Answer) (start : Entry → Bool) (history : List Action) (calls : List Call) : Type 0 where
  pub then_history : List Action
  pub then_calls : List Call
  pub does : EventDoes g start kind answer (snapshot_of old history calls) (snapshot_of new then_history then_calls)

-- an event of this kind with this answer: what always holds of it, and what it does to whatever fitted before
pub record EventEffect {S : Type 0} (g : Ghosts S) (kind : Kind) (answer : Answer) (old new : StoreAndSlots S) : Type 0 where
  pub sessions : length new.slots ≡ length old.slots
  pub always : EventAlways g kind answer old new
  pub does : ForEachHistory g old new (EventRuns g old new kind answer)

-- events with an answer each, from one moment to another: of each holds what always holds, and each store
-- follows the one before
abbrev pub EachAlways : {S : Type 0} → Ghosts S → List Event → List Answer → StoreAndSlots S → StoreAndSlots S → Type 0
EachAlways g [] [] first last = first ≡ last
EachAlways {S} g (event ∷ events) (answer ∷ answers) first last =
    (next : StoreAndSlots S) × g.follows first.store next.store × EventAlways g (kind_of event) answer first next × EachAlways g events answers next last
EachAlways g [] (answer ∷ answers) first last = ⊥
EachAlways g (event ∷ events) [] first last = ⊥

-- the answers that a run has put after those that were there
abbrev pub answers_after : List Answer → List Answer → List Answer
answers_after before after = drop (length before) after
