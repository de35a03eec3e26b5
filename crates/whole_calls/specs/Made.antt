-- Calls of one session as events, one after the other, whatever the pages are.
use Rattle.std.specs.Prelude.{◌≡◌, ◌⊎◌, ℕ, ◌<◌, ◌≤◌, Option, Some, None, Result, Ok, Err, List, [], ◌∷◌, length}
use Rattle.index_model.specs.declared.fault.Fault.{Fault}
use Rattle.index_model.specs.declared.fault.Fault.TheVariants.{PageDamaged}
use Rattle.index_model.specs.declared.format.Format.{Format}
use Rattle.page_action.specs.States.{Backing}
use Rattle.page_action.specs.declared.page_store.PageStore.{Ghosts}
use Rattle.session_calls.specs.declared.answer.Answer.{Answer}
use Rattle.session_calls.specs.declared.answer.Answer.TheVariants.{Added, Checkpointed, Refused}
use Rattle.schedule.specs.TheoremMoments.{StoreAndSlots}
use Rattle.schedule.specs.TheoremKinds.{Steps, Checkpoints, Kind, MovesCall, MaintainsStore, kind_of}
use Rattle.schedule.specs.Events.{AreOf}
use Rattle.schedule.specs.Making.{EventEffect}
use Rattle.schedule.specs.declared.event.Event.{Event}
use Rattle.whole_calls.specs.Going.{IsAmong}
use Rattle.whole_calls.specs.Meanings.{RoomIsMade}
use Rattle.whole_calls.specs.declared.inserted.Inserted.{Inserted}

-- the log's room is as an event asks: a checkpoint is made only if there is room for fewer images than these;
-- a step only if there is room for `least_room`, or the whole room; and nothing else is done for the store
abbrev pub HasItsRoom : ℕ → Kind → Format → Backing → Type 0
HasItsRoom least_room (MaintainsStore Checkpoints) format backing = backing.room < least_room
HasItsRoom least_room (MaintainsStore upkeep) format backing = ⊥
HasItsRoom least_room (MovesCall session Steps) format backing = RoomIsMade least_room format backing
HasItsRoom least_room kind format backing = Unit {0}

-- these events are made one after the other, with these answers, each when the log's room is as it asks
abbrev pub AreMade : {S : Type 0} → Ghosts S → ℕ → List Event → List Answer → StoreAndSlots S → StoreAndSlots S → Type 0
AreMade g least_room [] [] first last = first ≡ last
AreMade {S} g least_room (event ∷ events) (answer ∷ answers) first last =
    HasItsRoom least_room (kind_of event) (g.state first.store).format (g.backing first.store)
    × ((next : StoreAndSlots S) × EventEffect g (kind_of event) answer first next × AreMade g least_room events answers next last)
AreMade g least_room [] (answer ∷ answers) first last = ⊥
AreMade g least_room (event ∷ events) [] first last = ⊥

-- The call is made of events of this session and of checkpoints, whatever the pages are, each when the log's
-- room is as it asks. What it came to, it came to by their answers.
pub record IsMadeOf {S : Type 0} (g : Ghosts S) (session least_room : ℕ) (CallOutcome : List Answer → Type 0) (old new : StoreAndSlots S) : Type 0 where
  pub events : List Event
  pub answers : List Answer
  pub own : AreOf session events
  pub made : AreMade g least_room events answers old new
  pub outcome_by : CallOutcome answers

-- a step answered this, or the checkpoint before it, which was refused so; else a checkpoint was made before
-- it, or none
abbrev pub StepComesTo : Answer → List Answer → Type 0
StepComesTo answer answers = (answers ≡ answer ∷ []) ⊎ ((count : ℕ) × (answers ≡ Checkpointed count ∷ answer ∷ []))

-- one of these answers was this; or a call that was stepped 2^64 - 1 times was refused for that
abbrev pub Answered : Answer → List Answer → Type 0
Answered answer answers = IsAmong answers answer ⊎ ((answer ≡ Refused (PageDamaged 0)) × (18446744073709551615 ≤ length answers))

-- ... of what a call came to, if it says so
abbrev pub ComesTo : Option Answer → List Answer → Type 0
ComesTo None answers = Unit {0}
ComesTo (Some answer) answers = Answered answer answers

-- ... of what an insert answers: that its entry is added, or a refusal; a refusal after its Add stands in
-- `unfinished`
abbrev pub InsertComesTo : Result Inserted Fault → List Answer → Type 0
InsertComesTo (Ok inserted) answers =
    IsAmong answers (Added inserted.action inserted.unfinished) ⊎ ((fault : Fault) × (inserted.unfinished ≡ Some fault) × Answered (Refused fault) answers)
InsertComesTo (Err fault) answers = Answered (Refused fault) answers
