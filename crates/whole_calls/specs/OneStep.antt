-- One step of a call that goes on beside others, with the checkpoint that may go before it.
use Rattle.std.specs.Prelude.{◌≡◌, ◌⊎◌, ℕ, ◌<◌, Option, Some, None, Result, Ok, Err, List, ◌++◌, length, slice_set}
use Rattle.index_model.specs.Actions.{Effect}
use Rattle.index_model.specs.Calls.{GivenUp, Call}
use Rattle.index_model.specs.Faults.{HasCause}
use Rattle.index_model.specs.declared.fault.Fault.{Fault}
use Rattle.index_model.specs.declared.fault.Fault.TheVariants.{Blocked}
use Rattle.page_action.specs.Causes.{causes_of_forced}
use Rattle.page_action.specs.declared.page_store.PageStore.{Ghosts}
use Rattle.session_calls.specs.Ops.{RunsOn}
use Rattle.session_calls.specs.Sessions.{AnswerMeans, AnswersStep, RunsUntilLast, ended, slot_add}
use Rattle.session_calls.specs.Slots.{slot_of}
use Rattle.session_calls.specs.TheoremCalls.{acts_of}
use Rattle.session_calls.specs.declared.answer.Answer.{Answer}
use Rattle.session_calls.specs.declared.answer.Answer.TheVariants.{Added, Checkpointed, Refused}
use Rattle.schedule.specs.Events.{OthersStay, IsSameStore, DoesOneAct}
use Rattle.schedule.specs.Making.{EventEffect}
use Rattle.schedule.specs.TheoremKinds.{Steps, GivesUp, Checkpoints, MovesCall, MaintainsStore}
use Rattle.schedule.specs.TheoremMoments.{StoreAndSlots, Moment, IsRunningCall}
use Rattle.whole_calls.specs.Going.{IsAmong}
use Rattle.whole_calls.specs.Refusing.{is_full_vacuum, CallIsCaused}
use Rattle.whole_calls.specs.Spending.{TakesFewer}
use Rattle.whole_calls.specs.Stepping.{FinishCounts}
use Rattle.whole_calls.specs.Meanings.{MayAnswer, IsOwnEffect, IsSameHistory, HasNone, RoomIsMade}

-- what a call answers that is given up for a fault: an insert whose entry is added has the fault in
-- `unfinished`; any other call is refused with it
abbrev pub cut_short : Option ℕ → Fault → Answer
cut_short None fault = Refused fault
cut_short (Some action) fault = Added action (Some fault)

-- the call of this number has made one step, with an action of this effect or none, which it was asked for;
-- what is told of it; no other call is changed
pub record HasStepped {S : Type 0} (number : ℕ) (call : Call) (answer : Answer) (old new : Moment S) : Type 0 where
  pub effect : Option Effect
  pub after : Call
  pub may : MayAnswer call.ask answer
  pub own : IsOwnEffect call effect
  pub told : AnswerMeans answer (length old.history) effect call after
  pub history_is : new.history ≡ old.history ++ acts_of number effect
  pub calls_is : new.calls ≡ slice_set old.calls number after

-- the checkpoint before a step was refused with this fault, and the call of this number is given up for it:
-- no action is appended, and no other call is changed
pub record IsGivenUpFor {S : Type 0} (g : Ghosts S) (number : ℕ) (call : Call) (answer : Answer) (old new : Moment S) : Type 0 where
  pub fault : Fault
  pub cause : HasCause (causes_of_forced (g.backing old.store) (g.backing new.store)) fault
  pub answer_is : answer ≡ cut_short call.added fault
  pub history_is : new.history ≡ old.history
  pub calls_is : new.calls ≡ slice_set old.calls number (ended call GivenUp (length old.history))

-- the one or the other, of the session's running call
abbrev pub SessionOneStepMeans : {S : Type 0} → Ghosts S → ℕ → Answer → Moment S → Moment S → Type 0
SessionOneStepMeans g session answer old new =
    (number : ℕ) (call : Call) → IsRunningCall old.calls session number call → HasStepped number call answer old new ⊎ IsGivenUpFor g number call answer old new

-- what one step of a session's call does to whatever fitted before
pub record OneStepIsRun {S : Type 0} (g : Ghosts S) (session least_room : ℕ) (answer : Answer) (old new : Moment S) : Type 0 where
  -- the session's call has made a step, or is given up
  pub told : SessionOneStepMeans g session answer old new
  -- if it has none, nothing is told
  pub idle : HasNone session old → IsSameHistory old new
  -- why it is refused
  pub caused : CallIsCaused g session least_room (is_full_vacuum (slot_of old.slots session)) answer old new
  -- if it goes on, fewer steps are left
  pub fewer : TakesFewer (g.state old.store) (g.state new.store) (slot_of old.slots session) (slot_of new.slots session) answer
  -- if it finishes, it tells how many pages there are
  pub stats : FinishCounts g session answer old new

-- what holds of one step of a session's call whatever the pages are
pub record OneStepAlways {S : Type 0} (g : Ghosts S) (session : ℕ) (answer : Answer) (old new : StoreAndSlots S) : Type 0 where
  -- it answers what a step may
  pub answers : AnswersStep (slot_of old.slots session) (slot_of new.slots session) answer
  -- after it the session runs a call exactly if it ran one, and the answer isn't the last of it
  pub until_last : RunsUntilLast (slot_of old.slots session) (slot_of new.slots session) answer
  -- ... and that is of the same kind
  pub runs_on : RunsOn (slot_of old.slots session) (slot_of new.slots session)
  -- no other session's slot is changed
  pub others : OthersStay session old.slots new.slots
  -- it does one act at most
  pub kept : DoesOneAct (g.state old.store) (g.state new.store)
  -- one that is blocked changes neither pages, calls and holdings nor a slot
  pub blocked : (block : ℕ) → answer ≡ Refused (Blocked block) → IsSameStore g old new

-- one of these answers was this; or the entry is added, and one of them was the refusal with the fault in
-- `unfinished`
abbrev pub OneStepComesTo : Answer → List Answer → Type 0
OneStepComesTo answer answers =
    IsAmong answers answer ⊎ ((action : ℕ) × (fault : Fault) × (answer ≡ Added action (Some fault)) × IsAmong answers (Refused fault))

-- the step itself, if the log has room for `least_room` images
pub record IsStepMade {S : Type 0} (g : Ghosts S) (session least_room : ℕ) (answer : Answer) (old new : StoreAndSlots S) : Type 0 where
  pub room : RoomIsMade least_room (g.state old.store).format (g.backing old.store)
  pub makes : EventEffect g (MovesCall session Steps) answer old new

-- a checkpoint before a step, if the log has too little room
pub record IsRoomTried {S : Type 0} (g : Ghosts S) (least_room : ℕ) (answer : Answer) (old new : StoreAndSlots S) : Type 0 where
  pub short : (g.backing old.store).room < least_room
  pub makes : EventEffect g (MaintainsStore Checkpoints) answer old new

-- ... which is made, and then the step
pub record IsStepAfter {S : Type 0} (g : Ghosts S) (session least_room : ℕ) (answer : Answer) (old new : StoreAndSlots S) : Type 0 where
  pub count : ℕ
  pub between : StoreAndSlots S
  pub checkpoint : IsRoomTried g least_room (Checkpointed count) old between
  pub step : IsStepMade g session least_room answer between new

-- ... or is refused with a fault; then the call is given up, and answers that fault
pub record IsStepCutShort {S : Type 0} (g : Ghosts S) (session least_room : ℕ) (answer : Answer) (old new : StoreAndSlots S) : Type 0 where
  pub fault : Fault
  pub between : StoreAndSlots S
  pub checkpoint : IsRoomTried g least_room (Refused fault) old between
  pub gave_up : Answer
  pub makes : EventEffect g (MovesCall session GivesUp) gave_up between new
  pub told : answer ≡ cut_short (slot_add (slot_of old.slots session)) fault

-- the events that one step of a session's call is made of, whatever the pages are
abbrev pub IsMadeAsStep : {S : Type 0} → Ghosts S → ℕ → ℕ → Answer → StoreAndSlots S → StoreAndSlots S → Type 0
IsMadeAsStep g session least_room answer old new =
    IsStepMade g session least_room answer old new ⊎ IsStepAfter g session least_room answer old new ⊎ IsStepCutShort g session least_room answer old new

-- how room is made before a step: nothing is done, or a checkpoint is made, or refused with this fault
abbrev pub MakesRoom : {S : Type 0} → Ghosts S → ℕ → Result (Unit {0}) Fault → StoreAndSlots S → StoreAndSlots S → Type 0
MakesRoom g least_room (Ok made) old new = (new ≡ old) ⊎ ((count : ℕ) × IsRoomTried g least_room (Checkpointed count) old new)
MakesRoom g least_room (Err fault) old new = IsRoomTried g least_room (Refused fault) old new
