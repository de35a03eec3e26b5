-- What an event does beside what it means: what keeps the theorem, and what holds of an event whatever the
-- pages are.
use Rattle.std.specs.Prelude.{◌≡◌, ◌≢◌, ◌⊎◌, ℕ, suc, ◌≤◌, ◌&&◌, not, Bool, true, false, Option, Some, None, Ok, Err, List, [], ◌∷◌, ◌++◌, length, drop, slice_get, slice_set}
use Rattle.index_model.specs.Actions.{Effect, Action, contents_after}
use Rattle.index_model.specs.Calls.{Call}
use Rattle.index_model.specs.Faults.{Circumstances, HasCause}
use Rattle.index_model.specs.declared.entry.Entry.{Entry}
use Rattle.index_model.specs.declared.fault.Fault.{Fault}
use Rattle.index_model.specs.declared.fault.Fault.TheVariants.{Stopped, VacuumRunning}
use Rattle.page_action.specs.Causes.{nothing_wrong, causes_of_forced}
use Rattle.page_action.specs.Order.{IsRestOf}
use Rattle.page_action.specs.Room.{KeepsRoom, LogIsClosed}
use Rattle.page_action.specs.States.{State, IsLater}
use Rattle.page_action.specs.declared.page_store.PageStore.{Ghosts}
use Rattle.latch_table.specs.Holdings.{has_pin, holding_of}
use Rattle.page_codec.specs.declared.page.Page.{Page}
use Rattle.tree_acts.specs.Leaves.{IsLeafAt, WasLeaf}
use Rattle.tree_acts.specs.Lows.{NoLowRises}
use Rattle.tree_acts.specs.StepEffects.{OthersRely}
use Rattle.session_calls.specs.Due.{IsDueIn, HasSteps}
use Rattle.session_calls.specs.Following.{StepAnswerMeans, FittedStepFollows, EachStepFollows}
use Rattle.session_calls.specs.TheoremCalls.{DeadSets, asked_by, acts_of, begun_call}
use Rattle.session_calls.specs.Ops.{op_before, asks_vacuum, asked_of, causes_of_stepped, causes_of_asked_next, causes_of_beginning, RunsOn, IsCaused, StoppedAnswersFirst, asks_bulk_delete, no_call_begins}
use Rattle.session_calls.specs.Sessions.{AnswerMeans, IsAsked, MovesShape, is_busy, slot_add, StepHasLessLeft, NoMoreIsLeft, GivesLess, AnswersStep, AnswersNext, AnswersEnd, RefusalChangesNothing, RunsUntilLast, leaf_of, OnlyWritersAct, after_slot, after_request}
use Rattle.session_calls.specs.declared.answer.Answer.{Answer}
use Rattle.session_calls.specs.declared.answer.Answer.TheVariants.{Begun, Forced, Flushed, Checkpointed, Refused}
use Rattle.session_calls.specs.declared.op.Op.{Op}
use Rattle.session_calls.specs.declared.request.Request.{Request}
use Rattle.schedule.specs.TheoremMoments.{StoreAndSlots, Moment, IsRunningCall}
use Rattle.schedule.specs.TheoremKinds.{Move, Steps, Takes, GivesUp, Upkeep, Forces, Flushes, Checkpoints, Kind, BeginsCall, MovesCall, MaintainsStore, kind_of}
use Rattle.schedule.specs.TheoremEvents.{IsSameState, IsDurable}
use Rattle.session_calls.specs.Slots.{slot_of, has_call, one_vacuums, is_of_sets, session_to_begin}
use Rattle.schedule.specs.MomentInvariants.{here_at, Invariant}
use Rattle.schedule.specs.declared.event.Event.{Event}

-- the kind is of this session, or of no session
abbrev pub IsOfSession : ℕ → Kind → Type 0
IsOfSession session (BeginsCall of request) = of ≡ session
IsOfSession session (MovesCall of move) = of ≡ session
IsOfSession session (MaintainsStore upkeep) = Unit {0}

-- the event is one of this session, or one of the store
abbrev pub IsOf : ℕ → Event → Type 0
IsOf session event = IsOfSession session (kind_of event)

-- ... each of these
abbrev pub AreOf : ℕ → List Event → Type 0
AreOf session [] = Unit {0}
AreOf session (event ∷ events) = IsOf session event × AreOf session events

-- an event of a session's running call: it appends an action of this effect, or none, which the call was
-- asked for; what is told of it; no other call is changed, and other sessions may rely; and what it does to
-- the shape of the pages
pub record CallMoves {S : Type 0} (g : Ghosts S) (start : Entry → Bool) (session : ℕ) (answer : Answer) (old new : Moment S) : Type 0 where
  pub number : ℕ
  pub call : Call
  pub is : IsRunningCall old.calls session number call
  pub effect : Option Effect
  pub after : Call
  pub asked : IsAsked (contents_after start old.history) call.ask call.added effect
  pub told : AnswerMeans answer (length old.history) effect call after
  pub history_is : new.history ≡ old.history ++ acts_of number effect
  pub calls_is : new.calls ≡ slice_set old.calls number after
  pub others : OthersRely session (g.state old.store) (g.state new.store)
  pub shape : MovesShape call.ask effect (g.state old.store) (g.state new.store)

-- a call is begun: it gets the next number
pub record CallBegins {S : Type 0} (g : Ghosts S) (session : ℕ) (request : Request) (answer : Answer) (old new : Moment S) : Type 0 where
  pub told : answer ≡ Begun
  pub history_is : new.history ≡ old.history
  pub calls_is : new.calls ≡ old.calls ++ begun_call session (asked_by old.sets request) (length old.history) ∷ []
  pub others : OthersRely session (g.state old.store) (g.state new.store)

-- the event is refused, and nothing is changed
pub record Stays {S : Type 0} (g : Ghosts S) (answer : Answer) (old new : Moment S) : Type 0 where
  pub fault : Fault
  pub refused : answer ≡ Refused fault
  pub still : IsSameState g old new

-- what is answered if `count` actions are durable; a flush tells no such number
abbrev pub kept_answer : Upkeep → ℕ → Option Answer
kept_answer Forces count = Some (Forced count)
kept_answer Flushes count = None
kept_answer Checkpoints count = Some (Checkpointed count)

-- all actions are durable, and the answer tells their number
pub record UpkeepIsDurable {S : Type 0} (g : Ghosts S) (upkeep : Upkeep) (answer : Answer) (old new : Moment S) : Type 0 where
  pub told : kept_answer upkeep (length old.history) ≡ Some answer
  pub durable : (g.backing new.store).durable ≡ length old.history

-- what is told of it: a flush answers the block of the page that waited longest, or that none waited
abbrev pub UpkeepAnswerMeans : {S : Type 0} → Ghosts S → Upkeep → Answer → Moment S → Moment S → Type 0
UpkeepAnswerMeans g Forces answer old new = UpkeepIsDurable g Forces answer old new
UpkeepAnswerMeans g Flushes answer old new = answer ≡ Flushed (slice_get (g.backing old.store).changed 0)
UpkeepAnswerMeans g Checkpoints answer old new = UpkeepIsDurable g Checkpoints answer old new

-- what was to be done for the store is done; nothing that a history tells of is changed
pub record UpkeepIsDone {S : Type 0} (g : Ghosts S) (upkeep : Upkeep) (answer : Answer) (old new : Moment S) : Type 0 where
  pub tells : UpkeepAnswerMeans g upkeep answer old new
  pub still : IsSameState g old new

-- What was done for the store, whatever the pages are: these are as they were; if it is told as done, it
-- tells how many acts were done, and all are durable; a refusal has its cause.
pub record StoreIsKept {S : Type 0} (g : Ghosts S) (upkeep : Upkeep) (answer : Answer) (old new : S) : Type 0 where
  pub state_is : g.state new ≡ g.state old
  pub number : (count : ℕ) → kept_answer upkeep count ≡ Some answer → count ≡ (g.state old).acts
  pub durable : (count : ℕ) → kept_answer upkeep count ≡ Some answer → (g.backing new).durable ≡ (g.state old).acts
  pub caused : (fault : Fault) → answer ≡ Refused fault → HasCause (causes_of_forced (g.backing old) (g.backing new)) fault

-- a force leaves the changed pages waiting to be written to their places
pub record IsForced {S : Type 0} (g : Ghosts S) (old new : S) : Type 0 where
  pub waiting : (g.backing new).changed ≡ (g.backing old).changed
  pub room : KeepsRoom (g.state old) (g.backing old) (g.backing new)

-- a flush writes the page that waited longest, which it answers, and no other
pub record IsFlushed {S : Type 0} (g : Ghosts S) (block : Option ℕ) (old new : S) : Type 0 where
  pub first : block ≡ slice_get (g.backing old).changed 0
  pub others : (g.backing new).changed ≡ drop 1 (g.backing old).changed
  pub room : KeepsRoom (g.state old) (g.backing old) (g.backing new)

-- after a checkpoint no page waits, and the log has its whole room
pub record IsCheckpointed {S : Type 0} (g : Ghosts S) (old new : S) : Type 0 where
  pub none : (g.backing new).changed ≡ []
  pub room : LogIsClosed (g.state old).format (g.backing new)

-- a force that fails leaves the log stopped
pub record IsNotForced {S : Type 0} (g : Ghosts S) (old new : S) : Type 0 where
  pub stopped : (g.backing new).stopped ≡ true
  pub waiting : (g.backing new).changed ≡ (g.backing old).changed
  pub room : KeepsRoom (g.state old) (g.backing old) (g.backing new)

-- a flush that fails leaves each page waiting
pub record IsNotFlushed {S : Type 0} (g : Ghosts S) (old new : S) : Type 0 where
  pub waiting : (g.backing new).changed ≡ (g.backing old).changed
  pub room : KeepsRoom (g.state old) (g.backing old) (g.backing new)

-- a checkpoint that fails leaves the log stopped, or all actions durable; the first of the pages that waited
-- were written, or none
pub record IsNotCheckpointed {S : Type 0} (g : Ghosts S) (old new : S) : Type 0 where
  pub kept : ((g.backing new).stopped ≡ true) ⊎ ((g.backing new).durable ≡ (g.state old).acts)
  pub rest : IsRestOf (g.backing new).changed (g.backing old).changed
  pub room : KeepsRoom (g.state old) (g.backing old) (g.backing new)

-- what an event of the store does to the pages that wait to be written and to the log's room, by what it
-- answers
abbrev pub UpkeepChanges : {S : Type 0} → Ghosts S → Upkeep → Answer → S → S → Type 0
UpkeepChanges g Forces (Forced count) old new = IsForced g old new
UpkeepChanges g Flushes (Flushed block) old new = IsFlushed g block old new
UpkeepChanges g Checkpoints (Checkpointed count) old new = IsCheckpointed g old new
UpkeepChanges g Forces (Refused fault) old new = IsNotForced g old new
UpkeepChanges g Flushes (Refused fault) old new = IsNotFlushed g old new
UpkeepChanges g Checkpoints (Refused fault) old new = IsNotCheckpointed g old new
UpkeepChanges g upkeep answer old new = ⊥

-- what was done for the store is told as it was done, and a refusal of it has its cause; of an event of a
-- call nothing is said
abbrev pub UpkeepIsKept : {S : Type 0} → Ghosts S → Kind → Answer → S → S → Type 0
UpkeepIsKept g (MaintainsStore upkeep) answer old new = StoreIsKept g upkeep answer old new
UpkeepIsKept g kind answer old new = Unit {0}

-- ... of an event of a call nothing is said
abbrev pub UpkeepMeans : {S : Type 0} → Ghosts S → Kind → Answer → S → S → Type 0
UpkeepMeans g (MaintainsStore upkeep) answer old new = UpkeepChanges g upkeep answer old new
UpkeepMeans g kind answer old new = Unit {0}

-- a session's running call goes on; without one the event is refused
abbrev pub MovesOn : {S : Type 0} → Ghosts S → (Entry → Bool) → Bool → ℕ → Answer → Moment S → Moment S → Type 0
MovesOn g start true session answer old new = CallMoves g start session answer old new
MovesOn g start false session answer old new = Stays g answer old new

-- a session without a call may begin one
abbrev pub MayBegin : {S : Type 0} → Ghosts S → Option (Option Op) → ℕ → Request → Answer → Moment S → Moment S → Type 0
MayBegin g None session request answer old new = Stays g answer old new
MayBegin g (Some None) session request answer old new = CallBegins g session request answer old new ⊎ Stays g answer old new
MayBegin g (Some (Some op)) session request answer old new = Stays g answer old new

-- what an event of this kind does to the history and to the calls, by what it answers
abbrev pub Happens : {S : Type 0} → Ghosts S → (Entry → Bool) → Kind → Answer → Moment S → Moment S → Type 0
Happens g start (BeginsCall session request) answer old new = MayBegin g (slice_get old.slots session) session request answer old new
Happens g start (MovesCall session move) answer old new = MovesOn g start (has_call old.slots session) session answer old new
Happens g start (MaintainsStore upkeep) answer old new = UpkeepIsDone g upkeep answer old new ⊎ Stays g answer old new

-- the circumstances if there is no such session, or no call in it
abbrev pub causes_of_no_call : Bool → Circumstances
causes_of_no_call is_stopped = record nothing_wrong { is_stopped = is_stopped; no_such_session = true }

-- the circumstances of an event of a call: of one that runs, or of none
abbrev pub causes_of_moved : Circumstances → (Op → Circumstances) → Option (Option Op) → Circumstances
causes_of_moved idle running None = idle
causes_of_moved idle running (Some None) = idle
causes_of_moved idle running (Some (Some op)) = running op

-- the circumstances of a beginning with these sets, while a bulk delete or a cleanup runs or none
abbrev pub causes_of_begun_at : {S : Type 0} → Ghosts S → S → Bool → DeadSets → Request → Option (Option Op) → Circumstances
causes_of_begun_at g store vacuums sets request None = causes_of_no_call (no_call_begins (g.state store) (g.backing store))
causes_of_begun_at g store vacuums sets request (Some slot) = record (causes_of_beginning (g.state store) (g.backing store) (is_busy slot)) {
  no_such_session = not (is_of_sets sets request);
  vacuum_runs = asks_vacuum request && vacuums;
}

-- the circumstances of a move of a session's call, with these sets, from this store to that
abbrev pub causes_of_moving : {S : Type 0} → Ghosts S → DeadSets → S → S → Move → Option (Option Op) → Circumstances
causes_of_moving g sets old new Steps slot =
    causes_of_moved (causes_of_no_call (g.backing old).stopped) (λ op. causes_of_stepped sets op (g.state old) (g.backing old) (g.backing new)) slot
causes_of_moving g sets old new Takes slot = causes_of_moved (causes_of_no_call false) (λ op. causes_of_asked_next (asked_of sets op)) slot
causes_of_moving g sets old new GivesUp slot = causes_of_moved (causes_of_no_call false) (λ op. nothing_wrong) slot

-- the circumstances of an event
abbrev pub causes_of_happening : {S : Type 0} → Ghosts S → Kind → StoreAndSlots S → StoreAndSlots S → Circumstances
causes_of_happening g (BeginsCall session request) old new =
    causes_of_begun_at g old.store (one_vacuums old.slots) old.sets request (slice_get old.slots session)
causes_of_happening g (MovesCall session move) old new = causes_of_moving g old.sets old.store new.store move (slice_get old.slots session)
causes_of_happening g (MaintainsStore upkeep) old new = causes_of_forced (g.backing old.store) (g.backing new.store)

-- a beginning is told as begun, or refused
abbrev pub AnswersBeginning : Answer → Type 0
AnswersBeginning Begun = Unit {0}
AnswersBeginning (Refused fault) = Unit {0}
AnswersBeginning answer = ⊥

-- what was done for the store is told so, or refused
abbrev pub AnswersUpkeep : Upkeep → Answer → Type 0
AnswersUpkeep Forces (Forced count) = Unit {0}
AnswersUpkeep Flushes (Flushed block) = Unit {0}
AnswersUpkeep Checkpoints (Checkpointed count) = Unit {0}
AnswersUpkeep upkeep (Refused fault) = Unit {0}
AnswersUpkeep upkeep answer = ⊥

-- what a move of a call may answer, by what the session runs before and after
abbrev pub AnswersMove : Move → Option Op → Option Op → Answer → Type 0
AnswersMove Steps before after answer = AnswersStep before after answer
AnswersMove Takes before after answer = AnswersNext before answer
AnswersMove GivesUp before after answer = AnswersEnd before answer

-- what an event may answer
abbrev pub AnswersEvent : Kind → Answer → List (Option Op) → List (Option Op) → Type 0
AnswersEvent (BeginsCall session request) answer old new = AnswersBeginning answer
AnswersEvent (MovesCall session move) answer old new = AnswersMove move (slot_of old session) (slot_of new session) answer
AnswersEvent (MaintainsStore upkeep) answer old new = AnswersUpkeep upkeep answer

-- after a move of its call a session has one exactly if it had one, and the answer isn't the last of it
abbrev pub MoveRunsUntilLast : Kind → Option Op → Option Op → Answer → Type 0
MoveRunsUntilLast (MovesCall session move) before after answer = RunsUntilLast before after answer
MoveRunsUntilLast kind before after answer = Unit {0}

-- what the answer of a step says
abbrev pub EventAnswerMeans : Kind → Bool → State → State → Option Op → Option Op → Answer → Type 0
EventAnswerMeans (MovesCall session Steps) is_stopped old new before after answer = StepAnswerMeans is_stopped old new before after answer
EventAnswerMeans kind is_stopped old new before after answer = Unit {0}

-- if the log failed before, this is refused with Stopped, whatever else is so
abbrev pub RefusesStopped : Bool → Answer → Type 0
RefusesStopped is_stopped answer = is_stopped ≡ true → answer ≡ Refused Stopped

-- on a stopped log every beginning, step, force, flush and checkpoint is refused with Stopped before all
-- else; the step of an insert whose entry is logged ends as added, with that fault
abbrev pub StopsFirst : Kind → Bool → Answer → List (Option Op) → Type 0
StopsFirst (BeginsCall session request) is_stopped answer slots = RefusesStopped is_stopped answer
StopsFirst (MovesCall session Steps) is_stopped answer slots = is_stopped ≡ true → StoppedAnswersFirst (slot_add (slot_of slots session)) answer
StopsFirst (MovesCall session Takes) is_stopped answer slots = Unit {0}
StopsFirst (MovesCall session GivesUp) is_stopped answer slots = Unit {0}
StopsFirst (MaintainsStore upkeep) is_stopped answer slots = RefusesStopped is_stopped answer

-- neither the pages, calls and holdings of the store nor a slot are changed
pub record IsSameStore {S : Type 0} (g : Ghosts S) (old new : StoreAndSlots S) : Type 0 where
  pub state_is : g.state new.store ≡ g.state old.store
  pub slots_is : new.slots ≡ old.slots

-- a refused event changes nothing, except that a refused step ends its call, unless it was refused with
-- Blocked or NoSession
abbrev pub RefusalKeeps : {S : Type 0} → Ghosts S → Kind → Answer → StoreAndSlots S → StoreAndSlots S → Type 0
RefusalKeeps g (MovesCall session Steps) answer old new =
    RefusalChangesNothing (g.state old.store) (g.state new.store) (slot_of old.slots session) (slot_of new.slots session) answer
RefusalKeeps g kind answer old new = (fault : Fault) → answer ≡ Refused fault → IsSameStore g old new

-- while no act is done, a step that ends no call leaves less to do, and so does an entry that is given
abbrev pub IsLessLeft : Bool → Kind → Answer → State → State → Option Op → Option Op → Type 0
IsLessLeft honest (MovesCall session Steps) answer old new before after = honest ≡ true → StepHasLessLeft old new before after answer
IsLessLeft honest (MovesCall session Takes) answer old new before after = GivesLess before after answer
IsLessLeft honest kind answer old new before after = Unit {0}

-- after an `End` the session runs nothing, and what its call held is let go; nothing of the log, and no count
-- of calls, is changed
pub record IsEnded {S : Type 0} (g : Ghosts S) (session : ℕ) (old new : StoreAndSlots S) : Type 0 where
  pub over : slot_of new.slots session ≡ None
  pub backing : g.backing new.store ≡ g.backing old.store
  pub begun : (g.state new.store).begun ≡ (g.state old.store).begun
  pub state_is : g.state new.store ≡ after_slot (slot_of old.slots session) (g.state old.store)

-- what is so after an event: an end leaves its session nothing to run; asking for the next entry leaves the
-- pages, calls and holdings of the store as they were
abbrev pub IsLeftByEvent : {S : Type 0} → Ghosts S → Kind → StoreAndSlots S → StoreAndSlots S → Type 0
IsLeftByEvent g (MovesCall session GivesUp) old new = IsEnded g session old new
IsLeftByEvent g (MovesCall session Takes) old new = g.state new.store ≡ g.state old.store
IsLeftByEvent g kind old new = Unit {0}

-- what the other sessions run is as it was
abbrev pub OthersStay : ℕ → List (Option Op) → List (Option Op) → Type 0
OthersStay session old new = (other : ℕ) → other ≢ session → slice_get new other ≡ slice_get old other

-- the session of an event
abbrev pub session_at : Kind → ℕ
session_at (BeginsCall session request) = session
session_at (MovesCall session move) = session
session_at (MaintainsStore upkeep) = 0

-- an event does one act at most, and with none the pages are as they were; so are format and frames
pub record DoesOneAct (old new : State) : Type 0 where
  pub acts : (new.acts ≡ old.acts) ⊎ (new.acts ≡ suc old.acts)
  pub quiet : new.acts ≡ old.acts → new.pages ≡ old.pages
  pub format : new.format ≡ old.format
  pub frames : new.frames ≡ old.frames

-- only a step of an insert, of a bulk delete or of a cleanup does an act
abbrev pub OnlyStepsAct : Kind → Option Op → State → State → Type 0
OnlyStepsAct (MovesCall session Steps) slot old new = OnlyWritersAct slot old new
OnlyStepsAct kind slot old new = new.acts ≡ old.acts

-- a beginning that is refused has its cause
abbrev pub BeginningIsCaused : {S : Type 0} → Ghosts S → Kind → Answer → StoreAndSlots S → Type 0
BeginningIsCaused g (BeginsCall session request) answer old =
    IsCaused (causes_of_begun_at g old.store (one_vacuums old.slots) old.sets request (slice_get old.slots session)) answer
BeginningIsCaused g kind answer old = Unit {0}

-- a beginning is refused for the first that stands in its way: no call begins, there is no such session or
-- set, the session has a call; and then, if it asks a vacuum, that one runs
pub record IsRefusedInOrder {S : Type 0} (g : Ghosts S) (session : ℕ) (request : Request) (answer : Answer) (old : StoreAndSlots S) : Type 0 where
  pub unfound : (fault : Fault)
      → session_to_begin (no_call_begins (g.state old.store) (g.backing old.store)) (is_of_sets old.sets request) (slice_get old.slots session) session ≡ Err fault
      → answer ≡ Refused fault
  pub excluded : session_to_begin (no_call_begins (g.state old.store) (g.backing old.store)) (is_of_sets old.sets request) (slice_get old.slots session) session ≡ Ok session
      → asks_vacuum request ≡ true → one_vacuums old.slots ≡ true → answer ≡ Refused VacuumRunning

-- ... of an event that begins no call nothing is said
abbrev pub RefusesInOrder : {S : Type 0} → Ghosts S → Kind → Answer → StoreAndSlots S → Type 0
RefusesInOrder g (BeginsCall session request) answer old = IsRefusedInOrder g session request answer old
RefusesInOrder g kind answer old = Unit {0}

-- a call that has begun is what was asked for, before its first step
abbrev pub StartsFresh : Kind → Answer → Option Op → Type 0
StartsFresh (BeginsCall session request) answer after = answer ≡ Begun → after ≡ Some (op_before session request)
StartsFresh kind answer after = Unit {0}

-- a call that has begun has the count of calls begun before it for its start number, and a bulk delete the
-- next cycle number; nothing else of the store is changed
abbrev pub GetsNumber : Kind → Answer → State → State → Type 0
GetsNumber (BeginsCall session request) answer old new = answer ≡ Begun → new ≡ after_request (asks_bulk_delete request) session old
GetsNumber kind answer old new = Unit {0}

-- after a move of its call a session runs nothing, or a call of the same kind
abbrev pub MoveRunsOn : Kind → Option Op → Option Op → Type 0
MoveRunsOn (MovesCall session move) before after = RunsOn before after
MoveRunsOn kind before after = Unit {0}

-- asking for the next entry leaves a scan where it stands
abbrev pub MoveStands : Kind → Option Op → Option Op → Type 0
MoveStands (MovesCall session Takes) before after = leaf_of after ≡ leaf_of before
MoveStands kind before after = Unit {0}

-- what holds of an event whatever the pages are
pub record EventAlways {S : Type 0} (g : Ghosts S) (kind : Kind) (answer : Answer) (old new : StoreAndSlots S) : Type 0 where
  -- it answers what its kind may
  pub answers : AnswersEvent kind answer old.slots new.slots
  -- after a move of its call its session runs one exactly if it ran one, and the answer isn't the last of it
  pub until_last : MoveRunsUntilLast kind (slot_of old.slots (session_at kind)) (slot_of new.slots (session_at kind)) answer
  -- asking for the next entry leaves its session's scan where it stands
  pub stands : MoveStands kind (slot_of old.slots (session_at kind)) (slot_of new.slots (session_at kind))
  -- what the answer of a step says
  pub tells : EventAnswerMeans kind (g.backing old.store).stopped (g.state old.store) (g.state new.store) (slot_of old.slots (session_at kind)) (slot_of new.slots (session_at kind)) answer
  -- a refusal changes nothing, except that a refused step ends its call, unless it was refused with Blocked
  -- or NoSession
  pub refused : RefusalKeeps g kind answer old new
  -- on a log that has failed, a beginning, a step, a force, a flush and a checkpoint are refused for that
  -- before all else
  pub stopped : StopsFirst kind (g.backing old.store).stopped answer old.slots
  -- while no act is done, a step that goes on and an entry that is given leave less to do, over a device that
  -- keeps its model
  pub less : IsLessLeft (g.backing new.store).honest kind answer (g.state old.store) (g.state new.store) (slot_of old.slots (session_at kind)) (slot_of new.slots (session_at kind))
  -- it does one act at most
  pub kept : DoesOneAct (g.state old.store) (g.state new.store)
  -- only a step of an insert, of a bulk delete or of a cleanup does one
  pub calm : OnlyStepsAct kind (slot_of old.slots (session_at kind)) (g.state old.store) (g.state new.store)
  -- no other session's slot is changed
  pub others : (session : ℕ) → IsOfSession session kind → OthersStay session old.slots new.slots
  -- after an end its session runs nothing, and the log is as it was
  pub left : IsLeftByEvent g kind old new
  -- a beginning that is refused has its cause
  pub causes : BeginningIsCaused g kind answer old
  -- ... the first of these that is so: the log has failed or the count of calls is at its end; there is no
  -- such session or set; the session has a call; another vacuum runs
  pub order : RefusesInOrder g kind answer old
  -- what has begun is the call that was asked for, before its first step
  pub fresh : StartsFresh kind answer (slot_of new.slots (session_at kind))
  -- ... which has got its start number
  pub numbered : GetsNumber kind answer (g.state old.store) (g.state new.store)
  -- a force and a checkpoint tell how many actions are durable, and these are; a refusal of them, and of a
  -- flush, has its cause
  pub upkept : UpkeepIsKept g kind answer old.store new.store
  -- what a force, a flush and a checkpoint do to the pages that wait to be written, and to the log's room
  pub keeps_up : UpkeepMeans g kind answer old.store new.store
  -- after a move of its call a session runs nothing, or a call of the same kind
  pub runs_on : MoveRunsOn kind (slot_of old.slots (session_at kind)) (slot_of new.slots (session_at kind))

-- a call that was due is due after as many steps
abbrev pub StaysAsDue : State → State → Option Op → Option Op → Type 0
StaysAsDue old new before after = (steps : ℕ) → IsDueIn old before steps → IsDueIn new after steps

-- what is followed of a running call, from one step to the next: it fits a history; and while no action is
-- logged, no more is left to do than before, whether it was due or not
pub record StepIsFollowed (sets : DeadSets) (old new : State) (before after : Option Op) (answer : Answer) : Type 0 where
  pub fitted : FittedStepFollows old new before after answer
  pub each : EachStepFollows sets old new before after answer
  pub no_more : NoMoreIsLeft old new before after

-- what is followed of a session's call, by its event: a beginning says after how many steps it is due, each
-- step follows on, and asking for the next entry costs no step
abbrev pub CallIsFollowed : Kind → DeadSets → Answer → State → State → Option Op → Option Op → Type 0
CallIsFollowed (BeginsCall session request) sets answer old new before after = answer ≡ Begun → HasSteps old new request after
CallIsFollowed (MovesCall session Steps) sets answer old new before after = StepIsFollowed sets old new before after answer
CallIsFollowed (MovesCall session Takes) sets answer old new before after = StaysAsDue old new before after
CallIsFollowed (MovesCall session GivesUp) sets answer old new before after = Unit {0}
CallIsFollowed (MaintainsStore upkeep) sets answer old new before after = Unit {0}

-- a live leaf that another session has pinned stays one
abbrev pub KeepsPinnedLeaves : Kind → State → State → Type 0
KeepsPinnedLeaves kind old new =
    (session block : ℕ) (page : Page) → (IsOfSession session kind → ⊥) → IsLeafAt old.pages block page
    → has_pin (holding_of old.table session).pins block ≡ true → WasLeaf new.pages block

-- What an event leaves as it was: the format and the number of frames; and if it appends no action, the
-- pages. So an event of others that appends no action costs a call that is due no step.
pub record SameButForActs {S : Type 0} (g : Ghosts S) (kind : Kind) (old new : Moment S) : Type 0 where
  pub format : (g.state new.store).format ≡ (g.state old.store).format
  pub frames : (g.state new.store).frames ≡ (g.state old.store).frames
  pub pages : new.history ≡ old.history → (g.state new.store).pages ≡ (g.state old.store).pages
  pub due : new.history ≡ old.history → (session other : ℕ) → IsOfSession session kind → other ≢ session
      → StaysAsDue (g.state old.store) (g.state new.store) (slot_of old.slots other) (slot_of new.slots other)

-- at most one action is appended
pub record GrowsByOne (old new : List Action) : Type 0 where
  pub acts : List Action
  pub is : new ≡ old ++ acts
  pub few : length acts ≤ 1

-- What an event also leaves, beside what it means. Two of its sentences stand in no other word: a next and an
-- end append no action (`calm`), and what is durable stays so (`later`).
pub record EventAlso {S : Type 0} (g : Ghosts S) (start : Entry → Bool) (kind : Kind) (answer : Answer) (old new : Moment S) : Type 0 where
  -- what holds of it whatever the pages are
  pub always : EventAlways g kind answer (here_at old) (here_at new)
  -- what it does to the history and to the calls, step by step
  pub happens : Happens g start kind answer old new
  -- it appends one action at most
  pub grows : GrowsByOne old.history new.history
  -- why it is refused, as its operation tells it
  pub caused : IsCaused (causes_of_happening g kind (here_at old) (here_at new)) answer
  -- what is followed of its session's call
  pub followed : CallIsFollowed kind old.sets answer (g.state old.store) (g.state new.store) (slot_of old.slots (session_at kind)) (slot_of new.slots (session_at kind))
  -- a live leaf that another session has pinned stays one
  pub leaves : KeepsPinnedLeaves kind (g.state old.store) (g.state new.store)
  -- no low of a page that isn't deleted rises
  pub lows : NoLowRises (g.state old.store).pages (g.state new.store).pages
  -- the format and the number of frames are as they were; so are the pages, if it appends no action
  pub quiet : SameButForActs g kind old new
  -- a number that it answers as durable is
  pub durable : IsDurable (g.backing new.store).durable answer
  -- its store follows the one before, and no count goes back
  pub follows : g.follows old.store new.store
  pub later : IsLater (g.backing old.store) (g.backing new.store)
  -- what is known after it
  pub invariant : Invariant g start new
