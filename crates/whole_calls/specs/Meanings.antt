-- What is told of one session's call, by the history and the calls before and after.
use Rattle.std.specs.Prelude.{◌⊎◌, ◌≤◌, ◌+◌, ◌≡◌, ◌≢◌, ℕ, suc, Option, Some, None, Result, Ok, Err, List, [], ◌∷◌, ◌++◌, length, replicate, slice_set}
use Rattle.index_model.specs.Actions.{Effect, Add, Shape, Action}
use Rattle.index_model.specs.Calls.{Ask, AskInsert, AskScan, AskBulkDelete, AskCleanup, Ending, Added as EndsAdded, GivenUp, Failed, Call}
use Rattle.index_model.specs.Row.{Row}
use Rattle.index_model.specs.declared.fault.Fault.{Fault}
use Rattle.index_model.specs.declared.fault.Fault.TheVariants.{NoSession, Exists, KeyExists}
use Rattle.index_model.specs.declared.entry.Entry.{Entry}
use Rattle.index_model.specs.declared.format.Format.{Format}
use Rattle.page_action.specs.Room.{LogIsClosed}
use Rattle.page_action.specs.States.{Backing}
use Rattle.session_calls.specs.Ops.{asked_of}
use Rattle.session_calls.specs.TheoremCalls.{DeadSets, asked_by, acts_of, begun_call}
use Rattle.session_calls.specs.declared.op.Op.{Op}
use Rattle.session_calls.specs.Sessions.{AnswerMeans, MayDo, noted, ended}
use Rattle.session_calls.specs.declared.answer.Answer.{Answer}
use Rattle.session_calls.specs.declared.answer.Answer.TheVariants.{Begun, Going, Added, Ready, Done, Finished, Gave, Refused}
use Rattle.session_calls.specs.declared.request.Request.{Request}
use Rattle.schedule.specs.TheoremMoments.{Moment, IsRunningCall}
pub use Rattle.schedule.specs.CallLists.{with_one_call}
use Rattle.whole_calls.specs.declared.inserted.Inserted.{Inserted}

-- the history and the calls are as they were
pub record IsSameHistory {S : Type 0} (old new : Moment S) : Type 0 where
  pub history_is : new.history ≡ old.history
  pub calls_is : new.calls ≡ old.calls

-- what a call that was asked this may answer while it runs
abbrev pub MayAnswer : Ask → Answer → Type 0
MayAnswer ask Going = Unit {0}
MayAnswer ask (Refused fault) = Unit {0}
MayAnswer (AskInsert e) (Added action unfinished) = Unit {0}
MayAnswer (AskScan range) (Ready count) = Unit {0}
MayAnswer (AskScan range) (Gave entry) = Unit {0}
MayAnswer (AskScan range) Done = Unit {0}
MayAnswer (AskBulkDelete dead) (Finished stats) = Unit {0}
MayAnswer AskCleanup (Finished stats) = Unit {0}
MayAnswer ask answer = ⊥

-- what the call may come to that a session runs, whatever the pages are; if it runs none, only a refusal
abbrev pub MayComeTo : DeadSets → Option Op → Answer → Type 0
MayComeTo sets None (Refused fault) = Unit {0}
MayComeTo sets None answer = ⊥
MayComeTo sets (Some op) answer = MayAnswer (asked_of sets op) answer

-- the actions of these effects, by the call of this number
abbrev pub acts_by : ℕ → List Effect → List Action
acts_by number [] = []
acts_by number (effect ∷ effects) = (record { by = number; effect = effect }) ∷ acts_by number effects

-- the call after events of these effects, with `count` actions before the first: its Add is noted
abbrev pub noted_after : Call → ℕ → List Effect → Call
noted_after call count [] = call
noted_after call count (effect ∷ effects) = noted_after (noted call count (Some effect)) (suc count) effects

-- each of these effects, one after the other, is one that the call was asked for
abbrev pub AreOwnEffects : Call → ℕ → List Effect → Type 0
AreOwnEffects call count [] = Unit {0}
AreOwnEffects call count (effect ∷ effects) =
    MayDo call.ask call.added effect × AreOwnEffects (noted call count (Some effect)) (suc count) effects

-- an action of this effect, if there is one, is one that the call was asked for
abbrev pub IsOwnEffect : Call → Option Effect → Type 0
IsOwnEffect call None = Unit {0}
IsOwnEffect call (Some effect) = MayDo call.ask call.added effect

-- the call of this number has done these effects, which it was asked for, and still runs; no other call is
-- changed
pub record HasContinued {S : Type 0} (number : ℕ) (call : Call) (effects : List Effect) (old new : Moment S) : Type 0 where
  pub own : AreOwnEffects call (length old.history) effects
  pub history_is : new.history ≡ old.history ++ acts_by number effects
  pub calls_is : new.calls ≡ slice_set old.calls number (noted_after call (length old.history) effects)

-- the call of this number has done some effects, and then one step with this answer, with one more effect or
-- none; no other call is changed
pub record CallAnswers {S : Type 0} (number : ℕ) (call : Call) (answer : Answer) (old new : Moment S) : Type 0 where
  pub before : List Effect
  pub last : Option Effect
  pub after : Call
  pub may : MayAnswer call.ask answer
  pub own : AreOwnEffects call (length old.history) before
  pub own_last : IsOwnEffect (noted_after call (length old.history) before) last
  pub told : AnswerMeans answer (length (old.history ++ acts_by number before)) last (noted_after call (length old.history) before) after
  pub history_is : new.history ≡ (old.history ++ acts_by number before) ++ acts_of number last
  pub calls_is : new.calls ≡ slice_set old.calls number after

-- nothing is told, and what was refused was not refused because the entry or its key was there
pub record NothingIsDone {S : Type 0} (fault : Fault) (old new : Moment S) : Type 0 where
  pub silent : IsSameHistory old new
  pub not_exists : fault ≢ Exists
  pub not_key_exists : (row : Row) → fault ≢ KeyExists row

-- the call of this number has gone on so far, and still runs; the room for a further step was refused, not
-- because the entry or its key was there
pub record IsHeldUp {S : Type 0} (number : ℕ) (call : Call) (answer : Answer) (old new : Moment S) : Type 0 where
  pub fault : Fault
  pub refused : answer ≡ Refused fault
  pub before : List Effect
  pub gone : HasContinued number call before old new
  pub not_exists : fault ≢ Exists
  pub not_key_exists : (row : Row) → fault ≢ KeyExists row

-- steps were made, the last with this answer; or the room for a further one could not be made
abbrev pub StepMeans : {S : Type 0} → ℕ → Call → Answer → Moment S → Moment S → Type 0
StepMeans number call answer old new = CallAnswers number call answer old new ⊎ IsHeldUp number call answer old new

-- ... of the session's running call
abbrev pub SessionStepMeans : {S : Type 0} → ℕ → Answer → Moment S → Moment S → Type 0
SessionStepMeans session answer old new = (number : ℕ) (call : Call) → IsRunningCall old.calls session number call → StepMeans number call answer old new

-- the session's running call, if it has one, has gone on so far
abbrev pub HasRunSoFar : {S : Type 0} → ℕ → Moment S → Moment S → Type 0
HasRunSoFar session old new = (number : ℕ) (call : Call) → IsRunningCall old.calls session number call → (effects : List Effect) × HasContinued number call effects old new

-- the session has no running call
abbrev pub HasNone : {S : Type 0} → ℕ → Moment S → Type 0
HasNone session now = (number : ℕ) (call : Call) → IsRunningCall now.calls session number call → ⊥

-- a call is begun: it gets the next number
pub record HasBegun {S : Type 0} (session : ℕ) (request : Request) (old new : Moment S) : Type 0 where
  pub history_is : new.history ≡ old.history
  pub calls_is : new.calls ≡ old.calls ++ begun_call session (asked_by old.sets request) (length old.history) ∷ []

-- whether a call has begun, by the answer
abbrev pub begun_of : Answer → Result (Unit {0}) Fault
begun_of Begun = Ok tt
begun_of (Refused fault) = Err fault
begun_of answer = Err NoSession

-- a call is begun, or nothing is told
abbrev pub BeginMeans : {S : Type 0} → ℕ → Request → Result (Unit {0}) Fault → Moment S → Moment S → Type 0
BeginMeans session request (Ok begun) old new = HasBegun session request old new
BeginMeans session request (Err fault) old new = NothingIsDone fault old new

-- what a beginning came to
abbrev pub begin_outcome : Result (Unit {0}) Fault → Option Answer
begin_outcome (Ok begun) = Some Begun
begin_outcome (Err fault) = Some (Refused fault)

-- the session's call is given up, if it still runs: no action is appended, and no other call is changed
pub record EndMeans {S : Type 0} (session : ℕ) (old new : Moment S) : Type 0 where
  pub history_is : new.history ≡ old.history
  pub calls_is : HasNone session old → new.calls ≡ old.calls
  pub ended_is : (number : ℕ) (call : Call) → IsRunningCall old.calls session number call → new.calls ≡ slice_set old.calls number (ended call GivenUp (length old.history))

-- the call that a request begins now
abbrev pub first_call : {S : Type 0} → ℕ → Request → Moment S → Call
first_call session request now = begun_call session (asked_by now.sets request) (length now.history)

-- the call that is begun now comes to this
abbrev pub NextMeans : {S : Type 0} → ℕ → Request → Answer → Moment S → Moment S → Type 0
NextMeans session request answer old new =
    StepMeans (length old.calls) (first_call session request old) answer (with_one_call old (first_call session request old)) new

-- what an insert answers to this fault: if its entry is added, the fault stands in `unfinished`; else it is
-- refused
abbrev pub outcome_at_fault : Option ℕ → Fault → Result Inserted Fault
outcome_at_fault (Some action) fault = Ok (record { action = action; unfinished = Some fault })
outcome_at_fault None fault = Err fault

-- what an insert answers that came to this, by the number of its Add, if it still runs and has one
abbrev pub outcome_of : Answer → Option ℕ → Result Inserted Fault
outcome_of (Added action unfinished) added = Ok (record { action = action; unfinished = unfinished })
outcome_of (Refused fault) added = outcome_at_fault added fault
outcome_of answer added = Err NoSession

-- `count` changes of the pages' shape, by the call of this number
abbrev pub shapes : ℕ → ℕ → List Action
shapes number count = replicate count (record { by = number; effect = Shape })

-- the insert's call with this Add, begun after `count` actions and ended so after `until` actions
abbrev pub inserted_call : ℕ → Entry → ℕ → ℕ → Ending → ℕ → Call
inserted_call session entry count action ending until =
    ended (record (begun_call session (AskInsert entry) count) { added = Some action }) ending until

-- how the call of an insert has ended: with its answer; or it was given up, because of the fault in
-- `unfinished`
abbrev pub IsEndOf : Inserted → Ending → Type 0
IsEndOf inserted ending = (ending ≡ EndsAdded inserted.action inserted.unfinished) ⊎ ((ending ≡ GivenUp) × (inserted.unfinished ≢ None))

-- One action of the history adds the entry; it is that of this insert, whose call is over. Before and after
-- it the insert has changed the shape of the pages only.
pub record IsAddedNow {S : Type 0} (session : ℕ) (entry : Entry) (inserted : Inserted) (old new : Moment S) : Type 0 where
  pub before : ℕ
  pub shapes_after : ℕ
  pub ending : Ending
  pub history_is : new.history ≡ old.history ++ shapes (length old.calls) before ++ (record { by = length old.calls; effect = Add entry }) ∷ shapes (length old.calls) shapes_after
  pub action_is : inserted.action ≡ suc (before + length old.history)
  pub end_is : IsEndOf inserted ending
  pub calls_is : new.calls ≡ old.calls ++ inserted_call session entry (length old.history) inserted.action ending (length new.history) ∷ []

-- the insert has changed the shape of the pages only; if the entry or its key was there, the call has
-- ended with this
pub record IsNotAdded {S : Type 0} (session : ℕ) (entry : Entry) (fault : Fault) (old new : Moment S) : Type 0 where
  pub shaped : ℕ
  pub history_is : new.history ≡ old.history ++ shapes (length old.calls) shaped
  pub exists_is : fault ≡ Exists → new.calls ≡ old.calls ++ ended (begun_call session (AskInsert entry) (length old.history)) (Failed Exists) (length new.history) ∷ []
  pub key_exists_is : (row : Row) → fault ≡ KeyExists row
      → new.calls ≡ old.calls ++ ended (begun_call session (AskInsert entry) (length old.history)) (Failed (KeyExists row)) (length new.history) ∷ []

-- the entry is added, or no entry is
abbrev pub InsertMeans : {S : Type 0} → ℕ → Entry → Result Inserted Fault → Moment S → Moment S → Type 0
InsertMeans session entry (Ok inserted) old new = IsAddedNow session entry inserted old new
InsertMeans session entry (Err fault) old new = IsNotAdded session entry fault old new

-- what making room came to, if it was refused
abbrev pub room_outcome : Result (Unit {0}) Fault → Option Answer
room_outcome (Ok made) = None
room_outcome (Err fault) = Some (Refused fault)

-- there is room for `least` images, or the log is empty
abbrev pub RoomIsMade : ℕ → Format → Backing → Type 0
RoomIsMade least format backing = (least ≤ backing.room) ⊎ LogIsClosed format backing
