-- A call that is begun, stepped and given up: what is told of it, why it is refused, and what is counted, by
-- the moment before and the one after.
use Rattle.std.specs.Prelude.{◌≡◌, ◌⊎◌, ℕ, Bool, false, Option, None, Some, Result, Ok, slice_get}
use Rattle.index_model.specs.Calls.{Call}
use Rattle.index_model.specs.Faults.{HasCause}
use Rattle.index_model.specs.declared.entry.Entry.{Entry}
use Rattle.index_model.specs.declared.fault.Fault.{Fault}
use Rattle.index_model.specs.declared.stats.VacuumStats.{VacuumStats}
use Rattle.page_action.specs.States.{Continues}
use Rattle.page_action.specs.declared.page_store.PageStore.{Ghosts}
use Rattle.session_calls.specs.TheoremCalls.{asked_by}
use Rattle.session_calls.specs.Ops.{IsCaused}
use Rattle.session_calls.specs.Sessions.{start_number, slot_add}
use Rattle.session_calls.specs.declared.answer.Answer.{Answer}
use Rattle.session_calls.specs.declared.answer.Answer.TheVariants.{Going, Finished, Refused}
use Rattle.session_calls.specs.declared.request.Request.{Request}
use Rattle.schedule.specs.TheoremMoments.{Moment, IsRunningCall}
use Rattle.schedule.specs.TheoremRuns.{Fits}
use Rattle.session_calls.specs.Slots.{slot_of, one_vacuums}
use Rattle.schedule.specs.MomentInvariants.{here_at}
use Rattle.schedule.specs.Events.{OthersStay, causes_of_begun_at}
use Rattle.whole_calls.specs.Giving.{SessionScanMeans, ScanIsUnanswered}
use Rattle.whole_calls.specs.Refusing.{causes_of_asked, is_full_vacuum, CallIsCaused, ScanIsCaused}
use Rattle.whole_calls.specs.Spending.{TakesFewer}
use Rattle.whole_calls.specs.Vacuuming.{Followed, IsCountedAs, StatsCountAs, StatsCountFor, CountsThrough, BeginsToCount, FollowsFrom}
use Rattle.whole_calls.specs.Meanings.{IsSameHistory, SessionStepMeans, HasRunSoFar, HasNone, BeginMeans, NextMeans, NothingIsDone, EndMeans}

-- the room for an act is made, or not: nothing is told, and neither pages nor slots are changed
pub record RoomMeans {S : Type 0} (g : Ghosts S) (old new : Moment S) : Type 0 where
  pub silent : IsSameHistory old new
  pub state_is : g.state new.store ≡ g.state old.store
  pub slots_are : new.slots ≡ old.slots
  pub sets_are : new.sets ≡ old.sets

-- the one store comes after the other, and what other sessions run is as it was
pub record Lasts {S : Type 0} (g : Ghosts S) (session : ℕ) (old new : Moment S) : Type 0 where
  pub steps : Continues g.follows old.store new.store
  pub others : OthersStay session old.slots new.slots

-- the session's running call that finishes tells how many pages there are
abbrev pub FinishCounts : {S : Type 0} → Ghosts S → ℕ → Answer → Moment S → Moment S → Type 0
FinishCounts g session answer old new =
    (number : ℕ) (call : Call) → IsRunningCall old.calls session number call → (stats : VacuumStats) → answer ≡ Finished stats → StatsCountFor call.ask (g.state new.store) stats

-- A step of the session's call, or the refusal of the room for it. It says what the step means, why it is
-- refused, and what is counted. If the step goes on, fewer steps are left, and each running call keeps its
-- start number. If it finishes, it says what the statistics are, and the session runs nothing then.
pub record StepIsRun {S : Type 0} (g : Ghosts S) (session least_room : ℕ) (answer : Answer) (old new : Moment S) : Type 0 where
  pub told : SessionStepMeans session answer old new
  pub caused : CallIsCaused g session least_room (is_full_vacuum (slot_of old.slots session)) answer old new
  pub counts : (what : Followed) → CountsThrough what old.sets (g.state old.store) (g.state new.store) (slot_of old.slots session) (slot_of new.slots session) answer
  pub fewer : TakesFewer (g.state old.store) (g.state new.store) (slot_of old.slots session) (slot_of new.slots session) answer
  pub numbers : answer ≡ Going → (g.state new.store).running ≡ (g.state old.store).running
  pub stats : FinishCounts g session answer old new
  pub over : (stats : VacuumStats) → answer ≡ Finished stats → slot_of new.slots session ≡ None

-- the session's call has gone on so far, and has counted on; each running call has its start number still
pub record HasReached {S : Type 0} (g : Ghosts S) (session : ℕ) (old new : Moment S) : Type 0 where
  pub lasts : Lasts g session old new
  pub sets_are : new.sets ≡ old.sets
  pub format_is : (g.state new.store).format ≡ (g.state old.store).format
  pub numbers : (g.state new.store).running ≡ (g.state old.store).running
  pub far : HasRunSoFar session old new
  pub counted : (what : Followed) → IsCountedAs what old.sets (g.state old.store) (slot_of old.slots session) → IsCountedAs what old.sets (g.state new.store) (slot_of new.slots session)

-- steps that went on, up to a moment that fits, and the last one
pub record FinishIsRun {S : Type 0} (g : Ghosts S) (session least_room : ℕ) (answer : Answer) (start : Entry → Bool) (old new : Moment S) : Type 0 where
  pub last : Moment S
  pub fits : Fits g start last
  pub gone : HasReached g session old last
  pub lasts : Lasts g session last new
  pub step : StepIsRun g session least_room answer last new

-- a call is begun, or nothing is told; what has begun has the count of calls begun before it for its start
-- number; and what a vacuum follows that has begun
pub record BeginIsRun {S : Type 0} (g : Ghosts S) (session : ℕ) (request : Request) (result : Result (Unit {0}) Fault) (old new : Moment S) : Type 0 where
  pub told : BeginMeans session request result old new
  pub number : result ≡ Ok tt → start_number (g.state new.store) session ≡ Some (g.state old.store).begun
  pub counts : (what : Followed) → FollowsFrom what request (g.state old.store) session → BeginsToCount what new.sets (g.state new.store) (slot_of new.slots session) result

-- the call was not begun
pub record NotRun {S : Type 0} (g : Ghosts S) (session : ℕ) (request : Request) (answer : Answer) (added : Option ℕ) (old new : Moment S) : Type 0 where
  pub fault : Fault
  pub refused : answer ≡ Refused fault
  pub none : added ≡ None
  pub told : NothingIsDone fault old new
  pub cause : HasCause (causes_of_begun_at g old.store (one_vacuums old.slots) old.sets request (slice_get old.slots session)) fault

-- The call was begun in a session with none, came to this answer, and was given up if it still ran. This was
-- its Add then. It says why the call was refused, and what is counted and answered at its end.
pub record HasCompleted {S : Type 0} (g : Ghosts S) (session least_room : ℕ) (request : Request) (answer : Answer) (added : Option ℕ) (start : Entry → Bool) (old new : Moment S) : Type 0 where
  pub here : Moment S
  pub fits : Fits g start here
  pub free : HasNone session old
  pub told : NextMeans session request answer old here
  pub add_is : slot_add (slot_of here.slots session) ≡ added
  pub end : EndMeans session here new
  pub caused : IsCaused (causes_of_asked g session least_room (Some (g.state old.store).begun) false (asked_by old.sets request) (here_at old) new.store) answer
  pub counts : (what : Followed) (stats : VacuumStats) → FollowsFrom what request (g.state old.store) session → answer ≡ Finished stats → StatsCountAs what (g.state new.store) (Ok stats)
  pub stats : (stats : VacuumStats) → answer ≡ Finished stats → StatsCountFor (asked_by old.sets request) (g.state new.store) stats

-- the one or the other
abbrev pub RequestIsRun : {S : Type 0} → Ghosts S → ℕ → ℕ → Request → Answer → Option ℕ → (Entry → Bool) → Moment S → Moment S → Type 0
RequestIsRun g session least_room request answer added start old new =
    NotRun g session request answer added old new ⊎ HasCompleted g session least_room request answer added start old new

-- nothing is told of the session's scan so far
pub record ScanGivesNothing {S : Type 0} (g : Ghosts S) (session : ℕ) (old new : Moment S) : Type 0 where
  pub lasts : Lasts g session old new
  pub stays : ScanIsUnanswered session old new

-- after steps of the session's scan that told nothing, one with this answer, and why it is refused
pub record ScanIsRun {S : Type 0} (g : Ghosts S) (session least_room : ℕ) (answer : Answer) (old new : Moment S) : Type 0 where
  pub last : Moment S
  pub waits : ScanGivesNothing g session old last
  pub lasts : Lasts g session last new
  pub told : SessionScanMeans session answer last new
  pub caused : ScanIsCaused g session least_room answer last new
