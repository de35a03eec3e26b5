-- What is kept under the lock. Whatever history and calls fitted the world as it was handed in, there are
-- more actions and more calls that fit it now. The log of the sessions lists those of the calls that are
-- over.
use Rattle.std.specs.Prelude.{◌≡◌, ◌⊎◌, ℕ, ◌<◌, ◌≤◌, Bool, true, false, Option, Some, None, List, ◌++◌, length, slice_get}
use Rattle.index_model.specs.Actions.{Action}
use Rattle.index_model.specs.Calls.{Ask, Ending, Running, Added as EndsAdded, Finished as EndsFinished, Vacuumed, GivenUp, Failed, Call}
use Rattle.index_model.specs.Row.{Row}
use Rattle.index_model.specs.declared.entry.Entry.{Entry}
use Rattle.index_model.specs.declared.fault.Fault.{Fault}
use Rattle.index_model.specs.declared.fault.Fault.TheVariants.{Blocked}
use Rattle.page_action.specs.declared.page_store.PageStore.{Ghosts}
use Rattle.session_calls.specs.Slots.{has_call}
use Rattle.session_calls.specs.declared.answer.Answer.{Answer}
use Rattle.session_calls.specs.declared.answer.Answer.TheVariants.{Added, Done, Finished, Ended, Refused}
use Rattle.session_calls.specs.declared.op.Op.{Op}
use Rattle.session_calls.specs.declared.request.Request.{Request}
use Rattle.schedule.specs.Events.{AnswersUpkeep, kept_answer}
use Rattle.schedule.specs.TheoremCrashes.{KeepsHistory}
use Rattle.schedule.specs.TheoremKinds.{Upkeep}
use Rattle.schedule.specs.TheoremMoments.{StoreAndSlots, IsRunningCall, snapshot_of}
use Rattle.schedule.specs.TheoremRuns.{Fits}
use Rattle.whole_calls.specs.OneStep.{cut_short}
use Rattle.schedule.specs.Ready.{MayComeNext}
use Rattle.session_seats.specs.declared.call.CompletedCall.{CompletedCall}
use Rattle.session_seats.specs.declared.call.PendingCall.{PendingCall}
use Rattle.session_seats.specs.declared.job.Job.{Job}
use Rattle.session_seats.specs.declared.job.Job.TheVariants.{Bulk, Scan}
use Rattle.shared_world.specs.Handed.{Handed}
use Rattle.shared_world.specs.Jobs.{request_of, upkeep_of, IsWithinRoom}
use Rattle.shared_world.specs.Rows.{asked_with, rows_in, set_asked}

-- the ending that a last answer tells
abbrev pub ending_by : Answer → Ending
ending_by (Added action unfinished) = EndsAdded action unfinished
ending_by Done = EndsFinished
ending_by (Finished stats) = Vacuumed stats
ending_by Ended = GivenUp
ending_by (Refused fault) = Failed fault
ending_by answer = Running

-- the call was given up, since the checkpoint before a step was refused with the fault that is told
pub record WasCutShort (answer : Answer) (call : Call) : Type 0 where
  pub fault : Fault
  pub told : answer ≡ cut_short call.added fault
  pub ending : call.ending ≡ GivenUp

-- the call is what the log says of one that is over: what was asked, by its session, with its answer, all
-- that it gave, and its interval
pub record IsCallOf (ask : Ask) (r : CompletedCall) (call : Call) : Type 0 where
  pub ask_is : call.ask ≡ ask
  pub session_is : call.session ≡ r.session
  pub began_is : call.began ≡ r.from
  pub given_is : call.given ≡ r.given
  pub until_is : call.until ≡ r.to
  pub over : call.ending ≡ Running → ⊥
  pub ends : (call.ending ≡ ending_by r.answer) ⊎ WasCutShort r.answer call
  -- one that is blocked goes on, and isn't in the log for it
  pub settled : (block : ℕ) → r.answer ≡ Refused (Blocked block) → ⊥

-- A call with this Add was left by its session rightly. If the room of a scan was full, there was one match
-- more, beyond all that it gave, at some moment of its interval. Any other call has no Add.
abbrev pub WasLeft : (Entry → Bool) → List Action → Job → CompletedCall → Option ℕ → Type 0
WasLeft start history (Scan range room) r added = (length r.given < room) ⊎ MayComeNext start history range r.from r.to r.given
WasLeft start history job r added = added ≡ None

-- the set that a call was to remove which was asked this: its rows are these, and unless its place is spare
-- it is the one that was named among the sets that were handed in
pub record IsToRemove (handed : Handed) (job : Job) (rows : List Row) (set : Row → Bool) : Type 0 where
  pub rows_are : rows ≡ rows_in set
  pub stays : ((place : ℕ) → handed.spare ≡ Some place → job ≡ Bulk place → ⊥) → set ≡ set_asked handed.sets job

-- The log lists a call at a place, which was asked what the log says, to remove the rows that it says. A scan
-- gave no more than its room holds. If its session left the call, it did so rightly.
pub record ListsCall (start : Entry → Bool) (history : List Action) (handed : Handed) (calls : List Call) (at : List (Option ℕ)) (place : ℕ) (r : CompletedCall) : Type 0 where
  pub number : ℕ
  pub request : Request
  pub set : Row → Bool
  pub call : Call
  pub at_is : slice_get at place ≡ Some (Some number)
  pub asks : request_of r.asked ≡ Some request
  pub found : slice_get calls number ≡ Some call
  pub removes : IsToRemove handed r.asked r.rows set
  pub is : IsCallOf (asked_with set request) r call
  pub most : IsWithinRoom r.asked r.given
  pub left : r.answer ≡ Ended → WasLeft start history r.asked r call.added

-- it stands beside the calls: a commit or a checkpoint, which gives nothing, takes no action's time, answers
-- what its kind may, and tells a number of actions only if so many were there and are durable
pub record ListsUpkeep (durable : ℕ) (at : List (Option ℕ)) (place : ℕ) (r : CompletedCall) : Type 0 where
  pub upkeep : Upkeep
  pub at_is : slice_get at place ≡ Some None
  pub asks : upkeep_of r.asked ≡ Some upkeep
  pub answers : AnswersUpkeep upkeep r.answer
  pub none : length r.given ≡ 0
  pub still : r.to ≡ r.from
  pub kept : (count : ℕ) → kept_answer upkeep count ≡ Some r.answer → (count ≡ r.to) × (count ≤ durable)

-- the session's call runs, and was begun since the world was handed in
pub record RunsCall (handed : Handed) (first : ℕ) (calls : List Call) (session : ℕ) (p : PendingCall) : Type 0 where
  pub number : ℕ
  pub request : Request
  pub set : Row → Bool
  pub call : Call
  pub asks : request_of p.asked ≡ Some request
  pub own : first ≤ number
  pub is : IsRunningCall calls session number call
  pub removes : IsToRemove handed p.asked p.rows set
  pub ask_is : call.ask ≡ asked_with set request
  pub began_is : call.began ≡ p.from
  pub given_is : call.given ≡ p.given
  pub most : IsWithinRoom p.asked p.given

-- a running call of a session that has one pending
pub record IsPending (calls : List Call) (pending : List (Option PendingCall)) (number : ℕ) : Type 0 where
  pub call : Call
  pub running : PendingCall
  pub found : slice_get calls number ≡ Some call
  pub runs : call.ending ≡ Running
  pub waits : slice_get pending call.session ≡ Some (Some running)

-- a call that the log lists, or one that is pending
abbrev pub IsOurs : List Call → List (Option ℕ) → List (Option PendingCall) → ℕ → Type 0
IsOurs calls at pending number = ((place : ℕ) × (slice_get at place ≡ Some (Some number))) ⊎ IsPending calls pending number

-- where a running call stands in the log and among the actions
pub record IsSince (log : List CompletedCall) (count session seen from : ℕ) : Type 0 where
  pub seen_is : seen ≤ length log
  pub from_is : from ≤ count
  -- it comes after all that its session had before
  pub follows : (place : ℕ) (r : CompletedCall) → slice_get log place ≡ Some r → r.session ≡ session → (place < seen) × (r.to ≤ from)

-- where a call that is over stands
pub record IsInTime (count place : ℕ) (r : CompletedCall) : Type 0 where
  pub seen_is : r.seen ≤ place
  pub from_is : r.from ≤ r.to
  pub to_is : r.to ≤ count

-- What fitted the world as it was handed in goes on to what fits it now. `KeptThen` says that the history was
-- kept then.
pub record KeepsFitting {S : Type 0} (g : Ghosts S) (handed : Handed) (contents : Entry → Bool) (old_history : List Action) (old_calls : List Call)
    (KeptThen : Type 0) (now : StoreAndSlots S) (start : ℕ) (pending : List (Option PendingCall)) (log : List CompletedCall) : Type 0 where
  pub history : List Action
  pub calls : List Call
  -- the number of the call that the log lists at each place
  pub at : List (Option ℕ)
  pub start_is : start ≡ length old_history
  pub grows : (more : List Action) × (history ≡ old_history ++ more)
  pub fit : Fits g contents (snapshot_of now history calls)
  -- if the history was kept over crashes, it is
  pub safe : KeptThen → KeepsHistory g contents (snapshot_of now history calls)
  -- the calls that were there are as they were; each other one is listed, or runs
  pub same : (number : ℕ) (call : Call) → slice_get old_calls number ≡ Some call → slice_get calls number ≡ Some call
  pub ours : (number : ℕ) → length old_calls ≤ number → number < length calls → IsOurs calls at pending number
  -- the actions since the start are those of these calls
  pub owned : (place : ℕ) (action : Action) → length old_history ≤ place → slice_get history place ≡ Some action → (length old_calls ≤ action.by) × (action.by < length calls)
  -- the log lists calls, commits and checkpoints, and no call twice
  pub long : length at ≡ length log
  pub listed : (place : ℕ) (r : CompletedCall) → slice_get log place ≡ Some r → ListsCall contents history handed calls at place r ⊎ ListsUpkeep (g.backing now.store).durable at place r
  pub once : (p q number : ℕ) → slice_get at p ≡ Some (Some number) → slice_get at q ≡ Some (Some number) → p ≡ q
  -- each pending call runs
  pub runs : (session : ℕ) (p : PendingCall) → slice_get pending session ≡ Some (Some p) → RunsCall handed (length old_calls) calls session p
  pub since : (session : ℕ) (p : PendingCall) → slice_get pending session ≡ Some (Some p) → IsSince log (length history) session p.seen p.from
  -- of one session's calls each lies after the one before
  pub follows : (p q : ℕ) (r t : CompletedCall) → p < q → slice_get log p ≡ Some r → slice_get log q ≡ Some t → r.session ≡ t.session → (p < t.seen) × (r.to ≤ t.from)
  pub in_time : (place : ℕ) (r : CompletedCall) → slice_get log place ≡ Some r → IsInTime (length history) place r

-- as long as the device kept its model, of whatever fitted the world as it was handed in
abbrev pub KeepsAll : {S : Type 0} → Ghosts S → Handed → ((Entry → Bool) → List Action → List Call → Type 0)
    → ((Entry → Bool) → List Action → List Call → Type 0) → StoreAndSlots S → ℕ → List (Option PendingCall) → List CompletedCall → Type 0
KeepsAll g handed stood kept_then now start pending log =
    (g.backing now.store).honest ≡ true → (contents : Entry → Bool) (history : List Action) (calls : List Call) → stood contents history calls
    → KeepsFitting g handed contents history calls (kept_then contents history calls) now start pending log

-- the sessions that have a call are those that are pending
pub record MatchesPending (slots : List (Option Op)) (pending : List (Option PendingCall)) : Type 0 where
  pub runs : (session : ℕ) (p : PendingCall) → slice_get pending session ≡ Some (Some p) → has_call slots session ≡ true
  pub rests : (session : ℕ) → slice_get pending session ≡ Some None → has_call slots session ≡ false
  -- beyond the seats' there is none
  pub beyond : (session : ℕ) → length pending ≤ session → has_call slots session ≡ false
