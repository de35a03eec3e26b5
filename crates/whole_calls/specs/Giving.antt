-- What a scan gives, and what is told of it then.
use Rattle.std.specs.Prelude.{◌≡◌, ◌≢◌, ℕ, ◌<◌, Option, Some, None, Result, Ok, Err, length, slice_set}
use Rattle.index_model.specs.Calls.{AskScan, Call, Finished as EndsFinished}
use Rattle.index_model.specs.declared.entry.Entry.{Entry}
use Rattle.index_model.specs.declared.fault.Fault.{Fault}
use Rattle.index_model.specs.declared.range.Range.{Range}
use Rattle.index_model.specs.declared.fault.Fault.TheVariants.{NoSession}
use Rattle.page_action.specs.States.{State}
use Rattle.session_calls.specs.Sessions.{work_in, given_one, ended}
use Rattle.session_calls.specs.declared.answer.Answer.{Answer}
use Rattle.session_calls.specs.declared.answer.Answer.TheVariants.{Going, Ready, Done, Gave, Refused}
use Rattle.session_calls.specs.declared.op.Op.{Op}
use Rattle.schedule.specs.TheoremMoments.{Moment, IsRunningCall}
use Rattle.whole_calls.specs.Meanings.{IsSameHistory, StepMeans}

-- if the scan is to go on, or has given an entry, less is left to do
abbrev pub LessIsLeft : State → State → Option Op → Option Op → Answer → Type 0
LessIsLeft old new before after Going = work_in new after < work_in old before
LessIsLeft old new before after (Ready count) = work_in new after < work_in old before
LessIsLeft old new before after (Gave (Some entry)) = work_in new after < work_in old before
LessIsLeft old new before after answer = Unit {0}

-- a step, or what was asked for, is told of the session's scan, if it runs one
abbrev pub SessionScanMeans : {S : Type 0} → ℕ → Answer → Moment S → Moment S → Type 0
SessionScanMeans session answer old new = (number : ℕ) (call : Call) (range : Range) → IsRunningCall old.calls session number call → call.ask ≡ AskScan range → StepMeans number call answer old new

-- nothing is told of the session's scan
abbrev pub ScanIsUnanswered : {S : Type 0} → ℕ → Moment S → Moment S → Type 0
ScanIsUnanswered session old new = (number : ℕ) (call : Call) (range : Range) → IsRunningCall old.calls session number call → call.ask ≡ AskScan range → IsSameHistory old new

-- what asking a scan for its next entry, or else a step of it, may answer
abbrev pub AnswersAdvance : Answer → Type 0
AnswersAdvance Going = Unit {0}
AnswersAdvance (Ready count) = Unit {0}
AnswersAdvance (Gave (Some entry)) = Unit {0}
AnswersAdvance Done = Unit {0}
AnswersAdvance (Refused fault) = Unit {0}
AnswersAdvance answer = ⊥

-- ... when it has come to an entry or to its end
abbrev pub AnswersSeek : Answer → Type 0
AnswersSeek (Gave (Some entry)) = Unit {0}
AnswersSeek Done = Unit {0}
AnswersSeek (Refused fault) = Unit {0}
AnswersSeek answer = ⊥

-- what a scan gives that came to this: an entry, none if it has given all, or a refusal
abbrev pub given_of : Answer → Result (Option Entry) Fault
given_of (Gave (Some entry)) = Ok (Some entry)
given_of Done = Ok None
given_of (Refused fault) = Err fault
given_of answer = Err NoSession

-- ... and what it came to
abbrev pub given_outcome : Result (Option Entry) Fault → Option Answer
given_outcome (Ok (Some entry)) = Some (Gave (Some entry))
given_outcome (Ok None) = Some Done
given_outcome (Err fault) = Some (Refused fault)

-- each entry that a scan gives leaves less to do
abbrev pub GiveHasLessLeft : State → State → Option Op → Option Op → Result (Option Entry) Fault → Type 0
GiveHasLessLeft old new before after (Ok (Some entry)) = work_in new after < work_in old before
GiveHasLessLeft old new before after result = Unit {0}

-- a session that gives no entry runs nothing then
abbrev pub EndsUnlessGiven : Result (Option Entry) Fault → Option Op → Type 0
EndsUnlessGiven (Ok (Some entry)) slot = Unit {0}
EndsUnlessGiven (Ok None) slot = slot ≡ None
EndsUnlessGiven (Err fault) slot = slot ≡ None

-- a session that ran a scan, and gives an entry, runs it on
abbrev pub RunsIfGiven : Result (Option Entry) Fault → Option Op → Option Op → Type 0
RunsIfGiven (Ok (Some entry)) before after = before ≢ None → after ≢ None
RunsIfGiven result before after = Unit {0}

-- no action is appended, and the call of this number has become this one; no other is changed
pub record Becomes {S : Type 0} (number : ℕ) (after : Call) (old new : Moment S) : Type 0 where
  pub history_is : new.history ≡ old.history
  pub calls_is : new.calls ≡ slice_set old.calls number after

-- the call has given one entry more; or it has finished, with all that it gave; or it is over, and no action
-- is appended
abbrev pub GivenMeans : {S : Type 0} → ℕ → Call → Result (Option Entry) Fault → Moment S → Moment S → Type 0
GivenMeans number call (Ok (Some entry)) old new = Becomes number (given_one call entry) old new
GivenMeans number call (Ok None) old new = Becomes number (ended call EndsFinished (length old.history)) old new
GivenMeans number call (Err fault) old new = new.history ≡ old.history

-- ... of the session's running scan
abbrev pub SessionGivenMeans : {S : Type 0} → ℕ → Result (Option Entry) Fault → Moment S → Moment S → Type 0
SessionGivenMeans session result old new = (number : ℕ) (call : Call) (range : Range) → IsRunningCall old.calls session number call → call.ask ≡ AskScan range → GivenMeans number call result old new
