-- What an event under the lock leaves of a session's call, to the registry and to the session's seat.
use Rattle.std.specs.Prelude.{◌≡◌, ℕ, Bool, true, false, Option, Some, None, unwrap_or, List, [], ◌∷◌, ◌++◌, length, slice_set}
use Rattle.index_model.specs.Row.{Row}
use Rattle.session_calls.specs.declared.answer.Answer.{Answer}
use Rattle.session_calls.specs.declared.answer.Answer.TheVariants.{Begun}
use Rattle.session_seats.specs.Calls.{completed_of, empty_call}
use Rattle.session_seats.specs.declared.call.CompletedCall.{CompletedCall}
use Rattle.session_seats.specs.declared.call.Notice.{Notice}
use Rattle.session_seats.specs.declared.call.PendingCall.{PendingCall}
use Rattle.session_seats.specs.declared.job.Job.{Job}
use Rattle.session_seats.specs.declared.seating.SessionView.{SessionView}
use Rattle.shared_world.specs.Jobs.{IsBelowRoom}

-- a call has begun
abbrev pub is_begun : Answer → Bool
is_begun Begun = true
is_begun answer = false

-- the notice of a call that is asked this and answers that, at this number of actions
abbrev pub notice_of : Job → Answer → ℕ → Notice
notice_of asked answer at = record { asked = asked; answer = answer; at = at }

-- the call that a seat's session runs
abbrev pub call_in : SessionView → PendingCall
call_in v = unwrap_or v.call empty_call

-- a session runs a call
abbrev pub RunsItsCall : SessionView → Type 0
RunsItsCall v = v.call ≡ Some (call_in v)

-- the call that begins now and is to remove these rows, after so many actions and so many calls that are over
abbrev pub call_begun : Job → List Row → ℕ → ℕ → PendingCall
call_begun asked rows from seen = record { asked = asked; rows = rows; given = []; from = from; seen = seen }

-- a call may give one entry more
abbrev pub HasRoomLeft : PendingCall → Type 0
HasRoomLeft p = IsBelowRoom p.asked p.given

-- the log after a call's event: with that call at its end, if it is over
abbrev pub log_after : Bool → CompletedCall → List CompletedCall → List CompletedCall
log_after false r log = log
log_after true r log = log ++ r ∷ []

-- the session's calls, with that one and its place, if it is over
abbrev pub calls_after : Bool → ℕ → CompletedCall → List (ℕ × CompletedCall) → List (ℕ × CompletedCall)
calls_after false place r calls = calls
calls_after true place r calls = calls ++ (place, r) ∷ []

-- which call the session runs then: none, if it is over
abbrev pub call_after : Bool → PendingCall → Option PendingCall
call_after false p = Some p
call_after true p = None

-- An event of the session's call, which is this now. If it is over, it stands at the end of the log, with
-- this answer, and so many actions there were then; and its session runs nothing. No other call is touched.
pub record LeavesCall (session : ℕ) (over : Bool) (p : PendingCall) (answer : Answer) (to : ℕ) (old new before after : SessionView) : Type 0 where
  -- what the registry knows
  pub log : new.log ≡ log_after over (completed_of session p answer to) old.log
  pub pending : new.pending ≡ slice_set old.pending session (call_after over p)
  -- what the seat knows
  pub call : after.call ≡ call_after over p
  pub calls : after.calls ≡ calls_after over (length old.log) (completed_of session p answer to) before.calls
