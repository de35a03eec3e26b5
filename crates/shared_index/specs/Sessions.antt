-- What a session knows of its calls, and what a call adds to that.
use Rattle.std.specs.Prelude.{◌≡◌, ℕ, Option, Some, None, Result, List, [], ◌∷◌, ◌++◌}
use Rattle.std.specs.Option.{ForSome}
use Rattle.index_model.specs.Row.{Row}
use Rattle.index_model.specs.declared.fault.Fault.{Fault}
use Rattle.index_model.specs.declared.fault.Fault.TheVariants.{NoSession, VacuumRunning}
use Rattle.index_model.specs.declared.stats.VacuumStats.{VacuumStats}
use Rattle.session_calls.specs.declared.answer.Answer.{Answer}
use Rattle.session_seats.specs.Seats.{no_view, view_of}
use Rattle.session_seats.specs.declared.call.CompletedCall.{CompletedCall}
use Rattle.session_seats.specs.declared.call.PendingCall.{PendingCall}
use Rattle.session_seats.specs.declared.group.SessionGroup.{Ghosts}
use Rattle.session_seats.specs.declared.job.Job.{Job}
use Rattle.session_seats.specs.declared.job.Job.TheVariants.{Bulk, Scan}
use Rattle.session_seats.specs.declared.seat.SessionSeat.{SessionSeat}
use Rattle.session_seats.specs.declared.seating.SessionView.{SessionView}
use Rattle.shared_world.specs.Handed.{Handed}
use Rattle.shared_world.specs.Leaving.{RunsItsCall, call_in}
use Rattle.shared_index.specs.Results.{told_of_vacuum}

-- the seat is there, and its session runs nothing
abbrev pub SeatRests : {J : Type 0} {h : Ghosts J} → Option (SessionSeat J h) → Type 0
SeatRests seat = ForSome seat (λ s. (view_of s.pass).call ≡ None)

-- the number of its session
abbrev pub number_of_seat : {J : Type 0} {h : Ghosts J} → Option (SessionSeat J h) → ℕ
number_of_seat None = 0
number_of_seat (Some s) = s.session

-- what its session knows
abbrev pub session_view : {J : Type 0} {h : Ghosts J} → Option (SessionSeat J h) → SessionView
session_view None = no_view
session_view (Some s) = view_of s.pass

-- the scan that is open in its session, if one is
abbrev pub open_scan : {J : Type 0} {h : Ghosts J} → Option (SessionSeat J h) → Option PendingCall
open_scan seat = (session_view seat).call

-- the calls that its session has had, with their places in the one log
abbrev pub calls_had : {J : Type 0} {h : Ghosts J} → Option (SessionSeat J h) → List (ℕ × CompletedCall)
calls_had None = []
calls_had (Some s) = (view_of s.pass).calls

-- a session has had one call more, at a place of the one log: it was asked this, and answered so
pub record HasHadCall (asked : Job) (answer : Answer) (old new : List (ℕ × CompletedCall)) : Type 0 where
  pub place : ℕ
  pub call : CompletedCall
  pub calls_are : new ≡ old ++ (place, call) ∷ []
  pub asked_is : call.asked ≡ asked
  pub answer_is : call.answer ≡ answer

-- ... and this was made of its answer
pub record HasTold {A : Type 0} (asked : Job) (told_by : Answer → A) (told : A) (old new : List (ℕ × CompletedCall)) : Type 0 where
  pub answer : Answer
  pub had : HasHadCall asked answer old new
  pub told_is : told ≡ told_by answer

-- ... of a call that may be given up: it is told which page blocked it then
pub record HasToldOrBlocked {A : Type 0} (asked : Job) (told_by : ℕ → Answer → A) (told : A) (old new : List (ℕ × CompletedCall)) : Type 0 where
  pub answer : Answer
  pub page : ℕ
  pub had : HasHadCall asked answer old new
  pub told_is : told ≡ told_by page answer

-- it asks for no scan
abbrev pub IsNoScan : Job → Type 0
IsNoScan (Scan range room) = ⊥
IsNoScan job = Unit {0}

-- a session runs a call that was asked this
pub record RunsJob (asked : Job) (v : SessionView) : Type 0 where
  pub runs : RunsItsCall v
  pub asked_is : (call_in v).asked ≡ asked

-- ... or just this one
pub record RunsThisCall (p : PendingCall) (v : SessionView) : Type 0 where
  pub runs : RunsItsCall v
  pub call_is : call_in v ≡ p

-- a session's call, which ran so, is over with this answer: it stands at a place of the one log
pub record HasEnded (p : PendingCall) (answer : Answer) (old new : List (ℕ × CompletedCall)) : Type 0 where
  pub place : ℕ
  pub call : CompletedCall
  pub calls_are : new ≡ old ++ (place, call) ∷ []
  pub asked_is : call.asked ≡ p.asked
  pub rows_are : call.rows ≡ p.rows
  pub answer_is : call.answer ≡ answer

-- What a hold of the lock leaves of a session's call: it runs on as it was, or it is over with this answer.
abbrev pub HoldLeaves : PendingCall → Option Answer → SessionView → SessionView → Type 0
HoldLeaves p None old new = RunsThisCall p new × (new.calls ≡ old.calls)
HoldLeaves p (Some answer) old new = (new.call ≡ None) × HasEnded p answer old.calls new.calls

-- ... of one that it begins, which is asked this and is to remove these rows
pub record HoldBegins (asked : Job) (rows : List Row) (answer : Option Answer) (old new : SessionView) : Type 0 where
  pub call : PendingCall
  pub asked_is : call.asked ≡ asked
  pub rows_are : call.rows ≡ rows
  pub leaves : HoldLeaves call answer old new

-- a call that isn't over after a hold runs, and is no scan
abbrev pub HoldMayGoOn : Option Answer → SessionView → Type 0
HoldMayGoOn None v = RunsItsCall v × IsNoScan (call_in v).asked
HoldMayGoOn (Some answer) v = Unit {0}

-- a session has had one bulk delete more, of these rows, and this was made of its answer; if it was given up,
-- it is told which page blocked it then
pub record HasDeletedRows (rows : List Row) (told : Result VacuumStats Fault) (old new : List (ℕ × CompletedCall)) : Type 0 where
  pub place : ℕ
  pub call : CompletedCall
  pub page : ℕ
  pub calls_are : new ≡ old ++ (place, call) ∷ []
  pub asked_is : call.asked ≡ Bulk 0
  pub rows_are : call.rows ≡ rows
  pub told_is : told ≡ told_of_vacuum page call.answer

-- why no set was put at the spare place: the world has no sets, or another bulk delete or cleanup ran
abbrev pub IsNotPut : Handed → Fault → Type 0
IsNotPut handed NoSession = handed.sets ≡ []
IsNotPut handed VacuumRunning = Unit {0}
IsNotPut handed fault = ⊥
