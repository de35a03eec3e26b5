-- What an event under the lock leaves its worker.
use Rattle.std.specs.Prelude.{◌≡◌, ◌≤◌, ◌↔◌, ℕ, Option, Some, None, List, [], ◌∷◌, ◌++◌, length, slice_get, slice_set, vec_len, vec_capacity}
use Rattle.session_calls.specs.declared.answer.Answer.{Answer}
use Rattle.worker_seats.specs.declared.seating.SeatView.{SeatView}
use Rattle.shared_world.specs.declared.record.Record.{Record}
use Rattle.shared_world.specs.declared.record.Pending.{Pending}
use Rattle.shared_world.specs.Doing.{HasTaken}
use Rattle.shared_world.specs.Notes.{record_of}

-- this record stands after those that were there, at this place; without a place, none does
abbrev pub IsRecordedAt : Record → Option ℕ → List Record → List Record → Type 0
IsRecordedAt r None old new = new ≡ old
IsRecordedAt r (Some place) old new = (place ≡ length old) × (new ≡ old ++ r ∷ [])

-- what a beginning leaves of the jobs that run: one more, unless it made a record
abbrev pub AreBegun : ℕ → Pending → Option ℕ → List (Option Pending) → List (Option Pending) → Type 0
AreBegun session p None before after = after ≡ slice_set before session (Some p)
AreBegun session p (Some place) before after = after ≡ before

-- what the turn of a session that runs a job leaves of them: one fewer, if it made a record
abbrev pub AreLeft : ℕ → Option ℕ → List (Option Pending) → List (Option Pending) → Type 0
AreLeft session None before after = after ≡ before
AreLeft session (Some place) before after = after ≡ slice_set before session None

-- a job begins, as the records and the actions are: after it there is one job more that runs, or one record
-- more, of no time at all
pub record JobBeginMeans (session : ℕ) (p : Pending) (answer : Answer) (place : Option ℕ) (old new : List Record) (before after : List (Option Pending)) : Type 0 where
  pub history : IsRecordedAt (record_of session p answer p.from) place old new
  pub pending : AreBegun session p place before after

-- A turn of the job that the session runs. After it there are the records and the jobs that were there. Or
-- there is one record more, of all that the job did, which ends at the number of actions now, and one job
-- fewer runs.
pub record TurnMeans (session job : ℕ) (answer : Answer) (to : ℕ) (place : Option ℕ) (old new : List Record) (before after : List (Option Pending)) : Type 0 where
  pub running : Pending
  pub found : slice_get before session ≡ Some (Some running)
  pub job_is : running.job ≡ job
  pub history : IsRecordedAt (record_of session running answer to) place old new
  pub pending : AreLeft session place before after

-- the session's call was asked for its next entry, exactly if there was room for one; it has taken what that
-- gave
pub record TakeMeans (session job : ℕ) (answer : Option Answer) (before after : List (Option Pending)) : Type 0 where
  pub running : Pending
  pub then_running : Pending
  pub found : slice_get before session ≡ Some (Some running)
  pub job_is : running.job ≡ job
  pub full : (answer ≡ None) ↔ (vec_capacity running.given ≤ vec_len running.given)
  pub taken : HasTaken answer running then_running
  pub pending : after ≡ slice_set before session (Some then_running)

-- the seat runs the job, and its notes are as they were
pub record SitsOn (job : ℕ) (before after : SeatView) : Type 0 where
  pub runs : after.job ≡ Some job
  pub notes : after.notes ≡ before.notes

-- it runs nothing, and has noted the job at this place
pub record HasNotedAt (job place : ℕ) (before after : SeatView) : Type 0 where
  pub rests : after.job ≡ None
  pub notes : after.notes ≡ before.notes ++ (place, job) ∷ []

-- what a turn leaves of the seat
abbrev pub SeatMeans : ℕ → Option ℕ → SeatView → SeatView → Type 0
SeatMeans job None before after = SitsOn job before after
SeatMeans job (Some place) before after = HasNotedAt job place before after
