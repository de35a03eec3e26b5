-- What records and jobs that run have to do with the jobs of a run.
use Rattle.std.specs.Prelude.{◌≡◌, ℕ, Option, Some, List, slice_get, vec_capacity}
use Rattle.session_calls.specs.declared.answer.Answer.TheVariants.{Ended}
use Rattle.session_seats.specs.declared.job.Job.{Job}
use Rattle.shared_world.specs.declared.record.Pending.{Pending}
use Rattle.shared_world.specs.declared.record.Record.{Record}
use Rattle.shared_world.specs.Jobs.{IsRoomOf, ScanIsFull}

-- Each asks what the job of its number asks. A job that runs has the room of its scan. A scan was ended by
-- its worker only if its room was full.
pub record AreBooked (jobs : List Job) (pending : List (Option Pending)) (records : List Record) : Type 0 where
  pub recorded : (place : ℕ) (r : Record) → slice_get records place ≡ Some r → slice_get jobs r.job ≡ Some r.asked
  pub running : (session : ℕ) (p : Pending) → slice_get pending session ≡ Some (Some p) → slice_get jobs p.job ≡ Some p.asked
  pub room : (session : ℕ) (p : Pending) → slice_get pending session ≡ Some (Some p) → IsRoomOf p.asked (vec_capacity p.given)
  pub full : (place : ℕ) (r : Record) → slice_get records place ≡ Some r → r.answer ≡ Ended → ScanIsFull r.asked r.given.items
