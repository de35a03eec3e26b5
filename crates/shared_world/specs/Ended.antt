-- What a run has left when all its jobs are done.
use Rattle.std.specs.Prelude.{◌≡◌, ℕ, ◌<◌, Bool, Some, None, List, [], map, length, slice_get}
use Rattle.index_model.specs.Actions.{Action}
use Rattle.index_model.specs.Calls.{Call}
use Rattle.index_model.specs.declared.entry.Entry.{Entry}
use Rattle.index_model.specs.declared.dead_rows.DeadRows.{Ghosts as SetGhosts}
use Rattle.page_action.specs.declared.page_store.PageStore.{Ghosts}
use Rattle.worker_seats.specs.Queue.{below, weigh}
use Rattle.world.specs.Worlds.{inside}
use Rattle.world.specs.declared.world.World.{World}
use Rattle.session_seats.specs.declared.job.Job.{Job}
use Rattle.shared_world.specs.declared.record.Record.{Record}
use Rattle.shared_world.specs.Acted.{HasActed}
use Rattle.shared_world.specs.Handed.{Handed, ComesOf, StillFollows}
use Rattle.shared_world.specs.Booked.{AreBooked}
use Rattle.shared_world.specs.Kept.{KeepsAll}
use Rattle.shared_world.specs.Notes.{completed_calls}
use Rattle.shared_world.specs.Standing.{AreIdle}

-- the jobs of these records
abbrev pub jobs_of_records : List Record → List ℕ
jobs_of_records records = map (λ r. r.job) records

-- All jobs are done. No set was put. What is kept under the lock is so with no job pending, and so is what
-- was done for each record. Each record asks what its job does. The store follows what it followed, and no
-- session has a call. The records are those of the jobs that were handed out, and each is of one of the
-- workers.
pub record HasRun {S T : Type 0} (g : Ghosts S) (rows : SetGhosts T) (stood kept_then : (Entry → Bool) → List Action → List Call → Type 0) (followed : S → Type 0)
    (handed : Handed) (jobs : List Job) (workers : ℕ) (world : World S T) (start : ℕ) (records : List Record) : Type 0 where
  pub stays : handed.spare ≡ None
  pub kept : ∥ KeepsAll g handed stood kept_then (inside rows world) start [] (completed_calls handed.sets records) ∥₁
  pub acted : ∥ HasActed g handed (inside rows world) [] (completed_calls handed.sets records) ∥₁
  pub booked : AreBooked jobs [] records
  pub comes : ∥ ComesOf g handed start (inside rows world) ∥₁
  pub steps : ∥ StillFollows g followed world.store ∥₁
  pub idle : AreIdle world.calls.slots.items
  pub all : (h : ℕ → ℕ) → weigh h (below (length jobs)) ≡ weigh h (jobs_of_records records)
  pub within : (place : ℕ) (r : Record) → slice_get records place ≡ Some r → r.worker < workers
