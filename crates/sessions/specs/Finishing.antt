-- What a run may be asked for, and what it answers.
use Rattle.std.specs.Prelude.{◌≡◌, ◌==◌, ℕ, ◌<◌, ◌≤◌, true, Option, None, Some, List, [], length, slice_get, IfSome}
use Rattle.std.specs.List.{sum, sum_by, count_by, filter}
use Rattle.index_model.specs.declared.dead_rows.DeadRows.{Ghosts as SetGhosts}
use Rattle.index_model.specs.declared.fault.Fault.{Fault}
use Rattle.index_model.specs.declared.fault.Fault.TheVariants.{BadLimits, SessionBusy, NoMemory}
use Rattle.page_action.specs.States.{Continues}
use Rattle.page_action.specs.declared.page_store.PageStore.{Ghosts}
use Rattle.session_calls.specs.Slots.{has_call}
use Rattle.session_calls.specs.declared.op.Op.{Op}
use Rattle.worker_seats.specs.Queue.{times}
use Rattle.world.specs.Worlds.{WorldFits, WorldKeeps, inside}
use Rattle.world.specs.declared.world.World.{World}
use Rattle.session_seats.specs.declared.job.Job.{Job}
use Rattle.sessions.specs.declared.outcome.Finished.{Finished}
use Rattle.sessions.specs.declared.outcome.Receipt.{Receipt}
use Rattle.shared_world.specs.declared.record.Record.{Record}
use Rattle.shared_world.specs.Acted.{HasActed}
use Rattle.shared_world.specs.Booked.{AreBooked}
use Rattle.shared_world.specs.Ended.{jobs_of_records}
use Rattle.shared_world.specs.Handed.{ComesOf, handed_of}
use Rattle.shared_world.specs.Jobs.{room_of}
use Rattle.shared_world.specs.Kept.{KeepsAll}
use Rattle.shared_world.specs.Notes.{completed_calls}
use Rattle.shared_world.specs.Standing.{AreIdle}

-- 1 to 64 workers, no more than there are sessions; and 65,536 jobs at most, whose scans may give 1,048,576
-- entries at most in all
pub record IsWithinLimits (sessions : ℕ) (jobs : List Job) (workers : ℕ) : Type 0 where
  pub some_worker : 0 < workers
  pub few_workers : workers ≤ 64
  pub seated : workers ≤ sessions
  pub few_jobs : length jobs ≤ 65536
  pub little_room : sum_by room_of jobs ≤ 1048576

-- why a run is refused: a limit is passed; else a session has a call; else there is no memory for it, or no
-- thread
abbrev pub RunIsRefusedFor : Fault → List (Option Op) → List Job → ℕ → Type 0
RunIsRefusedFor BadLimits slots jobs workers = IsWithinLimits (length slots) jobs workers → ⊥
RunIsRefusedFor SessionBusy slots jobs workers = IsWithinLimits (length slots) jobs workers × ((session : ℕ) × (has_call slots session ≡ true))
RunIsRefusedFor NoMemory slots jobs workers = IsWithinLimits (length slots) jobs workers × AreIdle slots
RunIsRefusedFor fault slots jobs workers = ⊥

-- how many of these records are of this worker
abbrev pub records_of : ℕ → List Record → ℕ
records_of worker records = count_by (λ r. r.worker == worker) records

-- the jobs of this worker's records, in order
abbrev pub jobs_by : ℕ → List Record → List ℕ
jobs_by worker records = jobs_of_records (filter (λ r. r.worker == worker) records)

-- the receipt for a record at this place
abbrev pub receipt_of : ℕ → Record → Receipt
receipt_of place r = record { worker = r.worker; job = r.job; place = place }

-- the receipt is that of a record of the job, which stands at its place
pub record IsReceiptFor (records : List Record) (job : ℕ) (receipt : Receipt) : Type 0 where
  pub record_of : Record
  pub found : slice_get records receipt.place ≡ Some record_of
  pub job_is : record_of.job ≡ job
  pub told : receipt ≡ receipt_of receipt.place record_of

-- ... and each has its receipt
pub record IsFinished {S T : Type 0} (g : Ghosts S) (rows : SetGhosts T) (jobs : List Job) (workers : ℕ) (world : World S T) (done : Finished S T) : Type 0 where
  pub kept : ∥ KeepsAll g (handed_of g rows None world) (WorldFits g rows world) (WorldKeeps g rows world) (inside rows done.world) done.start [] (completed_calls (inside rows world).sets done.history.items) ∥₁
  pub acted : ∥ HasActed g (handed_of g rows None world) (inside rows done.world) [] (completed_calls (inside rows world).sets done.history.items) ∥₁
  pub booked : AreBooked jobs [] done.history.items
  pub comes : ∥ ComesOf g (handed_of g rows None world) done.start (inside rows done.world) ∥₁
  pub steps : ∥ Continues g.follows world.store done.world.store ∥₁
  pub idle : AreIdle done.world.calls.slots.items
  pub all : length done.history.items ≡ length jobs
  pub once : (job : ℕ) → job < length jobs → times job (jobs_of_records done.history.items) ≡ 1
  pub receipts : length done.receipts.items ≡ length jobs
  pub each : (job : ℕ) → IfSome (slice_get done.receipts.items job) (IsReceiptFor done.history.items job)
  pub workers_are : length done.calls.items ≡ workers
  pub calls : (worker : ℕ) → IfSome (slice_get done.calls.items worker) (λ n. n ≡ records_of worker done.history.items)
  pub summed : sum done.calls.items ≡ length done.history.items

-- each worker has a hand, with which it told of the jobs of its records, in order, and of no other
pub record HaveTold {H : Type 0} (told : H → List ℕ) (workers : ℕ) (hands : List H) (records : List Record) : Type 0 where
  pub each_has : length hands ≡ workers
  pub told_are : (worker : ℕ) → IfSome (slice_get hands worker) (λ hand. told hand ≡ jobs_by worker records)
