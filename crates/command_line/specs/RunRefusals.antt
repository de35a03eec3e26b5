-- Why a run of jobs on the index in a file is refused, before any job was done.
use Rattle.std.specs.Prelude.{◌≡◌, ◌⊎◌, ℕ, suc, ◌<◌, ◌≤◌, Bool, IsTrue, Option, Some, None, List, length}
use Rattle.access_method.specs.Files.{bytes_before}
use Rattle.command_line.specs.JobFiles.{SpellJobs, sets_after}
use Rattle.command_line.specs.RunningFiles.{IsWorldOfFile}
use Rattle.device.specs.Disk.{Trace, first}
use Rattle.device.specs.declared.device.Device.{Ghosts as DeviceGhosts}
use Rattle.index_model.specs.declared.dead_rows.DeadRows.{Ghosts as SetGhosts}
use Rattle.index_model.specs.declared.fault.Fault.{Fault}
use Rattle.index_model.specs.declared.fault.Fault.TheVariants.{BadLimits, Io, NoMemory}
use Rattle.index_model.specs.declared.format.Format.{Format}
use Rattle.page_action.specs.declared.page_store.PageStore.{Ghosts}
use Rattle.page_codec.specs.declared.page.Page.{Page}
use Rattle.page_store.specs.Stores.{device_of}
use Rattle.page_store.specs.declared.store.Store.{Store}
use Rattle.recovery.specs.Index.{HasIndex}
use Rattle.recovery.specs.Opening.{AreFrames, IsNoMemoryOrIo, IsRefusal}
use Rattle.sessions.specs.Finishing.{RunIsRefusedFor}
use Rattle.session_seats.specs.declared.job.Job.{Job}
use Rattle.text_forms.specs.Spelling.{lines_of}
use Rattle.tree_acts.specs.TheoremKeys.{IsTreeFor}
use Rattle.world.specs.declared.world.World.{World}

-- an opening with so many sessions is refused: their number is out of its range, memory was refused, or a
-- call of the device failed; or else as that of the pages is
abbrev pub IsWorldRefusal : Bool → ℕ → ℕ → Trace → Trace → ℕ → ℕ → Fault → Type 0
IsWorldRefusal honest frames sessions old new failed fails fault =
    ((fault ≡ BadLimits) × ((sessions ≡ 0) ⊎ (64 < sessions)))
    ⊎ (fault ≡ NoMemory)
    ⊎ ((fault ≡ Io) × (fails ≡ suc failed))
    ⊎ IsRefusal honest frames old new fault

-- Why an index isn't opened with so many sessions in a file that held these bytes when it was taken, and
-- whose device was left so. A sound index is refused for want of memory or of the device alone.
pub record IsWorldNotOpened {D : Type 0} (d : DeviceGhosts D) (bytes : ℕ → List ℕ) (frames sessions : ℕ) (fault : Fault) (device : D) : Type 0 where
  pub cause : IsWorldRefusal (d.is_honest device) frames sessions (first (bytes_before bytes (d.trace device))) (d.trace device) 0 (d.failures device) fault
  pub sound : IsTrue (d.is_honest device) → AreFrames frames → 1 ≤ sessions → sessions ≤ 64 → (format : Format) (pages : List Page)
      → HasIndex format pages (bytes_before bytes (d.trace device)) → IsTreeFor format pages → IsNoMemoryOrIo fault

-- ... or the file couldn't be taken
abbrev pub IsWorldOpeningRefused : {D : Type 0} → DeviceGhosts D → (ℕ → List ℕ) → ℕ → ℕ → Fault → Option D → Type 0
IsWorldOpeningRefused d bytes frames sessions fault None = fault ≡ Io
IsWorldOpeningRefused d bytes frames sessions fault (Some device) = IsWorldNotOpened d bytes frames sessions fault device

-- The index was opened with a session for each worker, over the device that is left, and the run of these
-- jobs is refused: a limit is passed, or there is no memory or no thread for it.
pub record IsRunNotMade {D T : Type 0} (d : DeviceGhosts D) (g : Ghosts (Store D d)) (rows : SetGhosts T) (bytes : ℕ → List ℕ) (frames workers : ℕ)
    (jobs : List Job) (sets : List T) (fault : Fault) (device : D) : Type 0 where
  pub before : World (Store D d) T
  pub opened : IsWorldOfFile d g rows bytes frames workers sets before
  pub device_is : device ≡ device_of d before.store
  pub cause : RunIsRefusedFor fault before.calls.slots.items jobs workers

-- no run of these jobs was made for one of these
abbrev pub IsRunOnFileRefused : {D T : Type 0} (d : DeviceGhosts D) → Ghosts (Store D d) → SetGhosts T → (ℕ → List ℕ) → ℕ → ℕ → List Job → List T → Fault → Option D → Type 0
IsRunOnFileRefused d g rows bytes frames workers jobs sets fault None = fault ≡ Io
IsRunOnFileRefused d g rows bytes frames workers jobs sets fault (Some device) =
    IsWorldNotOpened d bytes frames workers fault device ⊎ IsRunNotMade d g rows bytes frames workers jobs sets fault device

-- ... of the jobs that the lines of this text spell
pub record IsRunOfLinesRefused {D T : Type 0} (d : DeviceGhosts D) (g : Ghosts (Store D d)) (rows : SetGhosts T) (bytes : ℕ → List ℕ) (frames workers : ℕ)
    (text : List ℕ) (fault : Fault) (device : Option D) : Type 0 where
  pub jobs : List Job
  pub sets : List T
  pub spelled : SpellJobs 0 (lines_of text) jobs
  pub counted : length sets ≡ sets_after 0 jobs
  pub refused : IsRunOnFileRefused d g rows bytes frames workers jobs sets fault device

-- ... or there was no memory to read them
abbrev pub IsRunOfTextRefused : {D T : Type 0} (d : DeviceGhosts D) → Ghosts (Store D d) → SetGhosts T → (ℕ → List ℕ) → ℕ → ℕ → List ℕ → Fault → Option D → Type 0
IsRunOfTextRefused d g rows bytes frames workers text fault device =
    (fault ≡ NoMemory) ⊎ IsRunOfLinesRefused d g rows bytes frames workers text fault device

-- ... of some text: what a file of jobs held, no clause can name
abbrev pub IsRunOfJobFileRefused : {D T : Type 0} (d : DeviceGhosts D) → Ghosts (Store D d) → SetGhosts T → (ℕ → List ℕ) → ℕ → ℕ → Fault → Option D → Type 0
IsRunOfJobFileRefused d g rows bytes frames workers fault device =
    (text : List ℕ) × IsRunOfTextRefused d g rows bytes frames workers text fault device
