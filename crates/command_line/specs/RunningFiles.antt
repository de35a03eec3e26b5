-- What a run of jobs on the index in a file prints.
use Rattle.std.specs.Prelude.{◌≡◌, ℕ, IsTrue, Option, List, length}
use Rattle.device.specs.declared.device.Device.{Ghosts as DeviceGhosts}
use Rattle.index_model.specs.declared.dead_rows.DeadRows.{Ghosts as SetGhosts}
use Rattle.index_model.specs.declared.format.Format.{Format}
use Rattle.page_action.specs.declared.page_store.PageStore.{Ghosts}
use Rattle.page_codec.specs.declared.page.Page.{Page}
use Rattle.page_store.specs.Stores.{state_of, device_of}
use Rattle.page_store.specs.declared.store.Store.{Store}
use Rattle.recovery.specs.Index.{HasIndex}
use Rattle.recovery.specs.Opening.{IsFreshlyOpened}
use Rattle.session_seats.specs.declared.job.Job.{Job}
use Rattle.tree_acts.specs.TheoremKeys.{IsTreeFor}
use Rattle.world.specs.Reopening.{BeginsWith}
use Rattle.world.specs.declared.world.World.{World}
use Rattle.access_method.specs.Files.{bytes_before}
use Rattle.command_line.specs.JobFiles.{SpellJobs, sets_after}
use Rattle.command_line.specs.Running.{PrintsRun}
use Rattle.command_line.specs.declared.end.End.{End}
use Rattle.text_forms.specs.Spelling.{lines_of}

-- The world as it is opened from a file that held these bytes: with so many pages in memory, so many
-- sessions, and these sets. An index whose pages are a B-link tree is opened with them, as far as the file
-- kept the disk model.
pub record IsWorldOfFile {D T : Type 0} (d : DeviceGhosts D) (g : Ghosts (Store D d)) (rows : SetGhosts T)
    (bytes : ℕ → List ℕ) (frames sessions : ℕ) (sets : List T) (world : World (Store D d) T) : Type 0 where
  pub opened : IsFreshlyOpened frames (state_of d world.store)
  pub sessions_are : length world.calls.slots.items ≡ sessions
  pub sets_are : world.sets.items ≡ sets
  pub begins : IsTrue (d.is_honest (device_of d world.store)) → (format : Format) (pages : List Page)
      → HasIndex format pages (bytes_before bytes (d.trace (device_of d world.store))) → IsTreeFor format pages
      → BeginsWith d g rows format pages world

-- what was printed is a run of these jobs on such a world, with a session for each worker, which left this
-- one
pub record PrintsRunOnFile {D T : Type 0} (d : DeviceGhosts D) (g : Ghosts (Store D d)) (rows : SetGhosts T)
    (bytes : ℕ → List ℕ) (frames workers : ℕ) (jobs : List Job) (sets : List T) (after : World (Store D d) T)
    (old new : Option (List ℕ)) (end : End) : Type 0 where
  pub before : World (Store D d) T
  pub opened : IsWorldOfFile d g rows bytes frames workers sets before
  pub prints : PrintsRun g rows jobs workers before after old new end

-- ... of the jobs that the lines of this text spell; each bulk delete has a set
pub record PrintsRunOfText {D T : Type 0} (d : DeviceGhosts D) (g : Ghosts (Store D d)) (rows : SetGhosts T)
    (bytes : ℕ → List ℕ) (frames workers : ℕ) (text : List ℕ) (after : World (Store D d) T)
    (old new : Option (List ℕ)) (end : End) : Type 0 where
  pub jobs : List Job
  pub sets : List T
  pub spelled : SpellJobs 0 (lines_of text) jobs
  pub counted : length sets ≡ sets_after 0 jobs
  pub prints : PrintsRunOnFile d g rows bytes frames workers jobs sets after old new end

-- ... of some text: what a file of jobs held, no clause can name
pub record PrintsRunOfJobFile {D T : Type 0} (d : DeviceGhosts D) (g : Ghosts (Store D d)) (rows : SetGhosts T)
    (bytes : ℕ → List ℕ) (frames workers : ℕ) (after : World (Store D d) T)
    (old new : Option (List ℕ)) (end : End) : Type 0 where
  pub text : List ℕ
  pub prints : PrintsRunOfText d g rows bytes frames workers text after old new end
