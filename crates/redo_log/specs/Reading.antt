-- What reading a log finds.
use Rattle.std.specs.Prelude.{◌≡◌, ◌⊎◌, ℕ, suc, Result, MatchResult, ◌+◌, ◌*◌, ◌<◌, ◌≤◌, ◌==◌, if◌then◌else◌, Bool, IsTrue, false, Option, Some, None, List, ◌++◌, length, take, drop, get_or, slice_range}
use Rattle.std.specs.Option.{option_map}
use Rattle.device.specs.Disk.{DiskMoment}
use Rattle.page_codec.specs.Places.{log_start}
use Rattle.index_model.specs.declared.fault.Fault.{Fault}
use Rattle.index_model.specs.declared.fault.Fault.TheVariants.{Io, NoMemory, LogDamaged}
use Rattle.index_model.specs.declared.format.Format.{Format}
use Rattle.page_codec.specs.declared.page.Page.{Page}
use Rattle.page_codec.specs.Spelling.{page_bytes}
use Rattle.redo_log.specs.Images.{images_bytes, images_of, last_image}
use Rattle.redo_log.specs.Groups.{AreImages, IsGroup, body, spelled_groups, SpellsGroups, log_range}
use Rattle.redo_log.specs.Kept.{LogHolds, format_of, actions_of, waiting_count, is_stopped}
use Rattle.redo_log.specs.declared.log.Log.{Log}
use Rattle.redo_log.specs.declared.log.Replayed.{Replayed}

-- the bytes at a place that was noted, and none at 0
abbrev pub bytes_at : List ℕ → ℕ → Option (List ℕ)
bytes_at log at = if at == 0 then None else Some (slice_range log at (at + 4096))

-- of each block the bytes of the last of these images are noted, and none if there is no image
-- of it
pub record AreNoted (format : Format) (log : List ℕ) (images : List Page) (lasts : List ℕ)
    : Type 0 where
  pub many : length lasts ≡ format.pages
  pub inside : (block : ℕ) → get_or lasts block 0 + 4096 ≤ length log
  pub each : (block : ℕ)
      → bytes_at log (get_or lasts block 0) ≡ option_map page_bytes (last_image images block)

-- `count` images stand there, and were noted after any others
pub record NotesImages (format : Format) (log : List ℕ) (at count : ℕ) (old new : List ℕ)
    : Type 0 where
  pub images : List Page
  pub good : AreImages format images
  pub is : take (4096 * count) (drop at log) ≡ images_bytes images
  pub noted : (before : List Page) → AreNoted format log before old
      → AreNoted format log (before ++ images) new

-- a group of `count` images stands there, with something after it, and they were noted so
pub record NotesGroup (format : Format) (log : List ℕ) (at count : ℕ) (old new : List ℕ)
    : Type 0 where
  pub group : List Page
  pub good : IsGroup format group
  pub counted : count ≡ length group
  pub is : drop at log ≡ body group ++ drop (4 + 4096 * count) (drop at log)
  pub more : 0 < length (drop (4 + 4096 * count) (drop at log))
  pub noted : (before : List Page) → AreNoted format log before old
      → AreNoted format log (before ++ group) new

-- these are all images that the bytes stand for, and the open groups end there
pub record AreAllImages (format : Format) (bytes : List ℕ) (images : List Page) (end : ℕ)
    : Type 0 where
  pub groups : List (List Page)
  pub spells : SpellsGroups format bytes groups
  pub images_are : images ≡ images_of groups
  pub end_is : end ≡ length (spelled_groups groups)
  pub within : end + 1 ≤ length bytes
  -- the bytes are no other groups
  pub only : (others : List (List Page)) → SpellsGroups format bytes others → others ≡ groups

-- all images that the bytes stand for were noted, and the open groups end there
pub record AreAllNoted (format : Format) (bytes lasts : List ℕ) (end : ℕ) : Type 0 where
  pub images : List Page
  pub all : AreAllImages format bytes images end
  pub noted : AreNoted format bytes images lasts

-- no crash changes the log's range
pub record IsFirm (format : Format) (m : DiskMoment) : Type 0 where
  pub firm : (i : ℕ) → i < format.log_bytes → m.loose (log_start + i) ≡ false

-- reading found these images, which the log's range of the device stands for and no others; and if
-- no crash changes that range, the log keeps each of its groups as a forced action
pub record Replays (format : Format) (m : DiskMoment) (log : Log) (images : List Page) : Type 0 where
  pub groups : List (List Page)
  pub spells : SpellsGroups format (log_range format m.seen) groups
  pub images_are : images ≡ images_of groups
  pub only : (others : List (List Page)) → SpellsGroups format (log_range format m.seen) others
      → others ≡ groups
  pub keeps : IsFirm format m → LogHolds log m groups (length groups)

-- the bytes that a replay kept of the block, if it has an image
abbrev pub kept_image : Replayed → ℕ → Option (List ℕ)
kept_image found block = bytes_at found.log.buffer.items (get_or found.lasts.items block 0)

-- it kept of each block the bytes of the last of these images, and none if there is no image of
-- it
pub record HoldsLast (found : Replayed) (images : List Page) : Type 0 where
  pub each : (block : ℕ)
      → kept_image found block ≡ option_map page_bytes (last_image images block)

-- what a replay kept are the last ones of these images, whatever the device answered; and an honest
-- device has them
pub record IsReplay (format : Format) (honest : Bool) (m : DiskMoment) (found : Replayed)
    : Type 0 where
  pub images : List Page
  pub good : AreImages format images
  pub lasts : HoldsLast found images
  pub replays : IsTrue honest → Replays format m found.log images

-- a log as it is opened: nothing waits, and no action was appended
pub record IsOpened (format : Format) (log : Log) : Type 0 where
  pub format_is : format_of log ≡ format
  pub actions : actions_of log ≡ 0
  pub waiting : waiting_count log ≡ 0
  pub alive : is_stopped log ≡ false

-- a failed read answers Io, and no other call of the device fails; else memory was refused, or the log is
-- damaged
abbrev pub ReplayFails : {T : Type 0} → Result T Fault → ℕ → ℕ → Type 0
ReplayFails result old new = MatchResult result (λ _. new ≡ old)
    (λ e. ((e ≡ Io) × (new ≡ suc old)) ⊎ (((e ≡ NoMemory) ⊎ (e ≡ LogDamaged)) × (new ≡ old)))

-- the log's range spells no groups: an open group there isn't one of the format
abbrev pub IsDamaged : Format → DiskMoment → Type 0
IsDamaged format m =
    (groups : List (List Page)) → SpellsGroups format (log_range format m.seen) groups → ⊥
