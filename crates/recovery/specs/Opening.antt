-- What opening an index answers, and what it leaves.
use Rattle.std.specs.Prelude.{◌≡◌, ◌⊎◌, ℕ, ◌<◌, ◌≤◌, Bool, false, IsTrue, List, length, take, replicate, Result, Ok, Err}
use Rattle.device.specs.Disk.{DiskMoment, Trace, next, synced}
use Rattle.device.specs.declared.device.Device.{Ghosts}
use Rattle.index_model.specs.Limits.{AreLimits}
use Rattle.index_model.specs.declared.fault.Fault.{Fault}
use Rattle.index_model.specs.declared.fault.Fault.TheVariants.{NoMemory, Io, BadSuper, BadVersion, BadLimits, LogDamaged}
use Rattle.index_model.specs.declared.format.Format.{Format}
use Rattle.page_action.specs.States.{State}
use Rattle.page_action.specs.Stored.{AreStored}
use Rattle.page_codec.specs.declared.page.Page.{Page}
use Rattle.page_store.specs.Logged.{StandsOpened}
use Rattle.page_codec.specs.Places.{superblock, needed_length}
use Rattle.page_store.specs.Rooms.{pages_of_room}
use Rattle.page_store.specs.Stores.{state_of, device_of, opened_state, IsOwnStore}
use Rattle.page_store.specs.declared.store.Store.{Store}
use Rattle.redo_log.specs.Groups.{SpellsGroups, log_range}
use Rattle.redo_log.specs.Kept.{groups_end}
use Rattle.redo_log.specs.Reading.{IsOpened, IsDamaged}
use Rattle.recovery.specs.Reading.{AreInUse, IsDamagedBlock, IsAllRead, greatest_cycle}
use Rattle.recovery.specs.Superblock.{IsNoSuperblock}
use Rattle.recovery.specs.declared.opening.Parts.{Parts}
use Rattle.recovery.specs.declared.opening.Refused.{Refused}

-- this number of pages may be asked to be in memory: 16 to 1,024
abbrev pub AreFrames : ℕ → Type 0
AreFrames frames = (16 ≤ frames) × (frames ≤ 1024)

-- the device begins with the superblock of these limits, which are in their ranges, and has room for their
-- index
pub record IsFront (format : Format) (file : List ℕ) : Type 0 where
  pub allowed : AreLimits format
  pub superblock_is : take 4096 file ≡ superblock format
  pub long : needed_length format ≤ length file

-- no superblock stands there, or the device is shorter than it says
abbrev pub IsNoFront : List ℕ → Fault → Type 0
IsNoFront file fault = IsNoSuperblock (take 4096 file) fault
    ⊎ ((fault ≡ BadSuper) × (format : Format) × AreLimits format
    × (take 4096 file ≡ superblock format) × (length file < needed_length format))

-- the faults of a superblock
abbrev pub IsFrontFault : Fault → Type 0
IsFrontFault fault = (fault ≡ BadSuper) ⊎ (fault ≡ BadVersion) ⊎ (fault ≡ BadLimits)

-- the log's range is groups: each open one is whole
abbrev pub HasGroups : Format → List ℕ → Type 0
HasGroups format file =
    (groups : List (List Page)) × SpellsGroups format (log_range format file) groups

-- it is refused before anything is done: for frames out of their range; or else for a device of less than
-- 4,096 bytes; or else for what stands in front
abbrev pub IsFrontRefusal : Bool → ℕ → List ℕ → Fault → Type 0
IsFrontRefusal honest frames file fault =
    ((fault ≡ BadLimits) × (AreFrames frames → ⊥))
    ⊎ (AreFrames frames × (((fault ≡ BadSuper) × (length file < 4096))
    ⊎ ((4096 ≤ length file) × IsFrontFault fault × (IsTrue honest → IsNoFront file fault))))

-- it is refused after that: memory was refused; or an open group of the log isn't one of the format, and
-- nothing was written; or a block is damaged
abbrev pub IsRestoreRefusal : Format → Bool → Trace → Trace → Fault → Type 0
IsRestoreRefusal format honest old new fault =
    (fault ≡ NoMemory)
    ⊎ ((fault ≡ LogDamaged) × (new ≡ next (synced old.now) old)
    × (IsTrue honest → IsDamaged format old.now))
    ⊎ IsDamagedBlock format honest new.now.seen fault

-- refused for one of these
abbrev pub IsRefusal : Bool → ℕ → Trace → Trace → Fault → Type 0
IsRefusal honest frames old new fault =
    (IsFrontRefusal honest frames old.now.seen fault × (new ≡ old))
    ⊎ ((format : Format) × AreFrames frames × (IsTrue honest → IsFront format old.now.seen)
    × IsRestoreRefusal format honest old new fault)

-- no crash changes a byte
abbrev pub IsSynced : DiskMoment → Type 0
IsSynced m = (i : ℕ) → m.loose i ≡ false

-- an opened log without open groups, and what was read
pub record IsRestored (format : Format) (honest : Bool) (file : List ℕ) (parts : Parts)
    : Type 0 where
  pub opened : IsOpened format parts.log
  pub closed : groups_end parts.log ≡ 0
  pub read : IsAllRead format honest file parts.found

-- the index that was found: restored, on a device that is long enough; its superblock stood there, and an
-- undamaged log
pub record IsFound (honest : Bool) (old new : List ℕ) (parts : Parts) : Type 0 where
  pub format : Format
  pub allowed : AreLimits format
  pub long : needed_length format ≤ length new
  pub restored : IsRestored format honest new parts
  pub front : IsTrue honest → IsFront format old
  pub undamaged : IsTrue honest → HasGroups format old

-- the pages that were read are these, which stand at home
pub record AreSamePages (pages : List Page) (m : DiskMoment) (parts : Parts) : Type 0 where
  pub pages_are : pages_of_room parts.found.room ≡ pages
  pub stands : StandsOpened parts.log m pages

-- nothing is refused but a growth, or the device failed
abbrev pub IsNoMemoryOrIo : Fault → Type 0
IsNoMemoryOrIo fault = (fault ≡ NoMemory) ⊎ (fault ≡ Io)

-- the state as it is opened with its pages, for `frames` frames: as many as the limits allow, one or more,
-- each one that may be stored; no deletion number counts, and the last cycle number is the greatest of the
-- pages
pub record IsFreshlyOpened (frames : ℕ) (st : State) : Type 0 where
  pub allowed : AreLimits st.format
  pub some : 0 < length st.pages
  pub few : length st.pages ≤ st.format.pages
  pub stored : AreStored st.format 0 st.pages
  pub is : st ≡ opened_state st.format frames st.pages
      (replicate (length st.pages) 0) (greatest_cycle st.pages)

-- the index of a store stands on its device: its superblock and an undamaged log stood there before, its
-- pages stand there now
pub record StandsOnDevice (st : State) (old new : List ℕ) : Type 0 where
  pub front : IsFront st.format old
  pub undamaged : HasGroups st.format old
  pub in_use : AreInUse st.format st.pages new

-- the store has these pages, and is an own device's
pub record IsSameIndex {D : Type 0} (g : Ghosts D) (format : Format) (pages : List Page)
    (store : Store D g) : Type 0 where
  pub format_is : (state_of g store).format ≡ format
  pub pages_are : (state_of g store).pages ≡ pages
  pub own : IsOwnStore g store

-- the device as an open left it, in the store or given back
abbrev pub device_left : {D : Type 0} (g : Ghosts D) → Result (Store D g) (Refused D) → D
device_left g (Ok store) = device_of g store
device_left g (Err refused) = refused.device
