-- Indexes in files: how one is opened, and what a commit or a closing leaves on the disk.
use Rattle.std.specs.Prelude.{◌≡◌, ℕ, Bool, true, false, IsTrue, List, length, ⊤}
use Rattle.access_method.specs.Indexes.{IndexFits, ForEachIndexHistory, IndexKeeps}
use Rattle.access_method.specs.declared.index.Index.{Index}
use Rattle.device.specs.Disk.{Trace, MayCrashTo, first}
use Rattle.device.specs.declared.device.Device.{Ghosts as DeviceGhosts}
use Rattle.index_model.specs.Actions.{Action}
use Rattle.index_model.specs.Calls.{Call}
use Rattle.index_model.specs.declared.entry.Entry.{Entry}
use Rattle.index_model.specs.declared.fault.Fault.{Fault}
use Rattle.index_model.specs.declared.fault.Fault.TheVariants.{NoMemory, Io, BadSuper, BadVersion, BadLimits, LogDamaged, PageDamaged}
use Rattle.index_model.specs.declared.format.Format.{Format}
use Rattle.page_action.specs.Room.{LogIsClosed}
use Rattle.page_action.specs.declared.page_store.PageStore.{Ghosts}
use Rattle.page_codec.specs.declared.page.Page.{Page}
use Rattle.page_store.specs.Stores.{state_of, held_by, device_of}
use Rattle.page_store.specs.declared.store.Store.{Store}
use Rattle.recovery.specs.Calls.{IsIoOr}
use Rattle.recovery.specs.Index.{HasIndex}
use Rattle.recovery.specs.Opening.{AreFrames, IsNoMemoryOrIo, IsRefusal}
use Rattle.world.specs.Reopening.{IsIndexAfterPrefix}

-- what a file held when it was opened, if it was then as long as it is now
abbrev pub bytes_before : (ℕ → List ℕ) → Trace → List ℕ
bytes_before bytes trace = bytes (length trace.now.seen)

-- the faults that an index in a file is refused with when it is opened
abbrev pub IsOpenFault : Fault → Type 0
IsOpenFault NoMemory = ⊤
IsOpenFault Io = ⊤
IsOpenFault BadSuper = ⊤
IsOpenFault BadVersion = ⊤
IsOpenFault BadLimits = ⊤
IsOpenFault LogDamaged = ⊤
IsOpenFault (PageDamaged block) = ⊤
IsOpenFault fault = ⊥

-- If the device has kept its model up to now, take any contents, actions and calls that fitted the index and
-- were kept. Each image that a crash leaves now is an index with the contents after a prefix of these
-- actions, which has this number of them at least.
abbrev pub StaysOnDisk : {D : Type 0} (d : DeviceGhosts D) → Ghosts (Store D d) → ℕ → Index (Store D d) → Index (Store D d) → Type 0
StaysOnDisk d g count old new = ForEachIndexHistory g old new (λ start history calls. IndexKeeps g old start history calls
    → (image : List ℕ) → MayCrashTo (held_by d new.store).trace.now image
    → IsIndexAfterPrefix (state_of d new.store).format start history count image)

-- ... of the device of an index that was closed
abbrev pub StaysOnDevice : {D : Type 0} (d : DeviceGhosts D) → Ghosts (Store D d) → ℕ → Index (Store D d) → D → Type 0
StaysOnDevice d g count index device =
    d.is_honest device ≡ true → (start : Entry → Bool) (history : List Action) (calls : List Call)
    → IndexFits g index start history calls → IndexKeeps g index start history calls
    → (image : List ℕ) → MayCrashTo (d.trace device).now image
    → IsIndexAfterPrefix (state_of d index.store).format start history count image

-- the device is that of a last store, which came from the index by calls of its own, and of which this holds
abbrev pub IsLastOver : {D : Type 0} (d : DeviceGhosts D) → Ghosts (Store D d) → Index (Store D d) → D → (Store D d → Type 0) → Type 0
IsLastOver {D} d g index device Holds = (last : Store D d) × (device ≡ device_of d last) × g.follows index.store last × Holds last

-- the log of a store has not stopped, and is closed: none of its actions waits in it
abbrev pub IsAtRest : {S : Type 0} → Ghosts S → Format → S → Type 0
IsAtRest g format store = ((g.backing store).stopped ≡ false) × LogIsClosed format (g.backing store)

-- Why an index is not opened in a file that held these bytes when it was taken, and whose device was left so:
-- a call of the device failed, or else what the opening of it was refused for. A sound index is refused for
-- want of memory or of the device alone.
pub record IsNotOpened {D : Type 0} (d : DeviceGhosts D) (Sound : Format → List Page → Type 0) (bytes : ℕ → List ℕ) (frames : ℕ) (fault : Fault) (device : D) : Type 0 where
  pub cause : IsIoOr (IsRefusal (d.is_honest device) frames (first (bytes_before bytes (d.trace device))) (d.trace device)) 0 (d.failures device) fault
  pub sound : IsTrue (d.is_honest device) → AreFrames frames → (format : Format) (pages : List Page)
      → HasIndex format pages (bytes_before bytes (d.trace device)) → Sound format pages → IsNoMemoryOrIo fault

-- ... of the pages of any index
abbrev pub IsAnyIndex : Format → List Page → Type 0
IsAnyIndex format pages = ⊤
