-- Files with an index.
use Rattle.std.specs.Prelude.{◌≡◌, ℕ, IsTrue, List, Option, Some, None}
use Rattle.access_method.specs.Files.{IsNotOpened, bytes_before}
use Rattle.amcheck.specs.Checks.{causes_of_checked}
use Rattle.device.specs.declared.device.Device.{Ghosts as DeviceGhosts}
use Rattle.index_model.specs.Faults.{HasCause}
use Rattle.index_model.specs.declared.fault.Fault.{Fault}
use Rattle.index_model.specs.declared.fault.Fault.TheVariants.{Io}
use Rattle.index_model.specs.declared.format.Format.{Format}
use Rattle.page_action.specs.declared.page_store.PageStore.{Ghosts}
use Rattle.page_codec.specs.declared.page.Page.{Page}
use Rattle.page_store.specs.Stores.{state_of, device_of}
use Rattle.page_store.specs.declared.store.Store.{Store}
use Rattle.recovery.specs.Index.{HasIndex}
use Rattle.recovery.specs.Opening.{IsFreshlyOpened, IsSameIndex, StandsOnDevice}
use Rattle.command_line.specs.Listing.{causes_of_listed}

-- The store as it is opened, with 64 pages in memory, from a file that held these bytes. What it has is what
-- stood in the file, and an index is opened with its pages, as far as the file kept the disk model.
pub record IsOpenedFromFile {D : Type 0} (d : DeviceGhosts D) (bytes : ℕ → List ℕ) (store : Store D d) : Type 0 where
  pub opened : IsFreshlyOpened 64 (state_of d store)
  pub read : IsTrue (d.is_honest (device_of d store))
      → StandsOnDevice (state_of d store) (bytes_before bytes (d.trace (device_of d store)))
      (d.trace (device_of d store)).now.seen
  pub same : IsTrue (d.is_honest (device_of d store)) → (format : Format) (pages : List Page)
      → HasIndex format pages (bytes_before bytes (d.trace (device_of d store))) → IsSameIndex d format pages store

-- The store of the index in a file that held these bytes: its pages are those that it was opened with, and
-- only its own calls have written since.
pub record IsLookedAt {D : Type 0} (d : DeviceGhosts D) (g : Ghosts (Store D d)) (bytes : ℕ → List ℕ)
    (store : Store D d) : Type 0 where
  pub first : Store D d
  pub opened : IsOpenedFromFile d bytes first
  pub follows : g.follows first store
  pub state_is : g.state store ≡ g.state first

-- Why an index in a file that held these bytes isn't opened: the file couldn't be taken, or else what its
-- device tells, as the opening left it. A sound one is refused for want of memory or of the device alone.
abbrev pub IsOpeningRefused : {D : Type 0} (d : DeviceGhosts D) → (Format → List Page → Type 0) → (ℕ → List ℕ) → ℕ → Fault → Option D → Type 0
IsOpeningRefused d Sound bytes frames fault None = fault ≡ Io
IsOpeningRefused d Sound bytes frames fault (Some device) = IsNotOpened d Sound bytes frames fault device

-- a store that was looked at, whose check is refused with this fault, which has its cause since it was opened
pub record IsCheckRefused {D : Type 0} (d : DeviceGhosts D) (g : Ghosts (Store D d)) (bytes : ℕ → List ℕ) (fault : Fault)
    (store : Store D d) : Type 0 where
  pub looked : IsLookedAt d g bytes store
  pub cause : HasCause (causes_of_checked (g.state store) (g.backing looked.first) (g.backing store)) fault

-- ... whose dump is refused with this fault, which has its cause since it was opened
pub record IsDumpRefused {D : Type 0} (d : DeviceGhosts D) (g : Ghosts (Store D d)) (bytes : ℕ → List ℕ) (fault : Fault)
    (store : Store D d) : Type 0 where
  pub looked : IsLookedAt d g bytes store
  pub cause : HasCause (causes_of_listed (g.state store) (g.backing looked.first) (g.backing store)) fault
