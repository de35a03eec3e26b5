-- How a ledger's index is opened or made.
use Rattle.std.specs.Prelude.{◌≡◌, ℕ, false, IsTrue, List, Option, None, Some}
use Rattle.access_method.specs.Files.{bytes_before, IsNotOpened}
use Rattle.access_method.specs.Indexes.{IndexBegins}
use Rattle.access_method.specs.declared.index.Index.{Index}
use Rattle.device.specs.declared.device.Device.{Ghosts as DeviceGhosts}
use Rattle.index_model.specs.Formats.{made}
use Rattle.index_model.specs.declared.entry.Entry.{Entry}
use Rattle.index_model.specs.declared.fault.Fault.{Fault}
use Rattle.index_model.specs.declared.fault.Fault.TheVariants.{Io}
use Rattle.index_model.specs.declared.format.Format.{Format}
use Rattle.index_model.specs.declared.limits.Limits.{Limits}
use Rattle.ledger_lines.specs.declared.index_file.LeftDevice.{LeftDevice}
use Rattle.ledger_lines.specs.declared.index_file.LeftDevice.TheVariants.{Nothing, Found as FoundThere, Made as MadeNew}
use Rattle.ledger_lines.specs.declared.index_file.Opened.{Opened}
use Rattle.ledger_lines.specs.declared.index_file.Opened.TheVariants.{Found, Made}
use Rattle.page_action.specs.Contents.{entry_on_live_leaf}
use Rattle.page_action.specs.declared.page_store.PageStore.{Ghosts}
use Rattle.page_codec.specs.declared.page.Page.{Page}
use Rattle.page_store.specs.Stores.{device_of}
use Rattle.page_store.specs.declared.store.Store.{Store}
use Rattle.recovery.specs.Index.{HasIndex}
use Rattle.recovery.specs.Opening.{IsNoMemoryOrIo}
use Rattle.tree_acts.specs.TheoremKeys.{IsTreeFor}

-- the sizes of a new ledger
abbrev pub new_limits : Limits
new_limits = record { items = 50; pages = 4096; log_bytes = 1048576; unique = false }

-- an index as it is opened from a file that held these bytes: if they were an index whose pages are a B-link
-- tree, with them
abbrev pub BeginsFrom : {D : Type 0} (d : DeviceGhosts D) → Ghosts (Store D d) → (ℕ → List ℕ) → Index (Store D d) → Type 0
BeginsFrom d g bytes index =
    IsTrue (d.is_honest (device_of d index.store)) → (format : Format) (pages : List Page)
    → HasIndex format pages (bytes_before bytes (d.trace (device_of d index.store)))
    → IsTreeFor format pages → IndexBegins d g format pages index

-- an index begins with pages that have no entry
pub record BeginsEmptyIndex {D : Type 0} (d : DeviceGhosts D) (g : Ghosts (Store D d)) (format : Format) (index : Index (Store D d)) : Type 0 where
  pub pages : List Page
  pub empty : (e : Entry) → entry_on_live_leaf pages e ≡ false
  pub begins : IndexBegins d g format pages index

-- a new ledger has these sizes and no entry, as far as the file kept the disk model
abbrev pub BeginsNew : {D : Type 0} (d : DeviceGhosts D) → Ghosts (Store D d) → Index (Store D d) → Type 0
BeginsNew d g index = IsTrue (d.is_honest (device_of d index.store)) → BeginsEmptyIndex d g (made new_limits) index

-- what was opened begins so if it was there, and so if it was made
abbrev pub OpensAs : {I N : Type 0} → (I → Type 0) → (N → Type 0) → Opened I N → Type 0
OpensAs Is New (Found index) = Is index
OpensAs Is New (Made index) = New index

-- the device that an opening of a file that was there has left, if it took the file
abbrev pub left_of : {D N : Type 0} → Option D → LeftDevice D N
left_of None = Nothing
left_of (Some device) = FoundThere device

-- Why no new index is served: it couldn't be made, for a call of the file; or it was, and there was no memory
-- to open it or its device failed, as far as that kept the disk model.
abbrev pub IsNewNotServed : {D N : Type 0} → DeviceGhosts N → Fault → LeftDevice D N → Type 0
IsNewNotServed e fault Nothing = fault ≡ Io
IsNewNotServed e fault (FoundThere device) = ⊥
IsNewNotServed e fault (MadeNew device) = IsTrue (e.is_honest device) → IsNoMemoryOrIo fault

-- Why no index is served: the file couldn't be taken or made; or else why that in a file which held these
-- bytes, or the new one, isn't opened. A sound one is refused for want of memory or of the device alone.
abbrev pub IsNotServed : {D N : Type 0} → DeviceGhosts D → DeviceGhosts N → (ℕ → List ℕ) → Fault → LeftDevice D N → Type 0
IsNotServed d e bytes fault Nothing = fault ≡ Io
IsNotServed d e bytes fault (FoundThere device) = IsNotOpened d IsTreeFor bytes 64 fault device
IsNotServed d e bytes fault (MadeNew device) = IsTrue (e.is_honest device) → IsNoMemoryOrIo fault
