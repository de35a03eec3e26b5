-- What a copy leaves on a device.
use Rattle.std.specs.Prelude.{◌≡◌, ℕ, Bool, false, List, ⊤}
use Rattle.access_method.specs.Indexes.{AreSoMany}
use Rattle.device.specs.Disk.{MayCrashTo}
use Rattle.device.specs.declared.device.Device.{Ghosts as DeviceGhosts}
use Rattle.index_model.specs.Row.{Row}
use Rattle.index_model.specs.declared.entry.Entry.{Entry}
use Rattle.index_model.specs.declared.fault.Fault.{Fault}
use Rattle.index_model.specs.declared.fault.Fault.TheVariants.{KeyExists, Stopped as IsStopped}
use Rattle.index_model.specs.declared.format.Format.{Format}
use Rattle.page_action.specs.Contents.{entry_on_live_leaf}
use Rattle.page_codec.specs.declared.page.Page.{Page}
use Rattle.recovery.specs.Index.{HasIndex}
use Rattle.tree_acts.specs.TheoremKeys.{IsTreeFor}
use Rattle.index_copy.specs.Copying.{HasKeyTwice}
use Rattle.index_copy.specs.declared.copying.NotCopied.TheVariants.{NotGiven, NotPut, TooMany}
use Rattle.index_copy.specs.declared.onto.NoCopy.{NoCopy}
use Rattle.index_copy.specs.declared.onto.NoCopy.TheVariants.{NotOpened, Stopped, NotClosed}

-- the bytes are an index of this format, whose pages are a B-link tree with these entries and no other
pub record IsIndexOf (format : Format) (is_there : Entry → Bool) (image : List ℕ) : Type 0 where
  pub pages : List Page
  pub index : HasIndex format pages image
  pub tree : IsTreeFor format pages
  pub contents : (e : Entry) → entry_on_live_leaf pages e ≡ is_there e

-- so many entries there are, and whatever a crash leaves of the device now is an index of them
pub record IsCopyOf {D : Type 0} (d : DeviceGhosts D) (format : Format) (is_there : Entry → Bool) (count : ℕ) (device : D) : Type 0 where
  pub many : AreSoMany is_there count
  pub leaves : (image : List ℕ) → MayCrashTo (d.trace device).now image → IsIndexOf format is_there image

-- if one of these entries was refused because its key was there with a row, one of them has a key that
-- another has too, with this row
abbrev pub IsNoCopyFor : (Entry → Bool) → NoCopy → Type 0
IsNoCopyFor comes (NotOpened fault) = ⊤
IsNoCopyFor comes (Stopped (NotGiven fault)) = ⊤
IsNoCopyFor comes (Stopped (NotPut fault)) = (row : Row) → fault ≡ KeyExists row → HasKeyTwice comes (λ e. false) row
IsNoCopyFor comes (Stopped TooMany) = ⊤
IsNoCopyFor comes (NotClosed fault) = ⊤

-- the fault that it is refused with
abbrev pub fault_of : NoCopy → Fault
fault_of (NotOpened fault) = fault
fault_of (Stopped (NotGiven fault)) = fault
fault_of (Stopped (NotPut fault)) = fault
fault_of (Stopped TooMany) = IsStopped
fault_of (NotClosed fault) = fault
