-- What a copy that isn't whole tells.
use Rattle.std.specs.Prelude.{Bool, IsTrue, ⊤}
use Rattle.device.specs.declared.device.Device.{Ghosts as DeviceGhosts}
use Rattle.index_model.specs.declared.entry.Entry.{Entry}
use Rattle.index_model.specs.declared.fault.Fault.{Fault}
use Rattle.index_copy.specs.Onto.{IsNoCopyFor, fault_of}
use Rattle.index_copy.specs.declared.in_file.NotInFile.{NotInFile}
use Rattle.index_copy.specs.declared.in_file.NotInFile.TheVariants.{NotMade, NotWhole}

-- if these entries aren't all in a new file because a key was there, and its device has kept the disk model,
-- a key has two rows
abbrev pub IsNotInFileFor : {D : Type 0} (d : DeviceGhosts D) → (Entry → Bool) → NotInFile D → Type 0
IsNotInFileFor d comes (NotMade refused) = ⊤
IsNotInFileFor d comes (NotWhole half) = IsTrue (d.is_honest half.device) → IsNoCopyFor comes half.why

-- the fault that it is refused with
abbrev pub fault_in_file : {D : Type 0} → NotInFile D → Fault
fault_in_file (NotMade refused) = refused.fault
fault_in_file (NotWhole half) = fault_of half.why
