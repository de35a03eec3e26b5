-- Why no index is served.
use Rattle.std.specs.Prelude.{◌≡◌, ℕ, List, Option, None, Some, IfNone, IfSome}
use Rattle.std.proofs.Common.{subst, sym}
use Rattle.access_method.specs.Files.{IsNotOpened}
use Rattle.device.specs.declared.device.Device.{Ghosts as DeviceGhosts}
use Rattle.index_model.specs.declared.fault.Fault.{Fault}
use Rattle.index_model.specs.declared.fault.Fault.TheVariants.{Io}
use Rattle.ledger_lines.specs.Opening.{IsNotServed, left_of}
use Rattle.ledger_lines.specs.declared.index_file.LeftDevice.{LeftDevice}
use Rattle.ledger_lines.specs.declared.index_file.LeftDevice.TheVariants.{Nothing}
use Rattle.tree_acts.specs.TheoremKeys.{IsTreeFor}

-- a file that was there, of which this device is left
pub found_refused : {D N : Type 0} (d : DeviceGhosts D) (e : DeviceGhosts N) (bytes : ℕ → List ℕ) (fault : Fault) (left : LeftDevice D N) (device : Option D)
    → left ≡ left_of device → IfSome device (IsNotOpened d IsTreeFor bytes 64 fault) → IfNone device (fault ≡ Io) → IsNotServed d e bytes fault left
found_refused {D} {N} d e bytes fault left device is cause untaken = subst (λ (l : LeftDevice D N). IsNotServed d e bytes fault l) (sym is) (of device cause untaken)
  where
    of : (o : Option D) → IfSome o (IsNotOpened d IsTreeFor bytes 64 fault) → IfNone o (fault ≡ Io) → IsNotServed d e bytes fault (left_of o)
    of None cause untaken = untaken
    of (Some device) cause untaken = cause

-- no file was taken
pub nothing_refused : {D N : Type 0} (d : DeviceGhosts D) (e : DeviceGhosts N) (bytes : ℕ → List ℕ) (fault : Fault) (left : LeftDevice D N)
    → fault ≡ Io → left ≡ Nothing → IsNotServed d e bytes fault left
nothing_refused {D} {N} d e bytes fault left io is = subst (λ (l : LeftDevice D N). IsNotServed d e bytes fault l) (sym is) io
