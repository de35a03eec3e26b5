-- What is said of a device after several of its calls.
use Rattle.std.specs.Prelude.{◌≡◌, ◌⊎◌, ℕ, suc, IsTrue, length, Result, MatchResult}
use Rattle.device.specs.Disk.{CountsFailures}
use Rattle.device.specs.declared.device.Device.{Ghosts}
use Rattle.index_model.specs.declared.fault.Fault.{Fault}
use Rattle.index_model.specs.declared.fault.Fault.TheVariants.{Io}

-- nothing was read: the device is as long and as honest as before, and the answer is Io if one of
-- its calls failed
pub record OnlyWrites {D T : Type 0} (g : Ghosts D) (result : Result T Fault) (old new : D)
    : Type 0 where
  pub len : length (g.trace new).now.seen ≡ length (g.trace old).now.seen
  pub honest : g.is_honest new ≡ g.is_honest old
  pub failures : CountsFailures result (g.failures old) (g.failures new)

-- nothing was written: no byte has changed, and a read can only have broken the model
pub record OnlyReads {D : Type 0} (g : Ghosts D) (old new : D) : Type 0 where
  pub trace : g.trace new ≡ g.trace old
  pub honest : IsTrue (g.is_honest new) → IsTrue (g.is_honest old)

-- as long as before, and a read can only have broken the model
pub record ReadsAndWrites {D : Type 0} (g : Ghosts D) (old new : D) : Type 0 where
  pub len : length (g.trace new).now.seen ≡ length (g.trace old).now.seen
  pub honest : IsTrue (g.is_honest new) → IsTrue (g.is_honest old)

-- it is refused with Io if a call of the device failed, once; or it is refused for this reason, and no call
-- failed
abbrev pub IsIoOr : (Fault → Type 0) → ℕ → ℕ → Fault → Type 0
IsIoOr reason old new fault = ((fault ≡ Io) × (new ≡ suc old)) ⊎ (reason fault × (new ≡ old))

-- and answered with no failure
abbrev pub FailsWithIoOr : {T : Type 0} → (Fault → Type 0) → Result T Fault → ℕ → ℕ → Type 0
FailsWithIoOr reason result old new = MatchResult result (λ _. new ≡ old) (IsIoOr reason old new)
