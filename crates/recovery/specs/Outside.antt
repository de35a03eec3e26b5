-- What making or opening an index leaves alone.
use Rattle.std.specs.Prelude.{◌≡◌, ◌⊎◌, ◌+◌, ◌-◌, ◌*◌, ◌≤◌, Bool, IsTrue, length}
use Rattle.device.specs.Disk.{Trace}
use Rattle.device.specs.Moments.{AtEachMoment}
use Rattle.device.specs.Places.{ChangesOnly, IsUntouched}
use Rattle.index_model.specs.Limits.{AreLimits}
use Rattle.index_model.specs.declared.format.Format.{Format}
use Rattle.page_codec.specs.Places.{log_start, needed_length}
use Rattle.recovery.specs.Opening.{IsFront}

-- at each moment nothing has changed but the bytes of an index of these limits
abbrev pub ChangesItsBytes : Format → Trace → Trace → Type 0
ChangesItsBytes format old new = AtEachMoment (ChangesOnly 0 (needed_length format) old.now) old new

-- at each moment the bytes of its log after the first gate are as they were
abbrev pub SameLogBytes : Format → Trace → Trace → Type 0
SameLogBytes format old new = AtEachMoment (IsUntouched (log_start + 1) (format.log_bytes - 1) old.now) old new

-- at each moment nothing has changed but its log and its pages
abbrev pub ChangesAfterFront : Format → Trace → Trace → Type 0
ChangesAfterFront format old new = AtEachMoment (ChangesOnly log_start (format.log_bytes + 4096 * format.pages) old.now) old new

-- nothing but the log and the pages of one index has changed, whose superblock stood there if the device kept
-- its model
pub record ChangesOneIndex (honest : Bool) (old new : Trace) : Type 0 where
  pub format : Format
  pub allowed : AreLimits format
  pub long : needed_length format ≤ length old.now.seen
  pub front : IsTrue honest → IsFront format old.now.seen
  pub only : ChangesAfterFront format old new

-- nothing was written; or that alone
abbrev pub StaysInside : Bool → Trace → Trace → Type 0
StaysInside honest old new = (new ≡ old) ⊎ ChangesOneIndex honest old new
