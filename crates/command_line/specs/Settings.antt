-- The sizes that a script may be run with.
use Rattle.std.specs.Prelude.{◌≡◌, ◌≤◌, ◌⊎◌}
use Rattle.index_model.specs.Formats.{made}
use Rattle.index_model.specs.Limits.{AreLimits}
use Rattle.index_model.specs.declared.fault.Fault.{Fault}
use Rattle.index_model.specs.declared.fault.Fault.TheVariants.{BadLimits}
use Rattle.recovery.specs.Opening.{IsNoMemoryOrIo}
use Rattle.command_line.specs.declared.engine.Setting.{Setting}

-- as many pages in memory, and as many sessions, as an index may have
pub record IsSetting (setting : Setting) : Type 0 where
  pub frames_from : 16 ≤ setting.frames
  pub frames_to : setting.frames ≤ 1024
  pub sessions_from : 1 ≤ setting.sessions
  pub sessions_to : setting.sessions ≤ 64

-- ... of limits that it may have
pub record IsInRange (setting : Setting) : Type 0 where
  pub limits : AreLimits (made setting.limits)
  pub sizes : IsSetting setting

-- why no index of this setting was made: a size is out of its range; or memory was refused, or a call of the
-- device failed
abbrev pub IsNotMade : Setting → Fault → Type 0
IsNotMade setting fault = ((fault ≡ BadLimits) × (IsInRange setting → ⊥)) ⊎ IsNoMemoryOrIo fault
