-- What has become of a file in which C had an index made.
use Rattle.std.specs.Prelude.{◌≡◌, ◌≢◌, ◌⊎◌}
use Rattle.device.specs.declared.device.Device.{Ghosts as DeviceGhosts}
use Rattle.index_model.specs.Formats.{made}
use Rattle.index_model.specs.Limits.{AreLimits}
use Rattle.index_model.specs.declared.fault.Fault.{Fault}
use Rattle.index_model.specs.declared.fault.Fault.TheVariants.{Io, BadLimits, BadVersion}
use Rattle.recovery.specs.Fresh.{IsEmptyIndex, CrashesToEmpty}
use Rattle.nardsill.specs.Asking.{limits_asked}
use Rattle.nardsill.specs.Meanings.{AnswersFault}
use Rattle.nardsill.specs.declared.answer.CallAnswer.{CallAnswer}
use Rattle.nardsill.specs.declared.ask.MakeAsk.{MakeAsk}

-- the device over the file has an empty index of the limits that were asked for, all of it synced
pub record IsMadeBy {D : Type 0} (d : DeviceGhosts D) (ask : MakeAsk) (device : D) : Type 0 where
  pub allowed : AreLimits (made (limits_asked ask))
  pub empty : IsEmptyIndex (made (limits_asked ask)) (d.trace device).now
  pub crashes : CrashesToEmpty (made (limits_asked ask)) (d.trace device).now

abbrev pub IsMadeAsAsked : {D : Type 0} → DeviceGhosts D → MakeAsk → Type 0
IsMadeAsAsked {D} d ask = (device : D) × IsMadeBy d ask device

-- limits out of their ranges, a call of the file, or a file of another number than C told
abbrev pub IsMakeFault : MakeAsk → Fault → Type 0
IsMakeFault ask fault = ((fault ≡ BadLimits) × (AreLimits (made (limits_asked ask)) → ⊥)) ⊎ (fault ≡ Io) ⊎ (fault ≡ BadVersion)

-- Where 0 is answered the index was made that was asked for; else a fault of making is told.
pub record IsMade {D : Type 0} (d : DeviceGhosts D) (ask : MakeAsk) (answer : CallAnswer) : Type 0 where
  pub as_asked : answer.status ≡ 0 → IsMadeAsAsked d ask
  pub refused : answer.status ≢ 0 → (fault : Fault) × IsMakeFault ask fault × AnswersFault fault answer
