-- A refusal is told by a number that isn't 0.
use Rattle.std.specs.Prelude.{◌≡◌, ◌≢◌, Result, Ok, Err}
use Rattle.amcheck.specs.declared.report.CheckFault.{CheckFault}
use Rattle.amcheck.specs.declared.report.CheckFault.TheVariants.{Damage, Refused}
use Rattle.amcheck.specs.declared.report.Report.{Report}
use Rattle.index_model.specs.Faults.{number_of}
use Rattle.index_model.specs.declared.fault.Fault.{Fault}
use Rattle.index_model.specs.declared.fault.Fault.TheVariants.{NoMemory, Io, Stopped, Blocked, Exists, KeyTooLong, BadRow, IndexFull, LogFull, NoFrame, VacuumRunning, NoSession, SessionBusy, BadSuper, BadVersion, LogDamaged, PageDamaged, BadLimits, TooTall, DeviceTooSmall, KeyExists}
use Rattle.nardsill.specs.Checking.{AnswersCheck, IsCheckRefusal}
use Rattle.nardsill.specs.declared.checking.Checked.{Checked}

pub never_0 : (fault : Fault) → number_of fault ≡ 0 → ⊥
never_0 NoMemory h = cc
never_0 Io h = cc
never_0 Stopped h = cc
never_0 (Blocked b) h = cc
never_0 Exists h = cc
never_0 KeyTooLong h = cc
never_0 BadRow h = cc
never_0 IndexFull h = cc
never_0 LogFull h = cc
never_0 NoFrame h = cc
never_0 VacuumRunning h = cc
never_0 NoSession h = cc
never_0 SessionBusy h = cc
never_0 BadSuper h = cc
never_0 BadVersion h = cc
never_0 LogDamaged h = cc
never_0 (PageDamaged b) h = cc
never_0 BadLimits h = cc
never_0 TooTall h = cc
never_0 DeviceTooSmall h = cc
never_0 (KeyExists r) h = cc

-- a check that doesn't answer 0 tells the fault that it was refused with
pub refusal_of : (outcome : Result Report CheckFault) (checked : Checked) → AnswersCheck outcome checked → checked.status ≢ 0
    → (fault : Fault) × IsCheckRefusal fault checked
refusal_of (Ok report) checked told differs = absurd (differs told.status)
refusal_of (Err (Damage number block)) checked told differs = absurd (differs told.status)
refusal_of (Err (Refused fault)) checked told differs = (fault, told)
