-- What a check answers: a report, or the first damage.
use Rattle.std.specs.Prelude.{Bool, Result, Ok, Err, List}
use Rattle.page_codec.specs.declared.page.Page.{Page}
use Rattle.damages.specs.Damages.{IsSound, IsFirstDamage}
use Rattle.amcheck.specs.Reports.{IsReport}
use Rattle.amcheck.specs.declared.report.CheckFault.{CheckFault}
use Rattle.amcheck.specs.declared.report.CheckFault.TheVariants.{Damage, Refused}
use Rattle.amcheck.specs.declared.report.Report.{Report}

-- If there is no damage, the answer is the report on the pages. Else it is the number and the block of the
-- first damage. Parents and children are judged or not. What a unique index asks of bounds and keys is judged
-- on such an index alone.
abbrev pub IsAnswer : (parents keys : Bool) → List Page → Result Report CheckFault → Type 0
IsAnswer parents keys pages (Ok report) = IsSound parents keys pages × IsReport pages report
IsAnswer parents keys pages (Err (Damage number block)) = IsFirstDamage parents keys pages number block
IsAnswer parents keys pages (Err (Refused fault)) = Unit {0}
