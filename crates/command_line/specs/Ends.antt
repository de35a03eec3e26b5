-- The statuses that the program ends with.
use Rattle.std.specs.Prelude.{ℕ}
use Rattle.command_line.specs.declared.end.End.{End}
use Rattle.command_line.specs.declared.end.End.TheVariants.{Done, Damaged, AlreadyPrinted, Refused}

-- 0 if all was done, 1 if a check found damage, 2 if something was wrong
abbrev pub status_of : End → ℕ
status_of Done = 0
status_of Damaged = 1
status_of AlreadyPrinted = 2
status_of (Refused fault) = 2
