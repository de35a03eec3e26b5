use Rattle.std.proofs.Common.{length}
use Rattle.tests_reference.proofs.scan.+ascends_past.Given as goal

abbrev pub decreases-ascends_past : goal.decreases-ascends_past
decreases-ascends_past l = length l.list.now
