use Rattle.std.proofs.Common.{length}
use Rattle.tests_reference.proofs.scan.+is_up_to_last_or.Given as goal

abbrev pub decreases-is_up_to_last_or : goal.decreases-is_up_to_last_or
decreases-is_up_to_last_or l = length l.list.now
