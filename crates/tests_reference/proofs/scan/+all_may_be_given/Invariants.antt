use Rattle.std.proofs.Common.{length}
use Rattle.tests_reference.proofs.scan.+all_may_be_given.Given as goal

abbrev pub decreases-all_may_be_given : goal.decreases-all_may_be_given
decreases-all_may_be_given l = length l.given.now
