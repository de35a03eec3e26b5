use Rattle.std.proofs.Common.{length}
use Rattle.tests_reference.proofs.contents.+last.Given as goal

abbrev pub decreases-last : goal.decreases-last
decreases-last l = length l.history.now
