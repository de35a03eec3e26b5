use Rattle.std.proofs.Common.{length}
use Rattle.tests_reference.proofs.bulk_delete.+all_gone.Given as goal

abbrev pub decreases-all_gone : goal.decreases-all_gone
decreases-all_gone l = length l.candidates.now
