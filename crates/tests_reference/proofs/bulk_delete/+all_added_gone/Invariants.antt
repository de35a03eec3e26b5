use Rattle.std.proofs.Common.{length}
use Rattle.tests_reference.proofs.bulk_delete.+all_added_gone.Given as goal

abbrev pub decreases-all_added_gone : goal.decreases-all_added_gone
decreases-all_added_gone l = length l.actions.now
