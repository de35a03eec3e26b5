use Rattle.std.proofs.Common.{length}
use Rattle.tests_reference.proofs.bulk_delete.+is_added_in.Given as goal

abbrev pub decreases-is_added_in : goal.decreases-is_added_in
decreases-is_added_in l = length l.actions.now
