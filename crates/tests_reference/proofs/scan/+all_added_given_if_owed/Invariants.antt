use Rattle.std.proofs.Common.{length}
use Rattle.tests_reference.proofs.scan.+all_added_given_if_owed.Given as goal

abbrev pub decreases-all_added_given_if_owed : goal.decreases-all_added_given_if_owed
decreases-all_added_given_if_owed l = length l.actions.now
