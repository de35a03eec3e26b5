use Rattle.std.proofs.Common.{length}
use Rattle.tests_reference.proofs.owned.+all_removable.Given as goal

abbrev pub decreases-all_removable : goal.decreases-all_removable
decreases-all_removable l = length l.entries.now
