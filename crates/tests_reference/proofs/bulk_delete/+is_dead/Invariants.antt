use Rattle.std.proofs.Common.{length}
use Rattle.tests_reference.proofs.bulk_delete.+is_dead.Given as goal

abbrev pub decreases-is_dead : goal.decreases-is_dead
decreases-is_dead l = length l.rows.now
