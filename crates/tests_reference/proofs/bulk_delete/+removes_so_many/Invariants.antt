use Rattle.std.proofs.Common.{length}
use Rattle.tests_reference.proofs.bulk_delete.+removes_so_many.Given as goal

abbrev pub decreases-removes_so_many : goal.decreases-removes_so_many
decreases-removes_so_many l = length l.actions.now
