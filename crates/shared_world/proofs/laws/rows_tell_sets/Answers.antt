use Rattle.shared_world.proofs.Rows.{rows_tell}
use Rattle.shared_world.proofs.laws.rows_tell_sets.Goals as goal

pub returns : goal.returns
returns c = rows_tell
