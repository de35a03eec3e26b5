use Rattle.world.proofs.Fresh.{new_indexes}
use Rattle.world.proofs.laws.new_indexes_are_trees.Goals as goal

pub returns : goal.returns
returns c = new_indexes
