use Rattle.tree_shape.proofs.KeyBounds.{key_bounds_part_keys}
use Rattle.tree_shape.proofs.KeyCovers.{key_covers}
use Rattle.tree_shape.proofs.laws.keys_stand_together.Goals as goal

pub returns-clause-bounds : goal.returns-clause-bounds
returns-clause-bounds c = key_bounds_part_keys

pub returns-clause-covers : goal.returns-clause-covers
returns-clause-covers c = key_covers
