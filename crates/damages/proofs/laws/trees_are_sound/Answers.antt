use Rattle.damages.proofs.TreesSound.{tree_is_sound}
use Rattle.damages.proofs.laws.trees_are_sound.Goals as goal

pub returns : goal.returns
returns c = record { sound = tree_is_sound }
