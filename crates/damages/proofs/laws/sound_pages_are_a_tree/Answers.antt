use Rattle.std.proofs.Common.{true}
use Rattle.damages.proofs.KeysJudged.{without_keys, unique_levels, sound_is_unique}
use Rattle.damages.proofs.Levels.{has_levels}
use Rattle.damages.proofs.SoundTrees.{has_tree}
use Rattle.damages.proofs.laws.sound_pages_are_a_tree.Goals as goal

pub returns-clause-levels : goal.returns-clause-levels
returns-clause-levels c = λ parents keys pages stand sound. has_levels parents pages stand (without_keys parents keys pages sound)

pub returns-clause-unique_levels : goal.returns-clause-unique_levels
returns-clause-unique_levels c = unique_levels

pub returns-clause-tree : goal.returns-clause-tree
returns-clause-tree c = λ keys pages stand sound. has_tree pages stand (without_keys true keys pages sound)

pub returns-clause-unique : goal.returns-clause-unique
returns-clause-unique c = sound_is_unique
