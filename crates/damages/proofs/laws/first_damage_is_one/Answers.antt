use Rattle.damages.proofs.Ranks.{first_is_one, first_is_none}
use Rattle.damages.proofs.laws.first_damage_is_one.Goals as goal

pub returns-clause-one : goal.returns-clause-one
returns-clause-one c = first_is_one

pub returns-clause-none : goal.returns-clause-none
returns-clause-none c = first_is_none
