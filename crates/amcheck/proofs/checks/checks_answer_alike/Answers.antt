use Rattle.amcheck.proofs.Alike.{answers_are_one, parents_see_more}
use Rattle.amcheck.proofs.checks.checks_answer_alike.Goals as goal

pub returns-clause-one : goal.returns-clause-one
returns-clause-one c = answers_are_one c.first_damage_is_one.ensures.one c.first_damage_is_one.ensures.none

pub returns-clause-parents : goal.returns-clause-parents
returns-clause-parents c = parents_see_more c.first_damage_is_one.ensures.one c.first_damage_is_one.ensures.none
