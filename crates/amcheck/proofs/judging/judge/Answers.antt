use Rattle.std.proofs.Common.{true, false}
use Rattle.amcheck.proofs.FirstDamages.{no_pages, top_low}
use Rattle.amcheck.proofs.KeysSeen.{sound_both, first_both, unique_where}
use Rattle.amcheck.proofs.ParentDamages.{with_parents}
use Rattle.amcheck.proofs.Imports.{without_keys, IsSound}
use Rattle.amcheck.proofs.judging.judge.Given.{Over}
use Rattle.amcheck.proofs.judging.judge.Goals.{After-count_up-report}
use Rattle.amcheck.proofs.judging.judge.Goals as goal

pub returns-in-Err-clause-first : goal.returns-in-Err-clause-first
returns-in-Err-clause-first g c =
    with_parents c.args.keys c.args.pages.now c.in-Err.damage.number c.in-Err.damage.block
    (no_pages c.args.keys c.args.pages.now c.in-Err.damage.number c.in-Err.damage.block c.in-Err.ensures.none c.in-Err.ensures.damage.0 c.in-Err.ensures.damage.1)

pub find_chain_damage-requires-clause-low : goal.find_chain_damage-requires-clause-low
find_chain_damage-requires-clause-low g c = top_low c.args.pages.now c.in-Ok.root.block c.in-Ok.root.level c.in-Ok.ensures.named c.requires.stand

pub judge_parents-requires-clause-sound : goal.judge_parents-requires-clause-sound
judge_parents-requires-clause-sound g c = without_keys false c.args.keys c.args.pages.now c.in_default.ensures.none

pub returns-in-Some-judge_parents-clause-first : goal.returns-in-Some-judge_parents-clause-first
returns-in-Some-judge_parents-clause-first g c =
    first_both c.args.keys c.args.pages.now c.in_default.ensures.none c.in-Some-judge_parents.damage.number c.in-Some-judge_parents.damage.block c.in-Some-judge_parents.ensures.some

sound : (g : Over) (c : After-count_up-report g) → IsSound true c.args.keys c.args.pages.now
sound g c = sound_both c.args.keys c.args.pages.now c.in_default.ensures.none c.in_default-judge_parents.ensures.none

pub returns-clause-sound : goal.returns-clause-sound
returns-clause-sound g c = sound g (goal.at.returns-clause-sound g c).After-count_up-report

pub returns-clause-tree : goal.returns-clause-tree
returns-clause-tree g c =
    c.sound_pages_are_a_tree.ensures.tree c.args.keys c.args.pages.now c.requires.stand (sound g (goal.at.returns-clause-tree g c).After-count_up-report)

pub returns-clause-unique : goal.returns-clause-unique
returns-clause-unique g c seen =
    unique_where true c.args.keys c.args.pages.now (c.sound_pages_are_a_tree.ensures.unique c.args.pages.now c.requires.stand)
    (sound g (goal.at.returns-clause-unique g c).After-count_up-report) seen
