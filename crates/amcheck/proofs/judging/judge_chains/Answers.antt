use Rattle.std.proofs.Common.{false}
use Rattle.amcheck.proofs.FirstDamages.{no_pages, top_low}
use Rattle.amcheck.proofs.KeysSeen.{unique_where}
use Rattle.amcheck.proofs.judging.judge_chains.Goals as goal

pub returns-in-Err-clause-first : goal.returns-in-Err-clause-first
returns-in-Err-clause-first g c =
    no_pages c.args.keys c.args.pages.now c.in-Err.damage.number c.in-Err.damage.block c.in-Err.ensures.none c.in-Err.ensures.damage.0 c.in-Err.ensures.damage.1

pub find_chain_damage-requires-clause-low : goal.find_chain_damage-requires-clause-low
find_chain_damage-requires-clause-low g c = top_low c.args.pages.now c.in-Ok.root.block c.in-Ok.root.level c.in-Ok.ensures.named c.requires.stand

pub returns-in-None-clause-levels : goal.returns-in-None-clause-levels
returns-in-None-clause-levels g c = c.sound_pages_are_a_tree.ensures.levels false c.args.keys c.args.pages.now c.requires.stand c.in-None.ensures.none

pub returns-in-None-clause-unique : goal.returns-in-None-clause-unique
returns-in-None-clause-unique g c seen = unique_where false c.args.keys c.args.pages.now (c.sound_pages_are_a_tree.ensures.unique_levels false c.args.pages.now) c.in-None.ensures.none seen
