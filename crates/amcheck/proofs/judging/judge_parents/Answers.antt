use Rattle.std.proofs.Common.{◌≡◌, ◌≤◌, None, length, ap, ◌∙◌, arith}
use Rattle.amcheck.proofs.Imports.{length-replicate, few_blocks}
use Rattle.amcheck.proofs.ParentDamages.{stops_in_use, all_sound, first_stray}
use Rattle.amcheck.proofs.Walked.{blocks_length}
use Rattle.amcheck.proofs.judging.judge_parents.Goals.{Start}
use Rattle.amcheck.proofs.judging.judge_parents.Goals as goal

few_stops : (c : Start) → length c.args.chains.now ≤ 65536
few_stops c =
    let few = few_blocks (length c.args.pages.now) c.args.met.now.blocks.items c.requires.some c.requires.met.distinct c.requires.met.in_use in
    omega (arith, few, ap length c.requires.added, blocks_length c.args.chains.now, c.requires.few)

pub note_places-requires-clause-few : goal.note_places-requires-clause-few
note_places-requires-clause-few c = few_stops (goal.at.note_places-requires-clause-few c).Start

pub note_places-requires-clause-in_use : goal.note_places-requires-clause-in_use
note_places-requires-clause-in_use c k s there =
    let on = stops_in_use c.args.pages.now c.args.chains.now c.requires.chains c.requires.sound k s there in
    let size : length c.args.places.now ≡ length c.args.pages.now = ap length c.requires.places ∙ length-replicate (length c.args.pages.now) None in
    (on.0, omega (arith, on.1, size))

pub find_parent_damage-requires-clause-few : goal.find_parent_damage-requires-clause-few
find_parent_damage-requires-clause-few c = few_stops (goal.at.find_parent_damage-requires-clause-few c).Start

pub returns-in-None-clause-none : goal.returns-in-None-clause-none
returns-in-None-clause-none c =
    all_sound c.args.pages.now c.args.chains.now c.requires.chains c.requires.sound c.in_default.ensures.none c.args.met.now.blocks.items c.requires.added c.in-None.ensures.none

pub returns-in-Some-find_stray-clause-some : goal.returns-in-Some-find_stray-clause-some
returns-in-Some-find_stray-clause-some c =
    first_stray c.args.pages.now c.args.chains.now c.requires.chains c.requires.sound c.in_default.ensures.none c.args.met.now.blocks.items c.requires.added
    c.in-Some-find_stray.block c.in-Some-find_stray.ensures.some c.in-Some-find_stray.ensures.least
