use Rattle.std.proofs.Common.{false, ap}
use Rattle.amcheck.proofs.Imports.{Format, StandAtTheirBlocks}
use Rattle.amcheck.proofs.JudgedPages.{not_begun, not_read, read_judged}
use Rattle.amcheck.proofs.KeysSeen.{levels_told}
use Rattle.amcheck.proofs.Judged.{they_stand, they_are_few}
use Rattle.amcheck.proofs.checking.check_by.Given.{Over}
use Rattle.amcheck.proofs.checking.check_by.Goals.{In-Ok-read_pages}
use Rattle.amcheck.proofs.checking.check_by.Goals as goal

stand : (g : Over) (c : In-Ok-read_pages g) → StandAtTheirBlocks c.in-Ok-read_pages.pages
stand g c = they_stand (g.S.PageStore.state c.args.store.now).format c.in-Ok-read_pages.pages c.in-Ok-read_pages.ensures.read.stored

pub judge_chains-requires-clause-stand : goal.judge_chains-requires-clause-stand
judge_chains-requires-clause-stand g c = stand g (goal.at.judge_chains-requires-clause-stand g c).In-Ok-read_pages

pub judge_chains-requires-clause-few : goal.judge_chains-requires-clause-few
judge_chains-requires-clause-few g c = they_are_few c.in-Ok-read_pages.pages (stand g (goal.at.judge_chains-requires-clause-few g c).In-Ok-read_pages)

pub returns-in-Err-clause-judged : goal.returns-in-Err-clause-judged
returns-in-Err-clause-judged g c = not_begun g.S.PageStore false c.in-Err.fault c.args.store.now c.in-Err.ensures.fault

pub returns-in-Err-new-clause-judged : goal.returns-in-Err-new-clause-judged
returns-in-Err-new-clause-judged g c = not_begun g.S.PageStore false c.in-Err-new.fault c.args.store.now c.in-Err-new.ensures.fault

pub returns-in-Err-read_pages-clause-judged : goal.returns-in-Err-read_pages-clause-judged
returns-in-Err-read_pages-clause-judged g c =
    let read = c.read_pages.ensures in
    let refused = c.in-Err-read_pages in
    not_read g.S.PageStore false c.args.store.now c.read_pages.new.store read.steps read.state read.room read.frames refused.fault refused.ensures.memory refused.ensures.cause

pub returns-clause-judged : goal.returns-clause-judged
returns-clause-judged g c =
    let read = c.read_pages.ensures in
    let known = c.in-Ok-read_pages.ensures in
    let judged = c.judge_chains.ensures in
    read_judged g.S.PageStore false c.args.store.now c.read_pages.new.store read.steps read.state read.room read.frames known.alive c.in-Ok-read_pages.pages known.read
    c.format-keys.result.unique (ap (λ (f : Format). f.unique) c.format-keys.ensures.value) c.judge_chains.result c.told.result c.told.ensures.ok c.told.ensures.err
    judged.sound judged.report judged.first judged.damaged

pub returns-clause-levels : goal.returns-clause-levels
returns-clause-levels g c honest =
    levels_told (g.S.PageStore.state c.args.store.now) c.in-Ok-read_pages.pages c.format-keys.result.unique
    (ap (λ (f : Format). f.unique) c.format-keys.ensures.value) c.in-Ok-read_pages.ensures.read.stored
    (c.in-Ok-read_pages.ensures.read.same honest) c.judge_chains.result c.told.result c.told.ensures.ok c.told.ensures.err c.judge_chains.ensures.levels c.judge_chains.ensures.unique
