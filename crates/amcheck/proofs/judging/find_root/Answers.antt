use Rattle.std.proofs.Common.{◌<◌, length, sym, ◌∙◌, arith}
use Rattle.amcheck.proofs.FirstDamages.{names_root, never_rootless}
use Rattle.amcheck.proofs.judging.find_root.Goals.{After-sketch-meta}
use Rattle.amcheck.proofs.judging.find_root.Goals as goal

some : (c : After-sketch-meta) → 0 < length c.args.pages.now
some c = (let filled = c.if-len-eq0.false in let size = c.len.ensures in omega arith)

pub returns-in-None-clause-none : goal.returns-in-None-clause-none
returns-in-None-clause-none c =
    absurd (never_rootless c.args.pages.now c.requires.stand (some (goal.at.returns-in-None-clause-none c).After-sketch-meta) (sym c.sketch-meta.ensures.is.right ∙ c.in-None.is))

pub returns-in-Some-clause-named : goal.returns-in-Some-clause-named
returns-in-Some-clause-named c =
    names_root c.args.pages.now c.in-Some.block c.sketch-meta.result.now.level c.requires.stand (some (goal.at.returns-in-Some-clause-named c).After-sketch-meta)
    (sym c.sketch-meta.ensures.is.right ∙ c.in-Some.is) c.sketch-meta.ensures.is.level
