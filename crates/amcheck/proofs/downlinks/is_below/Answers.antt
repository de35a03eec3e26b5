use Rattle.std.proofs.Common.{◌≡◌, ◌+◌, ◌-◌, suc, true, false, arith}
use Rattle.damages.specs.Damages.{index_of}
use Rattle.amcheck.proofs.WaysLeft.{level_there, level_back}
use Rattle.amcheck.proofs.downlinks.is_below.Goals as goal

pub returns-then-level-eq0 : goal.returns-then-level-eq0
returns-then-level-eq0 c = (
  λ e. absurd (let k : false ≡ true = e in cc),
  λ on. absurd (let l = on.level_is in omega (arith, l, c.requires, c.if-level-eq0.true)),
)

pub returns : goal.returns
returns c =
    let sum : c.args.level - 1 + suc c.args.depth ≡ (index_of c.args.pages.now).top = (let some = c.if-level-eq0.false in let s = c.requires in omega arith) in (
      λ e. level_there c.args.pages.now (c.args.level - 1) (suc c.args.depth) c.args.child sum (c.is_on_level.ensures.0 e),
      λ on. c.is_on_level.ensures.1 (level_back c.args.pages.now (c.args.level - 1) (suc c.args.depth) c.args.child sum on),
    )
