use Rattle.std.proofs.Common.{◌≡◌, ◌+◌, suc, true, false, refl, arith}
use Rattle.amcheck.proofs.Imports.{Downlink, from_low, index_of, IsOnLevel}
use Rattle.amcheck.proofs.ItemsNoted.{off_here, one_more, item_inside}
use Rattle.amcheck.proofs.downlinks.find_off.Goals as goal

pub returns-then-not-is_below-clause-some : goal.returns-then-not-is_below-clause-some
returns-then-not-is_below-clause-some c =
    off_here (index_of c.args.pages.now) c.args.depth (from_low c.args.low.now c.args.links.now) c.loop-item.item c.link_at-link.result c.link_at-link.ensures
    (λ on. let k : false ≡ true = c.if-not-is_below.ensures.1 on in absurd cc) c.loop-item.invariant

pub loop-item-preserved : goal.loop-item-preserved
loop-item-preserved c =
    one_more (λ (d : Downlink). IsOnLevel (index_of c.args.pages.now) (suc c.args.depth) d.child) (from_low c.args.low.now c.args.links.now)
    c.loop-item.item (c.loop-item.item + 1) c.link_at-link.result c.link_at-link.ensures
    (c.if-not-is_below.ensures.0 refl) (omega arith) c.loop-item.invariant

pub returns-clause-none : goal.returns-clause-none
returns-clause-none c item link found =
    let lt = item_inside c.args.low.now c.args.links.now item link found in
    c.loop-item.invariant item link (omega (arith, lt, c.loop-item-test.false)) found
