use Rattle.std.proofs.Common.{◌≡◌, ◌+◌, true, false, refl, arith}
use Rattle.amcheck.proofs.Imports.{Downlink, from_low, nodes_of, HasOtherLow}
use Rattle.amcheck.proofs.ItemsNoted.{one_more, item_inside}
use Rattle.amcheck.proofs.downlinks.has_wrong_bound.Goals as goal

pub returns-then-has_other_low : goal.returns-then-has_other_low
returns-then-has_other_low c = (
  λ e. record { item = c.loop-item.item; link = c.link_at-link.result; there = c.link_at-link.ensures; wrong = c.if-has_other_low.ensures.0 refl },
  λ w. refl,
)

pub loop-item-preserved : goal.loop-item-preserved
loop-item-preserved c =
    one_more (λ (d : Downlink). HasOtherLow (nodes_of c.args.pages.now) c.args.stops.now d → ⊥) (from_low c.args.low.now c.args.links.now)
    c.loop-item.item (c.loop-item.item + 1) c.link_at-link.result c.link_at-link.ensures
    (λ h. let k : false ≡ true = c.if-has_other_low.ensures.1 h in absurd cc) (omega arith) c.loop-item.invariant

pub returns : goal.returns
returns c = (
  λ e. absurd (let k : false ≡ true = e in cc),
  λ w. absurd (let lt = item_inside c.args.low.now c.args.links.now w.item w.link w.there in c.loop-item.invariant w.item w.link (omega (arith, lt, c.loop-item-test.false)) w.there w.wrong),
)
