use Rattle.std.proofs.Common.{◌≡◌, ◌+◌, length, true, false, refl, sym, ◌∙◌, arith}
use Rattle.amcheck.proofs.Imports.{length-set, from_low, nodes_of}
use Rattle.amcheck.proofs.ItemsNoted.{none_noted, extra_now, noted_more, none_extra, noted_all, length-from_low}
use Rattle.amcheck.proofs.downlinks.has_extra.Goals as goal

pub loop-item-init : goal.loop-item-init
loop-item-init c = record { size = refl; noted = none_noted (nodes_of c.args.pages.now) c.args.stops.now (from_low c.args.low.now c.args.links.now) c.args.linked.now }

pub is_extra-requires-clause-child : goal.is_extra-requires-clause-child
is_extra-requires-clause-child c = c.requires.in_use c.loop-item.item c.link_at-link.result c.link_at-link.ensures

pub bounds-linked-link : goal.bounds-linked-link
bounds-linked-link c = (let lt = c.requires.in_use c.loop-item.item c.link_at-link.result c.link_at-link.ensures in omega (arith, lt, c.requires.size, c.loop-item.invariant.size))

pub returns-then-is_extra-clause-extra : goal.returns-then-is_extra-clause-extra
returns-then-is_extra-clause-extra c = (
  λ e. extra_now (nodes_of c.args.pages.now) c.args.stops.now (from_low c.args.low.now c.args.links.now) c.loop-item.item c.args.linked.now
      c.loop-item.linked c.link_at-link.result c.link_at-link.ensures c.loop-item.invariant.noted (c.if-is_extra.ensures.0 refl),
  λ w. refl,
)

pub loop-item-preserved : goal.loop-item-preserved
loop-item-preserved c =
    let lt = c.requires.in_use c.loop-item.item c.link_at-link.result c.link_at-link.ensures in
    record {
      size = length-set c.loop-item.linked c.link_at-link.result.child true ∙ c.loop-item.invariant.size;
      noted = noted_more (nodes_of c.args.pages.now) c.args.stops.now (from_low c.args.low.now c.args.links.now) c.loop-item.item c.args.linked.now
          c.loop-item.linked c.link_at-link.result c.link_at-link.ensures c.loop-item.invariant.noted
          (c.loop-item.item + 1) (omega (arith, lt, c.requires.size, c.loop-item.invariant.size)) (λ extra. let k : false ≡ true = c.if-is_extra.ensures.1 extra in absurd cc) (omega arith);
    }

pub returns-clause-extra : goal.returns-clause-extra
returns-clause-extra c = (
  λ e. absurd (let k : false ≡ true = e in cc),
  λ w. absurd (none_extra (nodes_of c.args.pages.now) c.args.stops.now (from_low c.args.low.now c.args.links.now) c.loop-item.item c.args.linked.now c.loop-item.linked
      (omega (arith, length-from_low c.args.low.now c.args.links.now, c.loop-item-test.false)) c.loop-item.invariant.noted w),
)

pub returns-clause-noted : goal.returns-clause-noted
returns-clause-noted c e =
    noted_all (nodes_of c.args.pages.now) c.args.stops.now (from_low c.args.low.now c.args.links.now) c.loop-item.item (length c.args.links.now) c.args.linked.now c.loop-item.linked
    (omega (arith, length-from_low c.args.low.now c.args.links.now, c.loop-item-test.false)) (sym (length-from_low c.args.low.now c.args.links.now)) c.loop-item.invariant.noted
