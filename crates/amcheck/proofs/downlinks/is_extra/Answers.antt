use Rattle.std.proofs.Common.{◌≡◌, true, false, refl}
use Rattle.tree_shape.specs.Nodes.{nodes_of}
use Rattle.amcheck.proofs.ItemsNoted.{extra_none, extra_skipped, extra_linked}
use Rattle.amcheck.proofs.downlinks.is_extra.Goals as goal

pub returns-in-None : goal.returns-in-None
returns-in-None c = extra_none (nodes_of c.args.pages.now) c.args.stops.now c.args.linked.now c.args.child c.in-None.ensures.none

pub returns-then-is_skipped : goal.returns-then-is_skipped
returns-then-is_skipped c =
    extra_skipped (nodes_of c.args.pages.now) c.args.stops.now c.args.linked.now c.args.child c.in-Some.stop c.in-Some.ensures.some
    (c.if-is_skipped.ensures.0 refl)

pub returns : goal.returns
returns c =
    extra_linked _ (nodes_of c.args.pages.now) c.args.stops.now c.args.linked.now c.args.child c.in-Some.stop c.requires.once c.in-Some.ensures.some
    (λ skipped. let k : false ≡ true = c.if-is_skipped.ensures.1 skipped in absurd cc) refl
