use Rattle.std.proofs.Common.{◌+◌, refl, sym, subst, ◌∙◌, arith}
use Rattle.amcheck.proofs.Imports.{nodes_of, IsMet}
use Rattle.amcheck.proofs.Walked.{are_stops, ends_met, stops_few, walk_goes_on, ends_whole, are_stops_more, added_all}
use Rattle.amcheck.proofs.WaysLeft.{level_there}
use Rattle.amcheck.proofs.walks.walk.Goals as goal

pub returns-then-not-is_on_level-clause-stops : goal.returns-then-not-is_on_level-clause-stops
returns-then-not-is_on_level-clause-stops c =
    are_stops c.args.pages.now c.args.depth c.args.met.now.blocks.items c.loop.met c.loop.stops.items c.loop.stop c.loop.counter c.loop.invariant.walked

pub returns-then-has-clause-stops : goal.returns-then-has-clause-stops
returns-then-has-clause-stops c =
    are_stops c.args.pages.now c.args.depth c.args.met.now.blocks.items c.loop.met c.loop.stops.items c.loop.stop c.loop.counter c.loop.invariant.walked

pub returns-then-has-clause-end : goal.returns-then-has-clause-end
returns-then-has-clause-end c =
    ends_met c.args.pages.now c.args.depth c.args.met.now.blocks.items c.loop.met c.loop.stops.items c.loop.stop c.loop.counter c.loop.invariant.walked c.requires.apart
    (level_there c.args.pages.now c.args.level c.args.depth c.loop.stop.block c.requires.level (c.if-not-is_on_level.ensures.0 refl)) (c.if-has.ensures.0 refl)

pub returns-in-None-clause-added : goal.returns-in-None-clause-added
returns-in-None-clause-added c =
    added_all c.args.pages.now c.args.depth c.args.met.now.blocks.items c.loop.met c.loop.stops.items c.loop.stop c.loop.counter c.loop.invariant.walked
    c.add.new.self (subst (IsMet c.add.new.self) c.len-in-loop.ensures c.add.ensures.met) c.add.ensures.added
    (level_there c.args.pages.now c.args.level c.args.depth c.loop.stop.block c.requires.level (c.if-not-is_on_level.ensures.0 refl))
    c.push_reserved.new.self.items c.push_reserved.ensures.items

pub returns-in-None-clause-stops : goal.returns-in-None-clause-stops
returns-in-None-clause-stops c =
    are_stops_more c.args.pages.now c.args.depth c.args.met.now.blocks.items c.loop.met c.loop.stops.items c.loop.stop c.loop.counter c.loop.invariant.walked
    c.add.new.self (subst (IsMet c.add.new.self) c.len-in-loop.ensures c.add.ensures.met) c.add.ensures.added
    (level_there c.args.pages.now c.args.level c.args.depth c.loop.stop.block c.requires.level (c.if-not-is_on_level.ensures.0 refl))
    c.push_reserved.new.self.items c.push_reserved.ensures.items

pub returns-in-None-clause-end : goal.returns-in-None-clause-end
returns-in-None-clause-end c =
    let on = c.if-not-is_on_level.ensures.0 refl in
    ends_whole c.args.pages.now c.args.depth c.args.met.now.blocks.items c.loop.met c.loop.stops.items c.loop.stop c.loop.counter c.loop.invariant.walked
    c.add.new.self (subst (IsMet c.add.new.self) c.len-in-loop.ensures c.add.ensures.met) c.add.ensures.added
    (level_there c.args.pages.now c.args.level c.args.depth c.loop.stop.block c.requires.level on)
    c.push_reserved.new.self.items c.push_reserved.ensures.items (sym c.sketch-sketch.ensures.is.right ∙ c.in-None.is)

pub loop-preserved : goal.loop-preserved
loop-preserved c =
    let on = c.if-not-is_on_level.ensures.0 refl in
    record {
      walked = walk_goes_on c.args.pages.now c.args.depth c.args.met.now.blocks.items c.loop.met c.loop.stops.items c.loop.stop c.loop.counter c.loop.invariant.walked
          c.add.new.self (subst (IsMet c.add.new.self) c.len-in-loop.ensures c.add.ensures.met) c.add.ensures.added
          (level_there c.args.pages.now c.args.level c.args.depth c.loop.stop.block c.requires.level on)
          c.push_reserved.new.self.items c.push_reserved.ensures.items c.in-Some.right c.next_stop-stop.result (c.loop.counter + 1)
          (sym c.sketch-sketch.ensures.is.right ∙ c.in-Some.is) c.next_stop-stop.ensures.block (c.next_stop-stop.ensures.context (nodes_of c.args.pages.now) c.sketch-sketch.ensures.is) (omega arith);
      room = c.push_reserved.ensures.capacity ∙ c.loop.invariant.room;
    }

pub returns-clause-stops : goal.returns-clause-stops
returns-clause-stops c =
    are_stops c.args.pages.now c.args.depth c.args.met.now.blocks.items c.loop.met c.loop.stops.items c.loop.stop c.loop.counter c.loop.invariant.walked

pub returns-clause-end : goal.returns-clause-end
returns-clause-end c =
    let few = stops_few c.args.pages.now c.args.depth c.args.met.now.blocks.items c.loop.met c.loop.stops.items c.loop.stop c.loop.counter c.loop.invariant.walked c.requires.some in
    absurd (omega (arith, few, c.loop.invariant.walked.count, c.loop-test.false, c.len-end.ensures))
