use Rattle.std.proofs.Common.{◌+◌, ◌*◌, ◌/◌, ◌<◌, ◌≤◌, ℕ, Option, ap, length, length-set, sym, subst, ◌∙◌, inl, inr, arith}
use Rattle.std.proofs.lemmas.Bool.{cases_eq}
use Rattle.std.proofs.lemmas.List.{drop-set-lt, drop-set-add}
use Rattle.free_blocks.specs.Numbers.{number_at, lesser}
use Rattle.free_blocks.specs.Tree.{IsWinner}
use Rattle.free_blocks.proofs.Winners.{leftmost-least, winner_stays, winner_put}
use Rattle.free_blocks.proofs.tree.put.Goals as goal

pub loop-node-init : goal.loop-node-init
loop-node-init c =
    let tree = c.args.tree.now in
    let size = c.args.shape.size in
    let at = size + c.args.block in
    record {
      least = omega (arith, c.args.shape.full, leftmost-least c.args.shape.depth 1);
      inside = omega (arith, c.requires.place, c.requires.places);
      others = λ node one small not_above.
          winner_stays tree at c.args.number node (λ e. omega (arith, e)) (λ e. not_above (omega (arith, e))) (λ e. not_above (omega (arith, e))) (c.requires.winners node one small);
      blocks = drop-set-add size tree c.args.block c.args.number;
    }

pub loop-node-preserved : goal.loop-node-preserved
loop-node-preserved c =
    let tree = c.loop-node.tree in
    let size = c.args.shape.size in
    let started = c.args.tree.now in
    let above = c.loop-node.node / 2 in
    let before = c.loop-node.invariant in
    let one : 1 ≤ above = omega arith in
    let small : above < size = omega (arith, before.inside) in
    let inside : above < length tree = omega (arith, c.requires.place, c.loop-node.auto.tree, length-set started (size + c.args.block) c.args.number) in
    record {
      least = one;
      inside = omega arith;
      others = λ node from to not_above. elim (cases_eq node above) [
        | inl same ↦ subst (IsWinner _) (sym same)
            (winner_put tree above c.lesser.result one inside
            (c.lesser.ensures ∙ ap (λ (a : Option ℕ). lesser a c.number_at-in-loop-node.result) c.number_at.ensures
            ∙ ap (λ (b : Option ℕ). lesser (number_at tree (2 * above)) b) c.number_at-in-loop-node.ensures))
        | inr other ↦ winner_stays tree above c.lesser.result node other (λ e. not_above (omega (arith, e))) (λ e. not_above (omega (arith, e))) (before.others node from to other)
      ];
      blocks = drop-set-lt size tree above c.lesser.result small ∙ before.blocks;
    }
