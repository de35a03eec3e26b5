use Rattle.std.proofs.Common.{◌≡◌, ◌+◌, ◌*◌, suc, ℕ, subst, arith}
use Rattle.free_blocks.specs.Tree.{leftmost}
use Rattle.free_blocks.proofs.Winners.{leftmost-double}
use Rattle.free_blocks.proofs.tree.Shape.new.Goals as goal

pub loop-size-preserved : goal.loop-size-preserved
loop-size-preserved c =
    let size = c.loop-size.size in
    let depth = c.loop-size.depth in
    let before = c.loop-size.invariant in
    let next : suc depth ≡ depth + 1 = omega arith in
    let double : size * 2 ≡ leftmost 1 (suc depth) = omega (arith, before.full, leftmost-double 1 depth) in
    record {
      full = subst (λ (d : ℕ). size * 2 ≡ leftmost 1 d) next double;
      deep = omega (arith, before.deep);
      least = omega arith;
    }
