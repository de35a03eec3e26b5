use Rattle.std.proofs.Common.{◌≡◌, ◌≢◌, ℕ, ◌*◌, ◌/◌, ◌<◌, ◌≤◌, drop, slice_set}
use Rattle.free_blocks.specs.Tree.{IsWinner}
use Rattle.free_blocks.proofs.tree.put.Given as goal

abbrev pub invariant-loop-node : goal.invariant-loop-node
invariant-loop-node l = record {
  least : 1 ≤ l.node;
  inside : l.node < 2 * l.fn.shape.size;
  others : (node : ℕ) → 1 ≤ node → node < l.fn.shape.size → node ≢ l.node / 2 → IsWinner l.tree node;
  blocks : drop l.fn.shape.size l.tree ≡ slice_set (drop l.fn.shape.size l.fn.tree) l.fn.block l.fn.number;
}

abbrev pub decreases-loop-node : goal.decreases-loop-node
decreases-loop-node l = l.node
