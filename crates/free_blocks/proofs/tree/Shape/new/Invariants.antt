use Rattle.std.proofs.Common.{◌-◌, ◌≡◌, ◌≤◌, ◌<◌}
use Rattle.free_blocks.specs.Tree.{leftmost}
use Rattle.free_blocks.proofs.tree.Shape.new.Given as goal

abbrev pub invariant-loop-size : goal.invariant-loop-size
invariant-loop-size l = record {
  full : l.size ≡ leftmost 1 l.depth;
  deep : l.depth < l.size;
  least : l.size ≤ 131072;
}

abbrev pub decreases-loop-size : goal.decreases-loop-size
decreases-loop-size l = l.places - l.size
