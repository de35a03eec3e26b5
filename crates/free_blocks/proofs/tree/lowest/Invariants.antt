use Rattle.std.proofs.Common.{◌≡◌, ◌+◌, ◌≤◌, ℕ, true}
use Rattle.free_blocks.specs.Numbers.{number_at, is_at_most}
use Rattle.free_blocks.proofs.Winners.{LeadsToLowest}
use Rattle.free_blocks.proofs.tree.lowest.Given as goal

abbrev pub invariant-loop : goal.invariant-loop
invariant-loop l = record {
  least : 1 ≤ l.node;
  low : is_at_most l.most (number_at l.tree l.node) ≡ true;
  leads : (levels : ℕ) → l.counter + levels ≡ l.shape.depth → LeadsToLowest l.tree l.shape.size l.most l.node levels;
}
