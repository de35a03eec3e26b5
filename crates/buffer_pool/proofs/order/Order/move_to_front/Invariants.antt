use Rattle.std.proofs.Common.{◌≡◌, ◌+◌, ◌<◌, ◌≤◌, ℕ, get_or}
use Rattle.indexmap.specs.IndexSet.{index_set_len}
use Rattle.buffer_pool.proofs.order.Order.move_to_front.Given as goal

abbrev pub invariant-loop-at : goal.invariant-loop-at
invariant-loop-at l = record {
  long : index_set_len l.self.blocks ≡ index_set_len l.fn.self.blocks;
  first : l.self.first ≡ l.fn.self.first;
  count : l.self.count ≡ l.fn.self.count;
  done : (k : ℕ) → k < l.at → get_or l.self.blocks.keys k 0 ≡ get_or l.fn.self.blocks.keys (l.fn.self.first + k) 0;
  left : (k : ℕ) → l.at ≤ k → get_or l.self.blocks.keys (l.fn.self.first + k) 0 ≡ get_or l.fn.self.blocks.keys (l.fn.self.first + k) 0;
}
