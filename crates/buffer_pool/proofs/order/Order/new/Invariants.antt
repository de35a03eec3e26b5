use Rattle.std.proofs.Common.{◌≡◌, ℕ, ltb, eqb}
use Rattle.indexmap.specs.IndexSet.{contains, index_set_len}
use Rattle.buffer_pool.proofs.order.Order.new.Given as goal

abbrev pub invariant-loop-block : goal.invariant-loop-block
invariant-loop-block l = record {
  long : index_set_len l.blocks ≡ l.block;
  whole : (b : ℕ) → contains eqb l.blocks b ≡ ltb b l.block;
}
