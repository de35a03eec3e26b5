-- Which blocks wait in an order.
use Rattle.std.specs.Prelude.{ℕ, List, take, drop}
use Rattle.indexmap.specs.IndexSet.{index_set_len}
use Rattle.buffer_pool.specs.declared.order.Order.{Order}

-- the blocks that wait, in their order
unfoldable pub waiting_in : Order → List ℕ
waiting_in order = take order.count (drop order.first order.blocks.keys)

-- blocks below this number may wait
unfoldable pub width_of : Order → ℕ
width_of order = index_set_len order.blocks
