use Rattle.std.proofs.Common.{sym}
use Rattle.buffer_pool.specs.Orders.{waiting_in}
use Rattle.buffer_pool.proofs.Waiting.{window_long}
use Rattle.buffer_pool.proofs.order.Order.len.Goals as goal

pub returns : goal.returns
unfolding waiting_in
returns c = sym (window_long c.args.self.now.blocks.keys c.args.self.now.first c.args.self.now.count c.args.self.now.within)
