use Rattle.std.proofs.Common.{arith}
use Rattle.buffer_pool.specs.Orders.{width_of}
use Rattle.buffer_pool.proofs.order.Order.make_room.Goals as goal

pub returns-else-self-len-clause-room : goal.returns-else-self-len-clause-room
unfolding width_of
returns-else-self-len-clause-room c = omega (arith, c.if-self-len.false, c.len.ensures.len, c.args.self.now.within)
