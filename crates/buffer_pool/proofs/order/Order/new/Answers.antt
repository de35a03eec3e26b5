use Rattle.std.proofs.Common.{refl, arith}
use Rattle.buffer_pool.specs.Orders.{waiting_in, width_of}
use Rattle.buffer_pool.proofs.order.Order.new.Goals as goal

pub returns-clause-none : goal.returns-clause-none
unfolding waiting_in
returns-clause-none c = refl

pub returns-clause-width : goal.returns-clause-width
unfolding width_of
returns-clause-width c = omega (arith, c.loop-block.invariant.long, c.loop-block-test.false)
