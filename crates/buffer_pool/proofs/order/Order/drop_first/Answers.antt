use Rattle.std.proofs.Common.{◌≤◌, refl, arith}
use Rattle.buffer_pool.specs.Orders.{waiting_in, width_of}
use Rattle.buffer_pool.proofs.Waiting.{window_long, dropped}
use Rattle.buffer_pool.proofs.order.Order.drop_first.Goals.{Start}
use Rattle.buffer_pool.proofs.order.Order.drop_first.Goals as goal

-- no more are taken out than wait
few : (c : Start) → c.args.count ≤ c.args.self.now.count
unfolding waiting_in
few c = omega (arith, c.requires, window_long c.args.self.now.blocks.keys c.args.self.now.first c.args.self.now.count c.args.self.now.within)

pub overflow_add-self : goal.overflow_add-self
overflow_add-self c = omega (arith, few (goal.at.overflow_add-self c).Start, c.args.self.now.within, c.args.self.now.few)

pub overflow_sub-self : goal.overflow_sub-self
overflow_sub-self c = omega (arith, few (goal.at.overflow_sub-self c).Start)

pub invariant_of-self-clause-within : goal.invariant_of-self-clause-within
invariant_of-self-clause-within c = omega (arith, few (goal.at.invariant_of-self-clause-within c).Start, c.args.self.now.within)

pub returns-clause-waiting : goal.returns-clause-waiting
unfolding waiting_in
returns-clause-waiting c = dropped c.args.self.now.blocks.keys c.args.self.now.first c.args.self.now.count c.args.count c.args.self.now.within (few (goal.at.returns-clause-waiting c).Start)

pub returns-clause-width : goal.returns-clause-width
unfolding width_of
returns-clause-width c = refl
