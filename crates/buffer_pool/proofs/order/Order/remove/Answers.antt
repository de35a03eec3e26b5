use Rattle.std.proofs.Common.{◌<◌, ◌∙◌, ap, sym, ltb, arith}
use Rattle.buffer_pool.specs.Orders.{waiting_in, width_of}
use Rattle.buffer_pool.proofs.Waiting.{window_long, removed}
use Rattle.buffer_pool.proofs.order.Order.remove.Goals.{Start}
use Rattle.buffer_pool.proofs.order.Order.remove.Goals as goal

-- the place is one of those that wait
less : (c : Start) → c.args.place < c.args.self.now.count
unfolding waiting_in
less c = omega (arith, c.requires, window_long c.args.self.now.blocks.keys c.args.self.now.first c.args.self.now.count c.args.self.now.within)

pub overflow_add-self : goal.overflow_add-self
overflow_add-self c = omega (arith, less (goal.at.overflow_add-self c).Start, c.args.self.now.within, c.args.self.now.few)

pub move_index-requires-clause-from_in_bounds : goal.move_index-requires-clause-from_in_bounds
move_index-requires-clause-from_in_bounds c = omega (arith, less (goal.at.move_index-requires-clause-from_in_bounds c).Start, c.args.self.now.within)

pub move_index-requires-clause-to_in_bounds : goal.move_index-requires-clause-to_in_bounds
move_index-requires-clause-to_in_bounds c = omega (arith, less (goal.at.move_index-requires-clause-to_in_bounds c).Start, c.args.self.now.within)

pub overflow_sub-self : goal.overflow_sub-self
overflow_sub-self c = omega (arith, less (goal.at.overflow_sub-self c).Start)

pub invariant_of-self-clause-within : goal.invariant_of-self-clause-within
invariant_of-self-clause-within c = omega (arith, less (goal.at.invariant_of-self-clause-within c).Start, c.args.self.now.within, c.move_index.ensures.reordered.1)

pub invariant_of-self-clause-few : goal.invariant_of-self-clause-few
invariant_of-self-clause-few c = omega (arith, c.args.self.now.few, c.move_index.ensures.reordered.1)

pub invariant_of-self-clause-whole : goal.invariant_of-self-clause-whole
invariant_of-self-clause-whole c = λ block.
    c.move_index.ensures.reordered.2 block ∙ (c.args.self.now.whole block ∙ ap (ltb block) (sym c.move_index.ensures.reordered.1))

pub returns-clause-waiting : goal.returns-clause-waiting
unfolding waiting_in
returns-clause-waiting c =
    removed c.args.self.now.blocks.keys c.args.self.now.first c.args.self.now.count c.args.place c.args.self.now.within
    (less (goal.at.returns-clause-waiting c).Start) c.move_index.new.self.keys c.move_index.ensures.keys

pub returns-clause-width : goal.returns-clause-width
unfolding width_of
returns-clause-width c = c.move_index.ensures.reordered.1
