use Rattle.std.proofs.Common.{ℕ, take, drop, get_or, sym, ap, ◌∙◌, arith}
use Rattle.buffer_pool.specs.Orders.{waiting_in, width_of}
use Rattle.buffer_pool.proofs.Waiting.{window_same, window_long}
use Rattle.buffer_pool.proofs.order.Order.move_to_front.Goals as goal

pub returns-clause-waiting : goal.returns-clause-waiting
unfolding waiting_in
returns-clause-waiting c =
    let i = c.loop-at.invariant in
    let was = c.args.self.now in
    let order = c.loop-at.self in
    window_same order.blocks.keys was.blocks.keys 0 was.first order.count (omega (arith, i.long, i.count, was.within)) (omega (arith, i.count, was.within))
    (λ k less. ap (λ (n : ℕ). get_or order.blocks.keys n 0) (omega arith) ∙ i.done k (omega (arith, less, i.count, c.loop-at-test.false)))
    ∙ ap (λ (n : ℕ). take n (drop was.first was.blocks.keys)) i.count

pub returns-clause-width : goal.returns-clause-width
unfolding width_of
returns-clause-width c = c.loop-at.invariant.long

pub returns-clause-count : goal.returns-clause-count
unfolding waiting_in
returns-clause-count c =
    let was = c.args.self.now in
    c.loop-at.invariant.count ∙ sym (window_long was.blocks.keys was.first was.count was.within)
