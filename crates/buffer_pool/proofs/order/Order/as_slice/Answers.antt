use Rattle.std.proofs.Common.{ℕ, List, take, drop, ap, ◌∙◌, arith}
use Rattle.buffer_pool.specs.Orders.{waiting_in}
use Rattle.buffer_pool.proofs.order.Order.as_slice.Goals as goal

pub returns : goal.returns
unfolding waiting_in
returns c =
    let order = c.args.self.now in
    ap (λ (n : ℕ). take n (drop order.first c.as_slice.result.now)) (omega arith) ∙ ap (λ (l : List ℕ). take order.count (drop order.first l)) c.as_slice.ensures.keys
