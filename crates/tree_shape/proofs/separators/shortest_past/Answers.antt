use Rattle.std.proofs.Common.{◌≡◌, ℕ, ◌+◌, ◌≤◌, List, suc, arith, length, take, subst, sym, ap, ap₂, ◌∙◌, length-take-le}
use Rattle.tree_shape.specs.Separators.{IsShortestPast, shared}
use Rattle.tree_shape.proofs.Shortest.{shared_within, shortest_is}
use Rattle.tree_shape.proofs.separators.shortest_past.Goals as goal
use Rattle.tree_shape.proofs.separators.shortest_past.Goals.{After-count_shared-count}

module _ (c : After-count_shared-count) where
  count_is : c.count_shared-count.result ≡ shared c.args.last.now c.args.next.now
  count_is = c.count_shared-count.ensures ∙ ap₂ (λ a b. shared a b) c.bytes.ensures.value c.bytes-bytes.ensures.value

  within : c.count_shared-count.result + 1 ≤ length c.bytes-bytes.result.now
  within =
      let long : length c.bytes-bytes.result.now ≡ length c.args.next.now = ap length c.bytes-bytes.ensures.value in
      omega (arith, count_is, long, shared_within c.args.last.now c.args.next.now c.requires)

  taken : take (c.count_shared-count.result + 1) c.bytes-bytes.result.now ≡ take (suc (shared c.args.last.now c.args.next.now)) c.args.next.now
  taken =
      let more : c.count_shared-count.result + 1 ≡ suc (shared c.args.last.now c.args.next.now) = omega (arith, count_is) in
      ap₂ (λ (n : ℕ) (l : List ℕ). take n l) more c.bytes-bytes.ensures.value

pub overflow_add-count : goal.overflow_add-count
overflow_add-count c =
    let long : length c.bytes-bytes.result.now ≡ length c.args.next.now = ap length c.bytes-bytes.ensures.value in
    omega (arith, within c, long, c.bytes-bytes.ensures.fits)

pub slice_bounds-new-end : goal.slice_bounds-new-end
slice_bounds-new-end c = sym (length-take-le (c.count_shared-count.result + 1) c.bytes-bytes.result.now (within c))

pub returns-in-Ok : goal.returns-in-Ok
returns-in-Ok c =
    subst (IsShortestPast c.args.last.now c.args.next.now) (sym (c.in-Ok.ensures.0 ∙ taken (goal.at.returns-in-Ok c).After-count_shared-count))
    (shortest_is c.args.last.now c.args.next.now c.requires)
