use Rattle.std.proofs.Common.{◌≡◌, ◌+◌, ◌-◌, ◌*◌, ◌<◌, ◌≤◌, ℕ, suc, true, false, None, sym, ap, subst, ◌∙◌, inl, inr, arith}
use Rattle.std.proofs.lemmas.Bool.{cases_lt}
use Rattle.std.proofs.lemmas.List.{get_or-drop, get_or_past}
use Rattle.free_blocks.specs.Numbers.{number_at, is_at_most}
use Rattle.free_blocks.proofs.Winners.{leftmost-double, leftmost-least, beyond_under, second_at_most, LeadsToLowest, root_leads, left_leads, right_leads}
use Rattle.free_blocks.proofs.tree.lowest.Goals as goal
use Rattle.free_blocks.proofs.tree.lowest.Goals.{then-is_at_most, else-is_at_most}

pub returns-then-not-is_at_most-clause-none : goal.returns-then-not-is_at_most-clause-none
returns-then-not-is_at_most-clause-none c = λ block.
    let tree = c.args.tree.now in
    let size = c.args.shape.size in
    let at = get_or-drop size tree block None in
    let beyond : is_at_most c.args.most (number_at tree 1) ≡ false = cc in
    elim (cases_lt block size) [
      | inl lt ↦ ap (is_at_most c.args.most) at
          ∙ beyond_under tree size c.args.most c.requires.winners c.args.shape.depth 1 (size + block) (omega arith) beyond
          (omega (arith, c.args.shape.full)) (omega (arith, c.args.shape.full, leftmost-double 1 c.args.shape.depth)) (omega arith)
      | inr ge ↦ ap (is_at_most c.args.most) (at ∙ get_or_past tree (size + block) None (omega (arith, c.requires.places)))
    ]

pub loop-init : goal.loop-init
loop-init c = record {
  least = omega arith;
  low = cc;
  leads = λ levels is. subst (λ (n : ℕ). LeadsToLowest c.args.tree.now c.args.shape.size c.args.most 1 n) (omega (arith, is))
      (root_leads c.args.tree.now c.args.shape.size c.args.most c.args.shape.depth c.args.shape.full);
}

pub loop-preserved : goal.loop-preserved
loop-preserved c =
    let tree = c.args.tree.now in
    let size = c.args.shape.size in
    let most = c.args.most in
    let node = c.loop.node in
    let before = c.loop.invariant in
    let left = ap (is_at_most most) c.number_at-in-loop.ensures in
    let below = λ (levels : ℕ) (is : c.loop.counter + 1 + levels ≡ c.args.shape.depth). before.leads (suc levels) (omega (arith, is)) in
    let rest = c.args.shape.depth - (c.loop.counter + 1) in
    let small : node < size = omega (arith, (below rest (omega arith)).to, leftmost-least rest (2 * (node + 1))) in
    elim c.if-is_at_most.branch [
      | then-is_at_most w ↦
          let low : is_at_most most (number_at tree (2 * node)) ≡ true = sym left ∙ (sym c.is_at_most-in-loop.ensures ∙ w.if-is_at_most.true) in
          record {
            least = omega (arith, w.node-is, before.least);
            low = subst (λ (n : ℕ). is_at_most most (number_at tree n) ≡ true) (sym w.node-is) low;
            leads = λ levels is. subst (λ (n : ℕ). LeadsToLowest tree size most n levels) (sym w.node-is) (left_leads tree size most node levels (below levels is));
          }
      | else-is_at_most w ↦
          let beyond : is_at_most most (number_at tree (2 * node)) ≡ false = sym left ∙ (sym c.is_at_most-in-loop.ensures ∙ w.if-is_at_most.false) in
          record {
            least = omega (arith, w.node-is, before.least);
            low = subst (λ (n : ℕ). is_at_most most (number_at tree n) ≡ true) (sym w.node-is)
                (second_at_most most _ _ (ap (is_at_most most) (sym (c.requires.winners node before.least small)) ∙ before.low) beyond);
            leads = λ levels is.
                subst (λ (n : ℕ). LeadsToLowest tree size most n levels) (sym w.node-is) (right_leads tree size most node levels c.requires.winners before.least beyond (below levels is));
          }
    ]

leads : (c : goal.After-struct_known-1) → LeadsToLowest c.args.tree.now c.args.shape.size c.args.most c.loop.node 0
leads c = c.loop.invariant.leads 0 (omega arith)

pub overflow_sub-result : goal.overflow_sub-result
overflow_sub-result c = (leads c).from

pub returns-clause-found : goal.returns-clause-found
returns-clause-found c =
    let tree = c.args.tree.now in
    let size = c.args.shape.size in
    let from : size ≤ c.loop.node = (leads c).from in
    let place : size + (c.loop.node - size) ≡ c.loop.node = omega arith in
    record {
      at_most = ap (is_at_most c.args.most) (get_or-drop size tree (c.loop.node - size) None ∙ ap (number_at tree) place) ∙ c.loop.invariant.low;
      lowest = λ block lt. ap (is_at_most c.args.most) (get_or-drop size tree block None) ∙ (leads c).lower (size + block) (omega arith) (omega (arith, lt));
    }
