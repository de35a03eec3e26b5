use Rattle.std.proofs.Common.{◌≡◌, None, false, refl, subst, sym, ◌∙◌}
use Rattle.tree_shape.proofs.Imports.{bound_of, bound_cmp, is_lt, IsKeyBefore}
use Rattle.tree_shape.proofs.Shortest.{lies_before, stands_before, never_itself, not_below, not_after_itself}
use Rattle.tree_shape.proofs.separators.part.Goals as goal

pub returns-then-lt-clause-is : goal.returns-then-lt-clause-is
returns-then-lt-clause-is c = record {
  shortened = λ less. (c.shortest_past.ensures, refl);
  whole = λ same. absurd (never_itself c.args.next.now.key (subst (λ k. IsKeyBefore k c.args.next.now.key) same (sym c.lt.ensures ∙ c.if-lt.true)));
}

pub returns-then-lt-clause-up_to : goal.returns-then-lt-clause-up_to
returns-then-lt-clause-up_to c =
    not_below (bound_of c.args.last.now) (record { key = c.shortest_past.result; row = None })
    (stands_before c.args.last.now c.shortest_past.result c.shortest_past.ensures.greater)

pub returns-then-lt-clause-beyond : goal.returns-then-lt-clause-beyond
returns-then-lt-clause-beyond c =
    lies_before c.shortest_past.result c.args.next.now c.shortest_past.ensures.count c.shortest_past.ensures.is

pub returns-else-lt-clause-up_to : goal.returns-else-lt-clause-up_to
returns-else-lt-clause-up_to c =
    subst (λ b. is_lt (bound_cmp b (bound_of c.args.last.now)) ≡ false) (sym c.bound.ensures) (not_after_itself (bound_of c.args.last.now))
