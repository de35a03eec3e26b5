use Rattle.std.proofs.Common.{◌≡◌, length, take, refl, sym, ap, ◌∙◌, length-take-le, arith}
use Rattle.index_model.proofs.Imports.{slice_cmp, nat_cmp, ordering_then, Ordering, Less, Equal, Greater, padded_again}
use Rattle.index_model.proofs.Zeros.{with_zeros}
use Rattle.index_model.proofs.key.KeyOrd.cmp.Goals.{After-order_of_cells}
use Rattle.index_model.proofs.key.KeyOrd.cmp.Goals as goal

-- the cells decide, and else the lengths do
decides : (c : After-order_of_cells) → slice_cmp nat_cmp c.args.self.now c.args.other.now
    ≡ ordering_then c.order_of_cells.result (nat_cmp c.self.inside.len c.other.inside.len)
decides c =
    let a = c.self.inside in
    let b = c.other.inside in
    let i = c.self.invariant in
    let j = c.other.invariant in
    let few : length (take a.len a.cells) ≡ a.len = length-take-le a.len a.cells (omega (arith, i.0, i.1)) in
    let many : length (take b.len b.cells) ≡ b.len = length-take-le b.len b.cells (omega (arith, j.0, j.1)) in
    sym (λ k. slice_cmp nat_cmp (c.self.view_is k) (c.other.view_is k))
    ∙ with_zeros 64 (take a.len a.cells) (take b.len b.cells) (omega (arith, few, i.0)) (omega (arith, many, j.0))
    ∙ (λ k. ordering_then (slice_cmp nat_cmp (padded_again a.cells a.len i.0 i.1 i.2 k) (padded_again b.cells b.len j.0 j.1 j.2 k)) (nat_cmp (few k) (many k)))
    ∙ ap (λ (o : Ordering). ordering_then o (nat_cmp a.len b.len)) (sym c.order_of_cells.ensures)

unequal : (o r : Ordering) → (o ≡ Equal → ⊥) → ordering_then o r ≡ o
unequal Less r h = refl
unequal Equal r h = absurd (h refl)
unequal Greater r h = refl

pub returns-in-Equal : goal.returns-in-Equal
returns-in-Equal c =
    c.cmp.ensures ∙ sym (decides (goal.at.returns-in-Equal c).After-order_of_cells ∙ ap (λ (o : Ordering). ordering_then o (nat_cmp c.self.inside.len c.other.inside.len)) c.in-Equal.is)

pub returns-in_default : goal.returns-in_default
returns-in_default c =
    sym (decides (goal.at.returns-in_default c).After-order_of_cells ∙ unequal c.order_of_cells.result _ c.in_default.not-Equal)
