use Rattle.std.proofs.Common.{◌≡◌, ◌&&◌, ℕ, Bool, true, false, not, nat_eq, refl, sym, ap, ◌∙◌}
use Rattle.std.proofs.lemmas.Bool.Decides.{Decides-eqb}
use Rattle.index_model.specs.Row.{Row}
use Rattle.tests_reference.proofs.insert.insert_may_fail.Goals as goal
use Rattle.tests_reference.proofs.Imports.{false≢true}

both : (x y : Bool) → not (x && y) ≡ false → (x ≡ true) × (y ≡ true)
both true true h = (refl, refl)
both true false h = absurd cc
both false y h = absurd cc

one_row : (a b : Row) → not (nat_eq a.block b.block && nat_eq a.offset b.offset) ≡ false → a ≡ b
one_row a b h =
    let same = both (nat_eq a.block b.block) (nat_eq a.offset b.offset) h in
    ap (λ (n : ℕ). let r : Row = record { block = n; offset = a.offset } in r) ((Decides-eqb a.block b.block).0 same.0)
    ∙ ap (λ (n : ℕ). let r : Row = record { block = b.block; offset = n } in r) ((Decides-eqb a.offset b.offset).0 same.1)

-- the row is that of the entry itself
pub returns-else-ne : goal.returns-else-ne
returns-else-ne c =
    let same = one_row c.in-KeyExists.row c.args.entry.now.row (sym c.ne.ensures ∙ c.if-ne.false) in
    (λ yes. absurd (false≢true (sym c.if-ne.false ∙ yes)), λ right. absurd ((right.1 c.in-KeyExists.row c.in-KeyExists.is).0 same))
