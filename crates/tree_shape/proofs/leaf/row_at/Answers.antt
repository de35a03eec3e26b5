use Rattle.std.proofs.Common.{length, refl, sym, ◌∙◌}
use Rattle.std.proofs.lemmas.Bool.Decides.{Decides-eqb}
use Rattle.std.proofs.lemmas.Option.{slice_get_read}
use Rattle.std.proofs.lemmas.Slice.Eq.{slice_eq-Decides}
use Rattle.tree_shape.proofs.KeyPlaces.{row_there, some_key}
use Rattle.tree_shape.proofs.leaf.row_at.Goals as goal

pub returns-then-eq-clause-there : goal.returns-then-eq-clause-there
returns-then-eq-clause-there c =
    let test = slice_eq-Decides Decides-eqb _ _ _ c.eq.ensures in
    row_there c.args.key.now c.in-Some.found.now c.args.entries.now c.args.at
    (slice_get_read c.args.entries.now (length c.args.entries.now) c.args.at c.in-Some.found.now refl c.in-Some.ensures.lookup.3.0 c.in-Some.ensures.lookup.1) (test.0 c.if-eq.true)

pub returns-else-eq-clause-other : goal.returns-else-eq-clause-other
returns-else-eq-clause-other c = λ x got same.
    let test = slice_eq-Decides Decides-eqb _ _ _ c.eq.ensures in
    let at_place = slice_get_read c.args.entries.now (length c.args.entries.now) c.args.at c.in-Some.found.now refl c.in-Some.ensures.lookup.3.0 c.in-Some.ensures.lookup.1 in
    let clash = sym c.if-eq.false ∙ test.1 (some_key c.in-Some.found.now x (sym at_place ∙ got) ∙ same) in
    absurd cc
