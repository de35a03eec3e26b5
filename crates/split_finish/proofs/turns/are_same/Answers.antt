use Rattle.std.proofs.Common.{◌≡◌, ◌==◌, true, refl, sym, ◌∙◌}
use Rattle.std.specs.declared.cmp.Ordering.{Ordering}
use Rattle.std.specs.declared.cmp.Ordering.TheVariants.{Less, Equal, Greater}
use Rattle.split_finish.proofs.Imports.{ordering_index, exact_bounds}
use Rattle.split_finish.proofs.turns.are_same.Goals as goal

equal_is : (o : Ordering) → (ordering_index o == 1) ≡ true → o ≡ Equal
equal_is Less h = absurd cc
equal_is Equal h = refl
equal_is Greater h = absurd cc

pub returns-clause-same : goal.returns-clause-same
returns-clause-same c = λ h. exact_bounds c.args.a.now c.args.b.now (sym c.compare.ensures ∙ equal_is c.compare.result (sym c.eq.ensures ∙ h))
