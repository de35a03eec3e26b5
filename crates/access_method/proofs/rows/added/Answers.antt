use Rattle.std.proofs.Common.{◌≡◌, ◌||◌, Bool, true, false, cond, refl, ◌∙◌}
use Rattle.std.specs.BTreeSet.{contains}
use Rattle.index_model.specs.Order.{row_cmp}
use Rattle.access_method.specs.Rows.{same_row}
use Rattle.access_method.proofs.rows.added.Goals as goal

either : (a b : Bool) → cond a true b ≡ (a || b)
either true b = refl
either false b = refl

pub returns-in-Ok : goal.returns-in-Ok
returns-in-Ok c = λ other. c.in-Ok.ensures.updates.0 other ∙ either (same_row c.args.row other) (contains row_cmp c.args.rows other)
