use Rattle.std.proofs.Common.{refl, sym, ◌∙◌}
use Rattle.nardsill.proofs.Refusals.{never_0}
use Rattle.nardsill.proofs.checking.check.Goals as goal

pub returns-in-Err : goal.returns-in-Err
returns-in-Err c = (
  refl,
  refl,
  record {
    judged = λ done. absurd (never_0 c.in-Err.fault (sym c.refused-in-Err.ensures.status ∙ done));
    refused = λ differs. (c.in-Err.fault, c.refused-in-Err.ensures);
  },
)
