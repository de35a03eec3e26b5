use Rattle.std.proofs.Common.{refl, sym, ◌∙◌}
use Rattle.nardsill.proofs.Refusals.{never_0}
use Rattle.nardsill.proofs.making.made_in.Goals as goal

pub returns-in-Ok : goal.returns-in-Ok
returns-in-Ok c = record {
  as_asked = λ done. (c.in-Ok._device, c.in-Ok.ensures.made);
  refused = λ differs. absurd (differs refl);
}

pub returns-in-Err : goal.returns-in-Err
returns-in-Err c = record {
  as_asked = λ done. absurd (never_0 c.in-Err.fault (sym c.refused.ensures.status ∙ done));
  refused = λ differs. (c.in-Err.fault, c.in-Err.ensures.fault, c.refused.ensures);
}
