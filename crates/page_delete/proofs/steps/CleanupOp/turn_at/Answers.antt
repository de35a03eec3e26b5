use Rattle.std.proofs.Common.{refl}
use Rattle.page_delete.specs.Ops.{tries}
use Rattle.page_delete.proofs.steps.CleanupOp.turn_at.Goals as goal

pub returns-in-Some : goal.returns-in-Some
returns-in-Some c = tries c.in-Some.high (c.may_die.ensures.0 c.if-may_die.true) c.in-Some.is refl
