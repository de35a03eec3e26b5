use Rattle.redo_log.proofs.Forcing.{then_moments, then_outside}
use Rattle.redo_log.proofs.log.Log.write_group.Goals as goal

pub returns-in_err-write_body-clause-moments : goal.returns-in_err-write_body-clause-moments
returns-in_err-write_body-clause-moments g c = then_moments _ _ _ _ _ c.shut_gate.ensures.same c.shut_gate.ensures.moments c.in_ok-shut_gate.ensures.keeps c.write_body.ensures.moments

pub returns-in_err-write_body-clause-outside : goal.returns-in_err-write_body-clause-outside
returns-in_err-write_body-clause-outside g c = then_outside _ _ _ _ _ c.shut_gate.ensures.same c.shut_gate.ensures.outside c.write_body.ensures.outside

pub returns-clause-moments : goal.returns-clause-moments
returns-clause-moments g c = then_moments _ _ _ _ _ c.shut_gate.ensures.same c.shut_gate.ensures.moments c.in_ok-shut_gate.ensures.keeps c.write_body.ensures.moments

pub returns-clause-outside : goal.returns-clause-outside
returns-clause-outside g c = then_outside _ _ _ _ _ c.shut_gate.ensures.same c.shut_gate.ensures.outside c.write_body.ensures.outside
