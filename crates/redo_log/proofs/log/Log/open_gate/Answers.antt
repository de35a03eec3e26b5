use Rattle.redo_log.proofs.Forcing.{open_goes, open_keeps, gate_outside}
use Rattle.std.proofs.Common.{refl}
use Rattle.redo_log.proofs.log.Log.open_gate.Goals as goal

pub returns-in_err-write_at-clause-moments : goal.returns-in_err-write_at-clause-moments
returns-in_err-write_at-clause-moments g c = λ acts forced k. open_goes c.args.self.now acts forced _ _ k c.if-self-2.false c.if-not-self.false c.in_ok-sync.ensures.trace c.write_at.result _ c.write_at.ensures.trace

pub returns-in_err-write_at-clause-outside : goal.returns-in_err-write_at-clause-outside
returns-in_err-write_at-clause-outside g c = gate_outside c.args.self.now _ _ c.requires.range c.in_ok-sync.ensures.trace c.write_at.result _ c.write_at.ensures.trace

pub returns-clause-keeps : goal.returns-clause-keeps
returns-clause-keeps g c = λ acts forced k. open_keeps c.args.self.now acts forced _ _ k c.if-self-2.false c.if-not-self.false c.in_ok-sync.ensures.trace _ _ c.in_ok-write_at.ensures.trace refl refl refl refl k.waits

pub returns-clause-moments : goal.returns-clause-moments
returns-clause-moments g c = λ acts forced k. open_goes c.args.self.now acts forced _ _ k c.if-self-2.false c.if-not-self.false c.in_ok-sync.ensures.trace c.write_at.result _ c.write_at.ensures.trace

pub returns-clause-outside : goal.returns-clause-outside
returns-clause-outside g c = gate_outside c.args.self.now _ _ c.requires.range c.in_ok-sync.ensures.trace c.write_at.result _ c.write_at.ensures.trace
