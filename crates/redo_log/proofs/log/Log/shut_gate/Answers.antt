use Rattle.std.proofs.Common.{◌+◌, refl, arith}
use Rattle.redo_log.proofs.Forcing.{shut_goes, shut_keeps, range_only}
use Rattle.redo_log.proofs.log.Log.shut_gate.Goals as goal

pub returns-in_err-shut-clause-moments : goal.returns-in_err-shut-clause-moments
returns-in_err-shut-clause-moments g c = λ acts forced k. shut_goes c.args.self.now acts forced _ k c.if-not-self.false _ c.shut.ensures.moments

pub returns-in_err-shut-clause-outside : goal.returns-in_err-shut-clause-outside
returns-in_err-shut-clause-outside g c = range_only c.args.self.now (4096 + c.args.self.now.at) 1 _ _ (omega arith) (omega (arith, c.args.self.now.room)) c.shut.ensures.moments

pub returns-clause-keeps : goal.returns-clause-keeps
returns-clause-keeps g c = λ acts forced k. shut_keeps c.args.self.now acts forced _ k c.if-not-self.false _ _ c.shut.ensures.moments c.in_ok-shut.ensures.ok refl refl refl refl c.requires.changed k.waits

pub returns-clause-moments : goal.returns-clause-moments
returns-clause-moments g c = λ acts forced k. shut_goes c.args.self.now acts forced _ k c.if-not-self.false _ c.shut.ensures.moments

pub returns-clause-outside : goal.returns-clause-outside
returns-clause-outside g c = range_only c.args.self.now (4096 + c.args.self.now.at) 1 _ _ (omega arith) (omega (arith, c.args.self.now.room)) c.shut.ensures.moments
