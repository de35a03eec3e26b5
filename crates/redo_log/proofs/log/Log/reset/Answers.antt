use Rattle.std.proofs.Common.{refl, arith}
use Rattle.redo_log.proofs.Resetting.{reset_goes, in_range, empty_keeps, reset_keeps}
use Rattle.redo_log.proofs.log.Log.reset.Goals as goal

pub returns-then-self-eq0-clause-keeps : goal.returns-then-self-eq0-clause-keeps
returns-then-self-eq0-clause-keeps g c = λ acts forced k. empty_keeps c.args.self.now _ acts forced k c.requires.shut c.if-self-eq0.true

pub returns-in_err-shut-clause-moments : goal.returns-in_err-shut-clause-moments
returns-in_err-shut-clause-moments g c = λ acts forced k. reset_goes c.args.self.now _ _ acts forced k c.requires.shut (omega arith) c.shut.ensures.moments

pub returns-in_err-shut-clause-outside : goal.returns-in_err-shut-clause-outside
returns-in_err-shut-clause-outside g c = in_range c.args.self.now _ _ c.shut.ensures.moments

pub returns-clause-keeps : goal.returns-clause-keeps
returns-clause-keeps g c = λ acts forced k.
    reset_keeps c.args.self.now _ acts forced k _ _ refl refl c.requires.shut refl k.waits c.in_ok-shut.ensures.ok

pub returns-clause-moments : goal.returns-clause-moments
returns-clause-moments g c = λ acts forced k. reset_goes c.args.self.now _ _ acts forced k c.requires.shut (omega arith) c.shut.ensures.moments

pub returns-clause-outside : goal.returns-clause-outside
returns-clause-outside g c = in_range c.args.self.now _ _ c.shut.ensures.moments
