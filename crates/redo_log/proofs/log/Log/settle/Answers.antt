use Rattle.std.proofs.Common.{◌+◌, ◌*◌, refl, ap}
use Rattle.redo_log.proofs.Forcing.{settle_goes, settle_keeps, sync_outside}
use Rattle.redo_log.proofs.log.Log.settle.Goals as goal

pub returns-clause-keeps : goal.returns-clause-keeps
returns-clause-keeps g c = λ acts forced k. settle_keeps c.args.self.now acts forced _ k c.requires.ajar _ _ c.requires.written c.in_ok-sync.ensures.trace refl
    (ap (λ n. c.args.self.now.at + (5 + 4096 * n)) c.count.ensures) c.clear.ensures.blocks refl refl refl

pub returns-clause-moments : goal.returns-clause-moments
returns-clause-moments g c = λ acts forced k. settle_goes c.args.self.now acts forced _ k c.requires.ajar c.sync.result _ c.sync.ensures.trace

pub returns-clause-outside : goal.returns-clause-outside
returns-clause-outside g c = sync_outside c.args.self.now _ _ c.sync.result c.sync.ensures.trace
