use Rattle.redo_log.proofs.Keeping.{keeps_untouched, keeps_restarts}
use Rattle.redo_log.proofs.log.Log.keeping_law.Goals as goal

pub returns-clause-keeps : goal.returns-clause-keeps
returns-clause-keeps c = λ old new acts forced untouched k. keeps_untouched c.args.self.now old new acts forced untouched k

pub returns-clause-restarts : goal.returns-clause-restarts
returns-clause-restarts c = λ m acts forced k. keeps_restarts c.args.self.now m acts forced k
