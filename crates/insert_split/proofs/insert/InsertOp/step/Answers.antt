use Rattle.std.proofs.Common.{sym, ◌∙◌}
use Rattle.insert_split.proofs.Ending.{stops}
use Rattle.insert_split.proofs.insert.InsertOp.step.Goals as goal

pub returns-then-is_stopped-clause-all : goal.returns-then-is_stopped-clause-all
returns-then-is_stopped-clause-all g c =
    stops g.S.PageStore c.args.self.now c.args.store.now c.stop.result (sym c.is_stopped.ensures ∙ c.if-is_stopped.true) c.stop.ensures
