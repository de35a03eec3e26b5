use Rattle.std.proofs.Common.{◌≤◌, ℕ, sym, subst, ◌∙◌}
use Rattle.vacuum.proofs.Reading.{ends}
use Rattle.vacuum.proofs.steps.BulkDeleteOp.step.Goals as goal

pub returns-in-None-2-clause-all : goal.returns-in-None-2-clause-all
returns-in-None-2-clause-all g c =
    ends g.S.PageStore (g.T.DeadRows.is_in c.args.dead.now) c.args.self.now c.args.store.now c.stats.result (sym c.is_stopped.ensures ∙ c.if-is_stopped.false) c.in-None-2.is
    (subst (λ (n : ℕ). n ≤ c.args.self.now.cursor) c.used.ensures c.if-self-used.false) c.stats.ensures (λ first h. h)
