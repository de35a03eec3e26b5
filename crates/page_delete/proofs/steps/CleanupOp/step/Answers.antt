use Rattle.std.proofs.Common.{◌≤◌, ℕ, sym, subst, ◌∙◌}
use Rattle.page_delete.proofs.Stepping.{ends}
use Rattle.page_delete.proofs.steps.CleanupOp.step.Goals as goal

pub returns-in-Look-2-clause-all : goal.returns-in-Look-2-clause-all
returns-in-Look-2-clause-all g c =
    ends g.S.PageStore c.args.self.now c.args.store.now c.stats.result (sym c.is_stopped.ensures ∙ c.if-is_stopped.false) c.in-Look-2.is
    (subst (λ (n : ℕ). n ≤ c.args.self.now.cursor) c.used.ensures c.if-self-used.false) c.stats.ensures (λ first h. h)

pub judge-requires-clause-at : goal.judge-requires-clause-at
judge-requires-clause-at g c = record { high = c.in-Judge.field-0; is = c.in-Judge.is }
