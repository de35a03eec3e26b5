use Rattle.page_store.specs.contracts.store.StorePageStore.TheImpl as store
use Rattle.ledger_lines.specs.contracts.dead.DeadDeadRows.TheImpl as dead
use Rattle.ledger_lines.proofs.Answered.{HasAnswered}
use Rattle.ledger_lines.proofs.session.answer_lines.Given as goal

abbrev pub invariant-loop : goal.invariant-loop
invariant-loop g l =
    HasAnswered g.D.Device (store.ghosts g.row.D g.D.Device g.D.Device-dict) dead.ghosts.is_in
    (g.R.Read.remaining l.initial.input) (g.R.Read.remaining l.input) l.initial.index l.index (g.W.Write.contents l.initial.out) (g.W.Write.contents l.out)
