use Rattle.page_store.specs.contracts.store.StorePageStore.TheImpl as store
use Rattle.ledger_lines.proofs.Ending.{closed_on}
use Rattle.ledger_lines.proofs.program.serve.Goals as goal

pub returns : goal.returns
returns g c =
    let G = store.ghosts g.row.D g.D.Device g.D.Device-dict in
    let last = c.answer_lines-answered.new.index in
    let e = c.close-closed.ensures in
    record {
      last = last;
      answers = c.answer_lines-answered.ensures.all;
      broken = c.answer_lines-answered.ensures.first;
      closed = closed_on g.D.Device G last c.close-closed.result.device c.close-closed.result.written e.number e.stands e.empties;
      refused = e.cause;
    }
