use Rattle.page_store.specs.contracts.store.StorePageStore.TheImpl as store
use Rattle.ledger_lines.proofs.Imports.{BreaksList}
use Rattle.ledger_lines.proofs.Ending.{on_err}
use Rattle.std.proofs.Common.{inl, Ok, Err}
use Rattle.ledger_lines.proofs.Given.{printed_as}
use Rattle.ledger_lines.proofs.calls.list.Goals as goal

pub returns-in-Ok-listed-clause-replies : goal.returns-in-Ok-listed-clause-replies
returns-in-Ok-listed-clause-replies g c = record {
  token = c.in-Ok.token;
  opened = c.ambeginscan.new.self;
  closed = c.list_scan.new.index;
  begun = record { runs = c.in-Ok.ensures.runs; begins = c.in-Ok.ensures.begins };
  prints = printed_as c.in-Ok.token c.in_ok-listed.listed (Ok c.in-Ok-listed.count) c.ambeginscan.new.self c.list_scan.new.index
      (g.W.Write.contents c.args.out.now) (g.W.Write.contents c.list_scan.new.out) c.in-Ok-listed.is c.in_ok-listed.ensures.prints;
}

pub returns-in-Err-listed-clause-replies : goal.returns-in-Err-listed-clause-replies
returns-in-Err-listed-clause-replies g c = inl (record {
  token = c.in-Ok.token;
  opened = c.ambeginscan.new.self;
  closed = c.list_scan.new.index;
  begun = record { runs = c.in-Ok.ensures.runs; begins = c.in-Ok.ensures.begins };
  prints = printed_as c.in-Ok.token c.in_ok-listed.listed (Err c.in-Err-listed.fault) c.ambeginscan.new.self c.list_scan.new.index
      (g.W.Write.contents c.args.out.now) (g.W.Write.contents c.list_scan.new.out) c.in-Err-listed.is c.in_ok-listed.ensures.prints;
})

pub returns-in_err-listed-clause-broken : goal.returns-in_err-listed-clause-broken
returns-in_err-listed-clause-broken g c =
    let G = store.ghosts g.row.D g.D.Device g.D.Device-dict in
    let broken : BreaksList G c.args.range c.args.index.now c.list_scan.new.index (g.W.Write.contents c.args.out.now) (g.W.Write.contents c.list_scan.new.out) = record {
      token = c.in-Ok.token;
      opened = c.ambeginscan.new.self;
      begun = record { runs = c.in-Ok.ensures.runs; begins = c.in-Ok.ensures.begins };
      breaks = c.in_err-listed.ensures.broken;
    } in
    on_err _ broken
