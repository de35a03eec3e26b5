use Rattle.ledger_lines.proofs.Imports.{◌≡◌, false, seat_with, seat_of}
use Rattle.ledger_lines.proofs.Given.{HasGiven}
use Rattle.ledger_lines.proofs.calls.list_scan.Given as goal

abbrev pub invariant-loop-count : goal.invariant-loop-count
invariant-loop-count g l = record {
  seat : seat_of l.index.seats l.token ≡ seat_with l.token false;
  given : HasGiven g.S.PageStore l.token l.count l.initial.index l.index (g.W.Write.contents l.initial.out) (g.W.Write.contents l.out);
}
