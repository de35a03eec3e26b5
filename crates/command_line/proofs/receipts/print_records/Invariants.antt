use Rattle.command_line.proofs.Imports.{take, Appends, records_text}
use Rattle.command_line.proofs.receipts.print_records.Given as goal

abbrev pub invariant-loop-receipt : goal.invariant-loop-receipt
invariant-loop-receipt g l = Appends (g.W.Write.contents l.initial.out) (g.W.Write.contents l.out) (records_text l.history (take l.receipt-index l.receipts))
