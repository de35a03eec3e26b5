use Rattle.command_line.proofs.Imports.{take, Appends, calls_text}
use Rattle.command_line.proofs.receipts.print_calls.Given as goal

abbrev pub invariant-loop-worker : goal.invariant-loop-worker
invariant-loop-worker g l = Appends (g.W.Write.contents l.initial.out) (g.W.Write.contents l.out) (calls_text 0 (take l.worker-counter l.calls))
