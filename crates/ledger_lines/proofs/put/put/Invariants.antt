use Rattle.std.proofs.Common.{◌≡◌, ℕ, List, ◌++◌}
use Rattle.ledger_lines.proofs.Imports.{Appends}
use Rattle.ledger_lines.proofs.put.put.Given as goal

abbrev pub invariant-loop : goal.invariant-loop
invariant-loop g l = (done : List ℕ) × (l.initial.rest ≡ done ++ l.rest) × Appends (g.W.Write.contents l.initial.out) (g.W.Write.contents l.out) done
