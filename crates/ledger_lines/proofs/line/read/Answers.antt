use Rattle.ledger_lines.proofs.Refusing.{fails_so}
use Rattle.ledger_lines.proofs.line.read.Goals as goal

pub returns-clause-only_refused : goal.returns-clause-only_refused
returns-clause-only_refused c = λ fault fails.
    let e = c.with_values.ensures in
    fails_so fault _ _ _ fails c.in_ok-name.ensures (e.no_entry fault) (e.no_range fault) (e.no_rows fault)
