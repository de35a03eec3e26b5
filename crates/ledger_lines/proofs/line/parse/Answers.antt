use Rattle.std.proofs.Common.{ℕ, List, rules, sym, subst}
use Rattle.ledger_lines.specs.Lines.{LedgerLineFails}
use Rattle.ledger_lines.proofs.line.parse.Goals as goal

pub returns-then-have_ended-clause-only_refused : goal.returns-then-have_ended-clause-only_refused
returns-then-have_ended-clause-only_refused c = λ fault fails.
    let told = c.read.ensures.only_refused fault (subst (λ (ws : List (List ℕ)). LedgerLineFails fault ws) (sym c.new-words.ensures) fails) in
    search (rules, told.0, told.1)

pub returns-else-have_ended-clause-only_refused : goal.returns-else-have_ended-clause-only_refused
returns-else-have_ended-clause-only_refused c = λ fault fails.
    let told = c.read.ensures.only_refused fault (subst (λ (ws : List (List ℕ)). LedgerLineFails fault ws) (sym c.new-words.ensures) fails) in
    search (rules, told.0, told.1)

pub returns-in_err-line-clause-only_refused : goal.returns-in_err-line-clause-only_refused
returns-in_err-line-clause-only_refused c = λ fault fails.
    let told = c.read.ensures.only_refused fault (subst (λ (ws : List (List ℕ)). LedgerLineFails fault ws) (sym c.new-words.ensures) fails) in
    search (rules, told.0, told.1)
