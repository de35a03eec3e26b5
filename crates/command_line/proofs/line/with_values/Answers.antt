use Rattle.std.proofs.Common.{[], rules}
use Rattle.command_line.proofs.line.with_values.Goals as goal

pub returns-in_err-entry-clause-no_entry : goal.returns-in_err-entry-clause-no_entry
returns-in_err-entry-clause-no_entry c = λ fault is bad.
    let told = c.entry.ensures.only_refused fault [] bad in
    search (rules, told.0, told.1)

pub returns-then-is_word-clause-no_entry : goal.returns-then-is_word-clause-no_entry
returns-then-is_word-clause-no_entry c = λ fault is bad.
    let told = c.entry.ensures.only_refused fault [] bad in
    search (rules, told.0, told.1)

pub returns-in_err-entry-in-put-clause-no_entry : goal.returns-in_err-entry-in-put-clause-no_entry
returns-in_err-entry-in-put-clause-no_entry c = λ fault is bad.
    let told = c.entry-in-put.ensures.only_refused fault [] bad in
    search (rules, told.0, told.1)

pub returns-in_ok-entry-in-put-clause-no_entry : goal.returns-in_ok-entry-in-put-clause-no_entry
returns-in_ok-entry-in-put-clause-no_entry c = λ fault is bad.
    let told = c.entry-in-put.ensures.only_refused fault [] bad in
    search (rules, told.0, told.1)
