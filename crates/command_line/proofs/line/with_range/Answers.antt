use Rattle.std.proofs.Common.{[], rules}
use Rattle.command_line.proofs.line.with_range.Goals as goal

pub returns-in_err-range-in-scan-clause-no_range : goal.returns-in_err-range-in-scan-clause-no_range
returns-in_err-range-in-scan-clause-no_range c = λ fault is bad.
    let told = c.range.ensures.only_refused fault [] bad in
    search (rules, told.0, told.1)

pub returns-in_err-range-in-list-clause-no_range : goal.returns-in_err-range-in-list-clause-no_range
returns-in_err-range-in-list-clause-no_range c = λ fault is bad.
    let told = c.range-in-list.ensures.only_refused fault [] bad in
    search (rules, told.0, told.1)

pub returns-in_ok-range-in-scan-clause-no_range : goal.returns-in_ok-range-in-scan-clause-no_range
returns-in_ok-range-in-scan-clause-no_range c = λ fault is bad.
    let told = c.range.ensures.only_refused fault [] bad in
    search (rules, told.0, told.1)

pub returns-in_ok-range-in-list-clause-no_range : goal.returns-in_ok-range-in-list-clause-no_range
returns-in_ok-range-in-list-clause-no_range c = λ fault is bad.
    let told = c.range-in-list.ensures.only_refused fault [] bad in
    search (rules, told.0, told.1)
