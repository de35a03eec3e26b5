use Rattle.command_line.proofs.Refusing.{values_so}
use Rattle.command_line.proofs.line.one_session.Goals as goal

pub returns-clause-only_refused : goal.returns-clause-only_refused
returns-clause-only_refused c = λ fault session is low bad.
    let e = c.with_values.ensures in
    values_so fault c.args.name.now c.args.words.now bad (e.no_entry fault) (e.no_range fault) (e.no_rows fault)
