use Rattle.std.proofs.Common.{append_assoc, [], ◌∷◌}
use Rattle.std.specs.Prelude.{codes}
use Rattle.std.specs.Fmt.{decimal}
use Rattle.command_line.proofs.refusal.print_no_job.Goals as goal

pub returns : goal.returns
returns g c = rw (append_assoc (decimal c.args.line) (codes ": not a job") (10 ∷ [])) c.writeln.ensures.bytes
