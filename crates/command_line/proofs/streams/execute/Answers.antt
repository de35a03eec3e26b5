use Rattle.command_line.proofs.Kept.{not_run_then, prints_kept, same_kept}
use Rattle.command_line.proofs.streams.execute.Goals as goal

pub returns-clause-printed : goal.returns-clause-printed
returns-clause-printed g c = prints_kept _ _ _ c.flush-flushed.ensures.bytes _ _ _ _ _ _ c.command-left.result c.command-left.ensures.printed

pub returns-clause-silent : goal.returns-clause-silent
returns-clause-silent g c keeps = not_run_then c.command-left.result (c.command-left.ensures.silent keeps) (same_kept _ _ _ c.flush-flushed.ensures.bytes)
