use Rattle.command_line.proofs.Imports.{IfSome_then, IfOk-weaker}
use Rattle.command_line.proofs.Kept.{none_then}
use Rattle.command_line.proofs.NoRun.{error_is_no_refusal}
use Rattle.command_line.proofs.running.run.Goals as goal

pub returns-in-Ok-clause-printed : goal.returns-in-Ok-clause-printed
returns-in-Ok-clause-printed g c =
    IfSome_then c.run_text.result.world c.run_text.ensures.printed (λ after. IfOk-weaker c.run_text.result.end _ _
    (λ end p. record { text = _; prints = p }))

pub returns-in-Ok-clause-refused : goal.returns-in-Ok-clause-refused
returns-in-Ok-clause-refused g c fault is = none_then c.run_text.result.world (c.run_text.ensures.refused fault is) (λ p. (_, p))

pub returns-in-Err-clause-refused : goal.returns-in-Err-clause-refused
returns-in-Err-clause-refused g c fault is = error_is_no_refusal c.no_run.result.end c.in-Err.error fault c.no_run.ensures.end is
