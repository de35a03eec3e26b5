use Rattle.command_line.specs.RunRefusals.{IsRunOnFileRefused}
use Rattle.command_line.proofs.Finished.{prints_on_file}
use Rattle.command_line.proofs.NoRun.{opening_refused, run_not_made, told_no_run}
use Rattle.command_line.proofs.running.run_file.Goals as goal

pub returns-in-Ok-run_world-clause-printed : goal.returns-in-Ok-run_world-clause-printed
returns-in-Ok-run_world-clause-printed g c =
    prints_on_file _ _ _ _ _ _ _ _ _ _ _ _ _ _ c.as_slice.ensures.value c.in-Ok.ensures.opened c.in-Ok-run_world.ensures.printed

pub returns-in-Err-clause-refused : goal.returns-in-Err-clause-refused
returns-in-Err-clause-refused g c =
    told_no_run (IsRunOnFileRefused _ _ _ _ _ _ _ _) c.no_run.result.world c.no_run.result.device _ c.no_run.result.end _
    c.no_run.ensures.device c.no_run.ensures.end (opening_refused _ _ _ _ _ _ _ _ _ _ c.in-Err.ensures.refused)

pub returns-clause-refused : goal.returns-clause-refused
returns-clause-refused g c =
    told_no_run (IsRunOnFileRefused _ _ _ _ _ _ _ _) c.no_run-in-Err-run_world.result.world c.no_run-in-Err-run_world.result.device _ c.no_run-in-Err-run_world.result.end _
    c.no_run-in-Err-run_world.ensures.device c.no_run-in-Err-run_world.ensures.end
    (run_not_made _ _ _ _ _ _ _ _ _ _ _ _ _ c.as_slice.ensures.value c.in-Ok.ensures.opened c.in-Err-run_world.ensures.given_back
    c.into_device.ensures c.in-Err-run_world.ensures.refused)
