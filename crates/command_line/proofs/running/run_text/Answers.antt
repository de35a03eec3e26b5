use Rattle.std.proofs.Common.{inl, inr, refl, sym, ◌∙◌}
use Rattle.command_line.specs.RunRefusals.{IsRunOfTextRefused}
use Rattle.command_line.proofs.Imports.{IfSome_then, IfOk-weaker}
use Rattle.command_line.proofs.Kept.{none_then}
use Rattle.command_line.proofs.NoRun.{said_is_no_refusal, told_no_run}
use Rattle.command_line.proofs.running.run_text.Goals as goal

pub returns-in-Ok-clause-printed : goal.returns-in-Ok-clause-printed
returns-in-Ok-clause-printed g c =
    IfSome_then c.run_file.result.world c.run_file.ensures.printed (λ after. IfOk-weaker c.run_file.result.end _ _
    (λ end p. record { jobs = c.in-Ok.file.jobs.items; sets = c.in-Ok.file.sets.items; spelled = c.in-Ok.ensures.jobs; counted = sym c.in-Ok.file.sets.ok.0 ∙ c.in-Ok.ensures.sets; prints = p }))

pub returns-in-Ok-clause-refused : goal.returns-in-Ok-clause-refused
returns-in-Ok-clause-refused g c fault is = none_then c.run_file.result.world (c.run_file.ensures.refused fault is) (λ p. inr (record {
  jobs = c.in-Ok.file.jobs.items;
  sets = c.in-Ok.file.sets.items;
  spelled = c.in-Ok.ensures.jobs;
  counted = sym c.in-Ok.file.sets.ok.0 ∙ c.in-Ok.ensures.sets;
  refused = p;
}))

pub returns-in-Err-NotAJob-clause-refused : goal.returns-in-Err-NotAJob-clause-refused
returns-in-Err-NotAJob-clause-refused g c fault is = said_is_no_refusal c.say_no_job.result c.no_run.result.end fault c.no_run.ensures.end c.say_no_job.ensures is

pub returns-in-Err-NoMemory-clause-refused : goal.returns-in-Err-NoMemory-clause-refused
returns-in-Err-NoMemory-clause-refused g c =
    told_no_run (IsRunOfTextRefused _ _ _ _ _ _ _) c.no_run-in-Err-NoMemory.result.world c.no_run-in-Err-NoMemory.result.device _ c.no_run-in-Err-NoMemory.result.end _
    c.no_run-in-Err-NoMemory.ensures.device c.no_run-in-Err-NoMemory.ensures.end (inl refl)
