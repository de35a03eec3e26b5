-- What a run of jobs prints, and what that means.
use Rattle.std.specs.Prelude.{◌≡◌, ℕ, Option, List, [], ◌∷◌, ◌++◌, ⊤}
use Rattle.std.specs.Io.KnownBytes.{Appends}
use Rattle.index_model.specs.declared.dead_rows.DeadRows.{Ghosts as SetGhosts}
use Rattle.page_action.specs.declared.page_store.PageStore.{Ghosts}
use Rattle.schedule.specs.declared.event.Event.TheVariants.{Checkpoint}
use Rattle.session_calls.specs.declared.answer.Answer.{Answer}
use Rattle.session_calls.specs.declared.answer.Answer.TheVariants.{Refused as NotMade}
use Rattle.shared_world.specs.Doing.{IsEventDone}
use Rattle.sessions.specs.Finishing.{IsFinished}
use Rattle.session_seats.specs.declared.job.Job.{Job}
use Rattle.sessions.specs.declared.outcome.Finished.{Finished}
use Rattle.world.specs.Worlds.{inside}
use Rattle.world.specs.declared.world.World.{World}
use Rattle.text_forms.specs.Printing.{answer_text}
use Rattle.command_line.specs.Receipts.{run_text}
use Rattle.command_line.specs.declared.end.End.{End}
use Rattle.command_line.specs.declared.end.End.TheVariants.{Done, Damaged, AlreadyPrinted, Refused}

-- the line of the checkpoint after a run; a refusal of it is told elsewhere
abbrev pub last_text : Answer → List ℕ
last_text (NotMade fault) = []
last_text answer = answer_text answer ++ 10 ∷ []

-- how a run ends whose checkpoint answered so
abbrev pub end_after : Answer → End
end_after (NotMade fault) = Refused fault
end_after answer = Done

-- A checkpoint has followed a run that is done, and left this world. What was printed is that run: each job's
-- record, by the jobs' numbers, and how many each worker has; and what the checkpoint answered.
pub record PrintsDone {S T : Type 0} (g : Ghosts S) (rows : SetGhosts T) (done : Finished S T) (after : World S T) (old new : Option (List ℕ)) (end : End) : Type 0 where
  pub answer : Answer
  pub checkpointed : IsEventDone g Checkpoint answer (inside rows done.world) (inside rows after)
  pub printed : Appends old new (run_text done.history.items done.receipts.items done.calls.items ++ last_text answer)
  pub end_is : end ≡ end_after answer

-- ... which was a run of these jobs by so many workers on the world before: so its records are those of calls
-- that this world had since
pub record PrintsRun {S T : Type 0} (g : Ghosts S) (rows : SetGhosts T) (jobs : List Job) (workers : ℕ) (before after : World S T) (old new : Option (List ℕ)) (end : End) : Type 0 where
  pub done : Finished S T
  pub ran : IsFinished g rows jobs workers before done
  pub prints : PrintsDone g rows done after old new end

-- all was done, what was wrong is said, or a refusal is to be said
abbrev pub IsRunEnd : End → Type 0
IsRunEnd Done = ⊤
IsRunEnd Damaged = ⊥
IsRunEnd AlreadyPrinted = ⊤
IsRunEnd (Refused fault) = ⊤
