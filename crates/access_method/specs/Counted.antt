-- What a force and a checkpoint of an index answer.
use Rattle.std.specs.Prelude.{ℕ, Option, Some, Result, Ok, Err}
use Rattle.index_model.specs.declared.fault.Fault.{Fault}
use Rattle.index_model.specs.declared.fault.Fault.TheVariants.{NoSession}
use Rattle.session_calls.specs.declared.answer.Answer.{Answer}
use Rattle.session_calls.specs.declared.answer.Answer.TheVariants.{Forced, Checkpointed, Refused}
use Rattle.schedule.specs.TheoremKinds.{Upkeep}
use Rattle.schedule.specs.Events.{kept_answer}

-- how many actions are told as durable, or the refusal
abbrev pub counted : Answer → Result ℕ Fault
counted (Forced count) = Ok count
counted (Checkpointed count) = Ok count
counted (Refused fault) = Err fault
counted answer = Err NoSession

-- ... and what was answered then
abbrev pub upkeep_outcome : Upkeep → Result ℕ Fault → Option Answer
upkeep_outcome upkeep (Ok count) = kept_answer upkeep count
upkeep_outcome upkeep (Err fault) = Some (Refused fault)
