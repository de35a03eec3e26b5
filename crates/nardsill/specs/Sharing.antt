-- What becomes of a handle that is given what syncs the file of another's index.
use Rattle.std.specs.Prelude.{◌≡◌, ◌⊎◌, Option}
use Rattle.access_method.specs.declared.index.Index.{Index}
use Rattle.access_method.specs.declared.rows.RowSet.{RowSet}
use Rattle.index_model.specs.declared.fault.Fault.TheVariants.{NoMemory, NoSession}
use Rattle.nardsill.specs.Meanings.{AnswersFault}
use Rattle.nardsill.specs.declared.answer.CallAnswer.{CallAnswer}

-- it has what it had, and may sync the file too; or it was refused
pub record IsShared {S : Type 0} (answer : CallAnswer) (old new : Option (Index S)) (dead left : RowSet) : Type 0 where
  pub same : new ≡ old
  pub kept : left ≡ dead
  pub answers : (answer.status ≡ 0) ⊎ AnswersFault NoSession answer ⊎ AnswersFault NoMemory answer
