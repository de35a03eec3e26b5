-- What holds of two checks of the same pages.
use Rattle.std.specs.Prelude.{◌≡◌, ◌⊎◌, Bool, true, false, Result, Ok, Err, List, ⊤}
use Rattle.page_codec.specs.declared.page.Page.{Page}
use Rattle.amcheck.specs.Answers.{IsAnswer}
use Rattle.amcheck.specs.declared.report.CheckFault.{CheckFault}
use Rattle.amcheck.specs.declared.report.CheckFault.TheVariants.{Damage, Refused}
use Rattle.amcheck.specs.declared.report.Report.{Report}

-- a damage is answered
abbrev pub AnswersDamage : Result Report CheckFault → Type 0
AnswersDamage (Ok report) = ⊥
AnswersDamage (Err (Damage number block)) = ⊤
AnswersDamage (Err (Refused fault)) = ⊥

-- a report is, or a damage
abbrev pub IsAnswered : Result Report CheckFault → Type 0
IsAnswered (Ok report) = ⊤
IsAnswered (Err (Damage number block)) = ⊤
IsAnswered (Err (Refused fault)) = ⊥

-- two answers, neither refused, are equal, whichever check they are of, in one thread or in many
abbrev pub AnswersAreOne : Type 0
AnswersAreOne = (parents keys : Bool) (pages : List Page) (one other : Result Report CheckFault)
    → IsAnswer parents keys pages one → IsAnswer parents keys pages other → IsAnswered one → IsAnswered other → one ≡ other

-- an answer without parents and children and one with them are equal too, unless only the second is a damage
abbrev pub ParentsSeeMore : Type 0
ParentsSeeMore = (keys : Bool) (pages : List Page) (one other : Result Report CheckFault)
    → IsAnswer false keys pages one → IsAnswer true keys pages other → IsAnswered one → IsAnswered other
    → (one ≡ other) ⊎ ((AnswersDamage one → ⊥) × AnswersDamage other)
