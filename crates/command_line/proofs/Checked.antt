-- What is told of a check that found a damage.
use Rattle.std.proofs.Common.{◌≡◌, Bool, true, ℕ, Option, Result, Ok, Err, List, IfOk, IfErr}
use Rattle.amcheck.specs.Answers.{IsAnswer}
use Rattle.amcheck.specs.declared.report.CheckFault.{CheckFault}
use Rattle.amcheck.specs.declared.report.CheckFault.TheVariants.{Damage, Refused as NotChecked}
use Rattle.amcheck.specs.declared.report.Report.{Report}
use Rattle.command_line.proofs.Imports.{IsCheckFault, State, Backing, IsTreeFor, PrintsDamage, PrintsAnswer, End, Done, Damaged, Refused}

-- a damage that was printed is the first that the pages have, and sound pages have none
pub tells_damage : {E : Type 0} (checked : Result Report CheckFault) (result : Result End E) (parents : Bool) (st : State) (was now : Backing)
    (old new : Option (List ℕ)) → IfOk result (PrintsAnswer checked old new)
    → (now.honest ≡ true → IsAnswer parents st.format.unique st.pages checked)
    → IfErr checked (IsCheckFault st was now (IsTreeFor st.format st.pages)) → result ≡ Ok Damaged → PrintsDamage now.honest parents st old new
tells_damage (Err (Damage number block)) (Ok end) parents st was now old new told answer fault is = record { number = number; block = block; printed = told.1; first = answer; unsound = fault }
tells_damage (Ok report) (Ok end) parents st was now old new told answer fault is = absurd (let a : end ≡ Done = told.0 in cc)
tells_damage (Err (NotChecked f)) (Ok end) parents st was now old new told answer fault is = absurd (let a : end ≡ Refused f = told.0 in cc)
tells_damage checked (Err e) parents st was now old new told answer fault is = absurd cc
