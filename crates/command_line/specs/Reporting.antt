-- What a check prints, and what that means.
use Rattle.std.specs.Prelude.{◌≡◌, true, false, Bool, ℕ, Option, Result, Ok, Err, List, [], ◌∷◌, ◌++◌, codes, ⊤}
use Rattle.std.specs.Io.KnownBytes.{Appends}
use Rattle.damages.specs.Damages.{IsFirstDamage}
use Rattle.amcheck.specs.Reports.{IsReport}
use Rattle.amcheck.specs.declared.report.CheckFault.{CheckFault}
use Rattle.amcheck.specs.declared.report.CheckFault.TheVariants.{Damage, Refused as NotChecked}
use Rattle.amcheck.specs.Sound.{HasLevelsFor}
use Rattle.amcheck.specs.declared.report.Report.{Report}
use Rattle.text_forms.specs.Printing.{numbered}
use Rattle.command_line.specs.declared.end.End.{End}
use Rattle.command_line.specs.declared.end.End.TheVariants.{Done, Damaged, AlreadyPrinted, Refused}
use Rattle.page_action.specs.States.{State}
use Rattle.page_codec.specs.declared.page.Page.{Page}
use Rattle.tree_acts.specs.TheoremKeys.{IsTreeFor}

abbrev pub report_text : Report → List ℕ
report_text report =
    numbered (codes "ok levels=") report.levels ++ (numbered (codes " pages=") report.pages
    ++ (numbered (codes " entries=") report.entries ++ (numbered (codes " halfdead=") report.half_dead
    ++ (numbered (codes " deleted=") report.deleted ++ numbered (codes " unfinished=") report.unfinished))))

abbrev pub damage_text : ℕ → ℕ → List ℕ
damage_text number block = numbered (codes "damage ") number ++ numbered (codes " block ") block

-- what was printed is the report of these pages, as far as the device kept its model
pub record PrintsReport (honest : Bool) (pages : List Page) (old new : Option (List ℕ)) : Type 0 where
  pub report : Report
  pub printed : Appends old new (report_text report ++ 10 ∷ [])
  pub is : honest ≡ true → IsReport pages report

-- what was printed is the first damage that the pages have, with parents and children or without; pages that
-- are a B-link tree, and on a unique index those of one, have none
pub record PrintsDamage (honest parents : Bool) (st : State) (old new : Option (List ℕ)) : Type 0 where
  pub number : ℕ
  pub block : ℕ
  pub printed : Appends old new (damage_text number block ++ 10 ∷ [])
  pub first : honest ≡ true → IsFirstDamage parents st.format.unique st.pages number block
  pub unsound : honest ≡ true → IsTreeFor st.format st.pages → ⊥

-- the pages are sound: with parents and children a B-link tree, without them an index of levels; and on a
-- unique index those of one
abbrev pub AreSound : Bool → State → Type 0
AreSound true st = IsTreeFor st.format st.pages
AreSound false st = HasLevelsFor st.format st.pages

-- what was printed of an answer, and how it ended: the report, the damage, or nothing
abbrev pub PrintsAnswer : Result Report CheckFault → Option (List ℕ) → Option (List ℕ) → End → Type 0
PrintsAnswer (Ok report) old new end = (end ≡ Done) × Appends old new (report_text report ++ 10 ∷ [])
PrintsAnswer (Err (Damage number block)) old new end = (end ≡ Damaged) × Appends old new (damage_text number block ++ 10 ∷ [])
PrintsAnswer (Err (NotChecked fault)) old new end = (end ≡ Refused fault) × (new ≡ old)

-- a check finds no damage, finds one, or is refused
abbrev pub IsCheckEnd : End → Type 0
IsCheckEnd Done = ⊤
IsCheckEnd Damaged = ⊤
IsCheckEnd AlreadyPrinted = ⊥
IsCheckEnd (Refused fault) = ⊤
