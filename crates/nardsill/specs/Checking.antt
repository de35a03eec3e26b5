-- What a check of a file that C has open tells.
use Rattle.std.specs.Prelude.{◌≡◌, ◌≢◌, ℕ, true, IsTrue, List, Result, Ok, Err, OnOk}
use Rattle.access_method.specs.Files.{bytes_before}
use Rattle.amcheck.specs.Answers.{IsAnswer}
use Rattle.amcheck.specs.declared.report.CheckFault.{CheckFault}
use Rattle.amcheck.specs.declared.report.CheckFault.TheVariants.{Damage, Refused}
use Rattle.amcheck.specs.declared.report.Report.{Report}
use Rattle.device.specs.declared.device.Device.{Ghosts as DeviceGhosts}
use Rattle.index_model.specs.Faults.{number_of}
use Rattle.index_model.specs.declared.fault.Fault.{Fault}
use Rattle.index_model.specs.declared.format.Format.{Format}
use Rattle.page_action.specs.States.{Continues}
use Rattle.page_action.specs.declared.page_store.PageStore.{Ghosts}
use Rattle.page_codec.specs.declared.page.Page.{Page}
use Rattle.page_store.specs.Stores.{device_of}
use Rattle.page_store.specs.declared.store.Store.{Store}
use Rattle.recovery.specs.Index.{HasIndex}
use Rattle.recovery.specs.Opening.{IsSameIndex}
use Rattle.tree_acts.specs.TheoremKeys.{IsTreeFor}
use Rattle.nardsill.specs.Meanings.{page_of}
use Rattle.nardsill.specs.declared.checking.Checked.{Checked}

-- the check was refused with this fault
pub record IsCheckRefusal (fault : Fault) (checked : Checked) : Type 0 where
  pub status : checked.status ≡ number_of fault
  pub page : checked.page ≡ page_of fault
  pub no_damage : checked.damage ≡ 0

pub record CheckHasReport (report : Report) (checked : Checked) : Type 0 where
  pub status : checked.status ≡ 0
  pub no_damage : checked.damage ≡ 0
  pub entries : checked.entries ≡ report.entries
  pub levels : checked.levels ≡ report.levels
  pub pages : checked.pages ≡ report.pages
  pub half_dead : checked.half_dead ≡ report.half_dead
  pub deleted : checked.deleted ≡ report.deleted
  pub unfinished : checked.unfinished ≡ report.unfinished

pub record CheckHasDamage (number block : ℕ) (checked : Checked) : Type 0 where
  pub status : checked.status ≡ 0
  pub damage : checked.damage ≡ number
  pub at : checked.block ≡ block

-- what the verifier answered is told: the report, the damage, or the refusal
abbrev pub AnswersCheck : Result Report CheckFault → Checked → Type 0
AnswersCheck (Ok report) checked = CheckHasReport report checked
AnswersCheck (Err (Damage number block)) checked = CheckHasDamage number block checked
AnswersCheck (Err (Refused fault)) checked = IsCheckRefusal fault checked

-- a file, which held these bytes for each length that it might have, is opened with the pages of its index
abbrev pub IsOpenedForCheck : {D : Type 0} (d : DeviceGhosts D) → (ℕ → List ℕ) → Store D d → Type 0
IsOpenedForCheck d held store = IsTrue (d.is_honest (device_of d store)) → (format : Format) (pages : List Page)
    → HasIndex format pages (bytes_before held (d.trace (device_of d store))) → IsSameIndex d format pages store

-- The index in the file was opened and judged, and what the verifier answered is told: of its pages, which it
-- has left as they were.
pub record IsJudged {D : Type 0} (d : DeviceGhosts D) (g : Ghosts (Store D d)) (held : ℕ → List ℕ) (checked : Checked) : Type 0 where
  pub store : Store D d
  pub opened : IsOpenedForCheck d held store
  pub last : Store D d
  pub steps : Continues g.follows store last
  pub state_is : g.state last ≡ g.state store
  pub outcome : Result Report CheckFault
  pub told : AnswersCheck outcome checked
  pub answer : (g.backing last).honest ≡ true → IsAnswer true (g.state store).format.unique (g.state store).pages outcome
  pub tree : (g.backing last).honest ≡ true → OnOk outcome (IsTreeFor (g.state store).format (g.state store).pages)

-- where 0 is answered, it was judged; else a fault is told
pub record IsChecked {D : Type 0} (d : DeviceGhosts D) (g : Ghosts (Store D d)) (held : ℕ → List ℕ) (checked : Checked) : Type 0 where
  pub judged : checked.status ≡ 0 → IsJudged d g held checked
  pub refused : checked.status ≢ 0 → (fault : Fault) × IsCheckRefusal fault checked
