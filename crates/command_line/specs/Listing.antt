-- What a dump prints, and what that means.
use Rattle.std.specs.Prelude.{◌≡◌, true, false, Bool, ℕ, ◌<◌, Option, List, length, take, ⊤}
use Rattle.std.specs.Io.KnownBytes.{Appends}
use Rattle.amcheck.specs.Checks.{causes_of_checked}
use Rattle.index_model.specs.Faults.{Circumstances}
use Rattle.page_action.specs.States.{State, Backing}
use Rattle.page_codec.specs.declared.page.Page.{Page}
use Rattle.text_forms.specs.Dumping.{pages_text}
use Rattle.command_line.specs.declared.end.End.{End}
use Rattle.command_line.specs.declared.end.End.TheVariants.{Done, Damaged, AlreadyPrinted, Refused}

-- what was printed is the lines of these pages, in their order, as far as the device kept its model
abbrev pub PrintsPages : Bool → List Page → Option (List ℕ) → Option (List ℕ) → Type 0
PrintsPages honest pages old new = honest ≡ true → Appends old new (pages_text pages)

-- what was printed is the lines of the first so many of these pages, but not of all
pub record ListsFirst (honest : Bool) (pages : List Page) (old new : Option (List ℕ)) : Type 0 where
  pub count : ℕ
  pub few : count < length pages
  pub printed : PrintsPages honest (take count pages) old new

-- why a page of the list isn't read: as in a check, but no memory is taken
abbrev pub causes_of_listed : State → Backing → Backing → Circumstances
causes_of_listed st old new = record (causes_of_checked st old new) { growth_refused = false }

-- all was done, or a refusal is to be said
abbrev pub IsDoneOrRefused : End → Type 0
IsDoneOrRefused Done = ⊤
IsDoneOrRefused Damaged = ⊥
IsDoneOrRefused AlreadyPrinted = ⊥
IsDoneOrRefused (Refused fault) = ⊤
