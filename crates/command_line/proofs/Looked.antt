-- What is told of the pages of a store whose state has stayed.
use Rattle.std.specs.Prelude.{IfNone, IfSome}
use Rattle.std.proofs.Common.{◌≡◌, ℕ, Bool, List, Option, Some, None, sym, subst}
use Rattle.access_method.specs.Files.{IsNotOpened}
use Rattle.index_model.specs.declared.fault.Fault.TheVariants.{Io}
use Rattle.index_model.specs.declared.format.Format.{Format}
use Rattle.page_codec.specs.declared.page.Page.{Page}
use Rattle.index_model.specs.Faults.{HasCause}
use Rattle.command_line.specs.Files.{IsOpenedFromFile, IsCheckRefused, IsDumpRefused, IsOpeningRefused}
use Rattle.command_line.specs.Listing.{causes_of_listed}
use Rattle.command_line.proofs.Imports.{causes_of_checked, DeviceGhosts, Fault, State, Ghosts, Store, PrintsPages, ListsFirst, PrintsReport, PrintsDamage}

module _ (now was : State) (same : now ≡ was) (honest : Bool) (old new : Option (List ℕ)) where
  pub report_stays : PrintsReport honest was.pages old new → PrintsReport honest now.pages old new
  report_stays told = subst (λ (st : State). PrintsReport honest st.pages old new) (sym same) told

  pub damage_stays : (parents : Bool) → PrintsDamage honest parents was old new → PrintsDamage honest parents now old new
  damage_stays parents told = subst (λ (st : State). PrintsDamage honest parents st old new) (sym same) told

  pub list_stays : PrintsPages honest was.pages old new → PrintsPages honest now.pages old new
  list_stays told = subst (λ (st : State). PrintsPages honest st.pages old new) (sym same) told

  pub first_stay : ListsFirst honest was.pages old new → ListsFirst honest now.pages old new
  first_stay told = subst (λ (st : State). ListsFirst honest st.pages old new) (sym same) told

-- a check that was refused over the store that was opened
pub check_refused : {D : Type 0} (d : DeviceGhosts D) (g : Ghosts (Store D d)) (bytes : ℕ → List ℕ) (fault : Fault) (first store : Store D d)
    → IsOpenedFromFile d bytes first → g.follows first store → g.state store ≡ g.state first
    → HasCause (causes_of_checked (g.state first) (g.backing first) (g.backing store)) fault → IsCheckRefused d g bytes fault store
check_refused d g bytes fault first store opened follows same cause = record {
  looked = record { first = first; opened = opened; follows = follows; state_is = same };
  cause = subst (λ (st : State). HasCause (causes_of_checked st (g.backing first) (g.backing store)) fault) (sym same) cause;
}

-- ... a dump
pub dump_refused : {D : Type 0} (d : DeviceGhosts D) (g : Ghosts (Store D d)) (bytes : ℕ → List ℕ) (fault : Fault) (first store : Store D d)
    → IsOpenedFromFile d bytes first → g.follows first store → g.state store ≡ g.state first
    → HasCause (causes_of_listed (g.state first) (g.backing first) (g.backing store)) fault → IsDumpRefused d g bytes fault store
dump_refused d g bytes fault first store opened follows same cause = record {
  looked = record { first = first; opened = opened; follows = follows; state_is = same };
  cause = subst (λ (st : State). HasCause (causes_of_listed st (g.backing first) (g.backing store)) fault) (sym same) cause;
}

-- an opening that was refused, with or without a device
pub opening_refused : {D : Type 0} (d : DeviceGhosts D) (Sound : Format → List Page → Type 0) (bytes : ℕ → List ℕ) (frames : ℕ) (fault told : Fault) (left : Option D)
    → fault ≡ told → IfSome left (IsNotOpened d Sound bytes frames fault) → IfNone left (fault ≡ Io) → IsOpeningRefused d Sound bytes frames told left
opening_refused d Sound bytes frames fault told left same cause untaken = subst (λ (f : Fault). IsOpeningRefused d Sound bytes frames f left) same (either left cause untaken)
  where
    either : (o : Option _) → IfSome o (IsNotOpened d Sound bytes frames fault) → IfNone o (fault ≡ Io) → IsOpeningRefused d Sound bytes frames fault o
    either None cause untaken = untaken
    either (Some device) cause untaken = cause
