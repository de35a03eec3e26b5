-- Pages that one session holds alone, and what one act does.
use Rattle.std.specs.Prelude.{◌≡◌, ◌≢◌, ℕ, suc, Bool, true, false, Option, Some, None, unwrap_or, []}
use Rattle.index_model.specs.Actions.{Effect, Add, Remove, Shape, said_of}
use Rattle.index_model.specs.Order.{is_among, IsAscending}
use Rattle.index_model.specs.declared.entry.Entry.{Entry}
use Rattle.latch_table.specs.Holdings.{Table, holding_of, latches_exclude}
use Rattle.latch_table.specs.declared.mode.Mode.TheVariants.{Shared, Exclusive}
use Rattle.page_action.specs.Contents.{entry_on_live_leaf}
use Rattle.page_action.specs.States.{State, with_table}

-- the session holds a latch of the block that excludes all others
abbrev pub HoldsAlone : Table → ℕ → ℕ → Type 0
HoldsAlone table session block = latches_exclude (holding_of table session).latches block Shared ≡ true

-- if one session holds a block alone, no other latches it
abbrev pub AreApart : Table → Type 0
AreApart table = (session other block : ℕ) → session ≢ other → HoldsAlone table session block
    → latches_exclude (holding_of table other).latches block Exclusive ≡ false

-- an effect that may be, by what was there: an entry is added that wasn't there; one or more entries are
-- removed, ascending, that were there; or the shape of the pages is changed
abbrev pub IsApt : (Entry → Bool) → Effect → Type 0
IsApt was_there (Add e) = was_there e ≡ false
IsApt was_there (Remove es) = (es ≢ []) × IsAscending es × ((e : Entry) → is_among es e ≡ true → was_there e ≡ true)
IsApt was_there Shape = Unit {0}

-- one act was done, with this effect on the contents
pub record HasDoneAct (effect : Effect) (old new : State) : Type 0 where
  pub acts : new.acts ≡ suc old.acts
  pub apt : IsApt (entry_on_live_leaf old.pages) effect
  pub contents : (e : Entry) → entry_on_live_leaf new.pages e ≡ unwrap_or (said_of effect e) (entry_on_live_leaf old.pages e)

-- one act was done, with this effect; or, with none, nothing but latches and pins is changed
abbrev pub HasEffect : Option Effect → State → State → Type 0
HasEffect None old new = new ≡ with_table old new.table
HasEffect (Some effect) old new = HasDoneAct effect old new
