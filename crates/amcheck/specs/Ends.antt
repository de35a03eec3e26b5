-- How a walk along the chain of a level ended.
use Rattle.std.specs.Prelude.{◌≡◌, ℕ, ◌<◌, Some, None}
use Rattle.damages.specs.Damages.{Index, place_at, IsOnLevel}
use Rattle.amcheck.specs.Stops.{IsStop}
use Rattle.amcheck.specs.declared.walks.WalkEnd.{WalkEnd}
use Rattle.amcheck.specs.declared.walks.WalkEnd.TheVariants.{Whole, Off, Met}

-- an earlier place has this block
pub record IsEarlier (ix : Index) (depth place block : ℕ) : Type 0 where
  pub earlier : ℕ
  pub before : earlier < place
  pub is : (place_at ix depth earlier).block ≡ Some block

-- at this place: the chain is not so long, or has a block that is on another level or on none, or comes back
-- to a page
abbrev pub IsChainEnd : Index → ℕ → ℕ → WalkEnd → Type 0
IsChainEnd ix depth place Whole = (place_at ix depth place).block ≡ None
IsChainEnd ix depth place (Off block) = ((place_at ix depth place).block ≡ Some block) × (IsOnLevel ix depth block → ⊥)
IsChainEnd ix depth place (Met stop) = IsStop ix depth place stop × IsOnLevel ix depth stop.block × IsEarlier ix depth place stop.block
