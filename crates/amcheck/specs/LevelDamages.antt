-- The first damage of a level: on the way to its leftmost page, or on its chain.
use Rattle.std.specs.Prelude.{◌⊎◌, ℕ, ◌<◌, Bool, true, false, ◌≡◌, List, get_or}
use Rattle.tree_shape.specs.Chains.{IsIn}
use Rattle.damages.specs.Damages.{Index, IsOnLevel}
use Rattle.amcheck.specs.Chains.{IsClearChain, IsFirstOfChain}
use Rattle.amcheck.specs.Ways.{IsClearPath, IsFirstOfPath}
use Rattle.amcheck.specs.declared.marks.Met.{Met}

-- nothing is damaged there
pub record IsClearLevel (ix : Index) (keys : Bool) (depth : ℕ) : Type 0 where
  pub way : IsClearPath ix depth
  pub chain : IsClearChain ix keys depth

-- there is a damage of this number and block, and none that comes before it; the chain is looked at if the
-- way is clear
pub record IsFirstOfLevel (ix : Index) (keys : Bool) (depth number block : ℕ) : Type 0 where
  pub is : IsFirstOfPath ix depth number block ⊎ (IsClearPath ix depth × IsFirstOfChain ix keys depth number block)

-- the block is of a level above this one
pub record IsOfUpper (ix : Index) (depth block : ℕ) : Type 0 where
  pub upper : ℕ
  pub above : upper < depth
  pub on : IsOnLevel ix upper block

-- the blocks that were seen on the ways, and those that were met on the chains, are of levels above this one
pub record AreOfUpper (ix : Index) (depth : ℕ) (seen : List Bool) (met : Met) : Type 0 where
  pub seen_are : (b : ℕ) → get_or seen b false ≡ true → IsOfUpper ix depth b
  pub met_are : (b : ℕ) → IsIn b met.blocks.items → IsOfUpper ix depth b
