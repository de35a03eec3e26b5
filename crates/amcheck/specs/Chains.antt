-- The first damage of the chain of a level.
use Rattle.std.specs.Prelude.{◌≡◌, ◌⊎◌, ℕ, ◌<◌, Bool}
use Rattle.damages.specs.Damages.{Index, Here, IsOfChain}

-- on the chain of this level nothing is damaged
abbrev pub IsClearChain : Index → Bool → ℕ → Type 0
IsClearChain ix keys depth = (h : Here ix) (number : ℕ) → h.depth ≡ depth → IsOfChain keys h number → ⊥

-- there is a damage of this number and block, and none that comes before it: at an earlier place, or of a
-- lesser number at the same place
pub record IsFirstOfChain (ix : Index) (keys : Bool) (depth number block : ℕ) : Type 0 where
  pub here : Here ix
  pub deep : here.depth ≡ depth
  pub is : IsOfChain keys here number
  pub block_is : block ≡ here.block
  pub first : (other : Here ix) (n : ℕ) → other.depth ≡ depth → IsOfChain keys other n
      → (other.place < here.place) ⊎ ((other.place ≡ here.place) × (n < number)) → ⊥
