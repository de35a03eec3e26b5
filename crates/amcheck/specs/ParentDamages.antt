-- The first damage of parents and children, stop by stop.
use Rattle.std.specs.Prelude.{◌≡◌, ◌⊎◌, ℕ, suc, ◌<◌, Bool, true, false, List, get_or}
use Rattle.damages.specs.Damages.{Index, Here, Item, IsOnLevel, IsOfParents}
use Rattle.amcheck.specs.AllStops.{IsAt}
use Rattle.amcheck.specs.declared.stops.Stop.{Stop}

-- each child of the page at this stop is on the level below
abbrev pub AreChildrenBelow : Index → List Stop → ℕ → Type 0
AreChildrenBelow ix stops k = (h : Here ix) → IsAt stops k h → (i : Item h) → IsOnLevel ix (suc h.depth) i.link.child

-- nothing is damaged there
pub record IsClearAt (ix : Index) (stops : List Stop) (k : ℕ) : Type 0 where
  pub children : AreChildrenBelow ix stops k
  pub page : (h : Here ix) (n : ℕ) → IsAt stops k h → IsOfParents h n → ⊥

-- a child isn't on the level below: that is damage 1 of its block, and the first item with such a child
-- counts
pub record IsFirstChild (ix : Index) (stops : List Stop) (k number block : ℕ) : Type 0 where
  pub here : Here ix
  pub at : IsAt stops k here
  pub item : Item here
  pub one : number ≡ 1
  pub off : IsOnLevel ix (suc here.depth) item.link.child → ⊥
  pub block_is : block ≡ item.link.child
  pub first : (h : Here ix) → IsAt stops k h → (j : Item h) → j.item < item.item → IsOnLevel ix (suc h.depth) j.link.child

-- all are, and this is the least number of what is damaged
pub record IsFirstOfPage (ix : Index) (stops : List Stop) (k number block : ℕ) : Type 0 where
  pub here : Here ix
  pub at : IsAt stops k here
  pub children : AreChildrenBelow ix stops k
  pub is : IsOfParents here number
  pub block_is : block ≡ here.block
  pub first : (h : Here ix) (n : ℕ) → IsAt stops k h → n < number → IsOfParents h n → ⊥

pub record IsFirstAt (ix : Index) (stops : List Stop) (k number block : ℕ) : Type 0 where
  pub is : IsFirstChild ix stops k number block ⊎ IsFirstOfPage ix stops k number block

-- an item of a page at an earlier stop leads to the block
pub record IsLedTo (ix : Index) (stops : List Stop) (k b : ℕ) : Type 0 where
  pub page : Here ix
  pub item : Item page
  pub index : ℕ
  pub before : index < k
  pub at : IsAt stops index page
  pub leads : item.link.child ≡ b

-- the blocks to which earlier stops lead are marked
pub record AreMarked (ix : Index) (stops : List Stop) (k : ℕ) (linked : List Bool) : Type 0 where
  pub from : (b : ℕ) → get_or linked b false ≡ true → IsLedTo ix stops k b
  pub all : (b : ℕ) → IsLedTo ix stops k b → get_or linked b false ≡ true
