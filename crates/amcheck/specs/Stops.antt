-- A chain as it was walked along, and what is judged of each of its pages.
use Rattle.std.specs.Prelude.{◌≡◌, ◌≢◌, ℕ, ◌<◌, Bool, true, Option, Some, None, List, [], ◌∷◌, slice_get}
use Rattle.index_model.specs.declared.bound.Bound.{Bound}
use Rattle.page_codec.specs.declared.page.PageState.{PageState}
use Rattle.page_codec.specs.declared.page.PageState.TheVariants.{Live, HalfDead, Deleted}
use Rattle.tree_shape.specs.KeyPages.{IsUniqueNode}
use Rattle.tree_shape.specs.Nodes.{Node}
use Rattle.tree_shape.specs.Chains.{LeftContext, Rises}
use Rattle.damages.specs.Damages.{Index, place_at, IsOnLevel, IsAfterRoot, HasNotBeyond}
use Rattle.amcheck.specs.declared.stops.Stop.{Stop}

-- the high key of the page there is the low
abbrev pub high_at : (ℕ → Node) → Option ℕ → Option Bound
high_at at None = None
high_at at (Some block) = (at block).high

-- what the walk knew before this stop
abbrev pub context_at : (ℕ → Node) → Stop → LeftContext
context_at at s = record { low = high_at at s.low_at; left = s.left; left_is_split = s.left_is_split }

-- the blocks of these stops
abbrev pub stop_blocks : List Stop → List ℕ
stop_blocks [] = []
stop_blocks (s ∷ ss) = s.block ∷ stop_blocks ss

-- the stop is at this place of the chain of a level
abbrev pub IsStop : Index → ℕ → ℕ → Stop → Type 0
IsStop ix depth place s = place_at ix depth place ≡ record { context = context_at ix.at s; block = Some s.block }

-- the stops are the first places of the chain of a level, each of another page of that level
pub record AreStops (ix : Index) (depth : ℕ) (stops : List Stop) : Type 0 where
  pub placed : (k : ℕ) (s : Stop) → slice_get stops k ≡ Some s → IsStop ix depth k s
  pub on_level : (k : ℕ) (s : Stop) → slice_get stops k ≡ Some s → IsOnLevel ix depth s.block
  pub once : (j k : ℕ) (s t : Stop) → j < k → slice_get stops j ≡ Some s → slice_get stops k ≡ Some t → s.block ≢ t.block

-- the root is named on its own level alone
abbrev pub IsRootAt : Index → ℕ → Option ℕ → Type 0
IsRootAt ix depth None = 0 < depth
IsRootAt ix depth (Some root) = (depth ≡ 0) × (root ≡ ix.root)

-- on the root's level, neither the root nor right after the root with an incomplete split
abbrev pub IsTooMuch : Option ℕ → LeftContext → ℕ → Type 0
IsTooMuch None s block = ⊥
IsTooMuch (Some root) s block = (block ≢ root) × (IsAfterRoot root s → ⊥)

-- an entry of the page, or a bound after the first, isn't beyond the low
pub record HasWrongItem (low : Option Bound) (node : Node) : Type 0 where
  pub is : HasNotBeyond low node

-- Number by number, what is judged of a page of the level that wasn't met before: all but 1 and 3, which the
-- walk finds. It is judged by its left link, its state and its high key, by whether an item is wrong, and by
-- whether its keys are. The last is judged if keys are seen.
pub data IsWrongBy (keys : Bool) (left : Option ℕ) (state : PageState) (high : Option Bound) (WrongItem WrongKeys : Type 0)
    (root : Option ℕ) (s : LeftContext) (block number : ℕ) : Type 0 where
  linked_wrongly : number ≡ 2 → left ≢ s.left → IsWrongBy keys left state high WrongItem WrongKeys root s block number
  still_there : number ≡ 4 → state ≡ Deleted → IsWrongBy keys left state high WrongItem WrongKeys root s block number
  too_low : number ≡ 5 → state ≡ Live → (Rises s.low high → ⊥) → IsWrongBy keys left state high WrongItem WrongKeys root s block number
  wrong_item : number ≡ 6 → WrongItem → IsWrongBy keys left state high WrongItem WrongKeys root s block number
  too_much : number ≡ 10 → IsTooMuch root s block → IsWrongBy keys left state high WrongItem WrongKeys root s block number
  half_dead_after : number ≡ 12 → state ≡ HalfDead → s.left_is_split ≡ true → IsWrongBy keys left state high WrongItem WrongKeys root s block number
  wrong_keys : number ≡ 13 → keys ≡ true → WrongKeys → IsWrongBy keys left state high WrongItem WrongKeys root s block number

-- ... of this page
abbrev pub IsWrong : Bool → Node → Option ℕ → LeftContext → ℕ → ℕ → Type 0
IsWrong keys node root s block number =
    IsWrongBy keys node.left node.state node.high (HasWrongItem s.low node) (IsUniqueNode node → ⊥) root s block number

-- the least number of which this is so, if there is one
abbrev pub IsLeastNumber : (ℕ → Type 0) → Option ℕ → Type 0
IsLeastNumber P None = (n : ℕ) → P n → ⊥
IsLeastNumber P (Some n) = P n × ((m : ℕ) → m < n → P m → ⊥)

-- this is wrong at the stop at this place
pub record IsWrongAt (at : ℕ → Node) (keys : Bool) (root : Option ℕ) (stops : List Stop) (k number : ℕ) : Type 0 where
  pub stop : Stop
  pub there : slice_get stops k ≡ Some stop
  pub wrong : IsWrong keys (at stop.block) root (context_at at stop) stop.block number

-- something is
pub record IsBad (at : ℕ → Node) (keys : Bool) (root : Option ℕ) (stops : List Stop) (k : ℕ) : Type 0 where
  pub number : ℕ
  pub wrong : IsWrongAt at keys root stops k number

-- the first place of which this is so, if there is one
abbrev pub IsFirstPlace : (ℕ → Type 0) → Option ℕ → Type 0
IsFirstPlace P None = (k : ℕ) → P k → ⊥
IsFirstPlace P (Some k) = P k × ((j : ℕ) → j < k → P j → ⊥)

-- the page of each stop is in use
abbrev pub StopsAreInUse : ℕ → List Stop → Type 0
StopsAreInUse used stops = (k : ℕ) (s : Stop) → slice_get stops k ≡ Some s → (0 < s.block) × (s.block < used)
