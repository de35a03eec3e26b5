-- What is judged of the downlinks of a page of a chain, if all chains are right. The first of them has the
-- page's low for its bound.
use Rattle.std.specs.Prelude.{◌≡◌, ◌≢◌, ◌⊎◌, ℕ, suc, ◌<◌, Bool, true, false, Some, List, slice_get, get_or}
use Rattle.page_codec.specs.declared.page.Downlink.{Downlink}
use Rattle.page_codec.specs.declared.page.PageState.TheVariants.{HalfDead}
use Rattle.tree_shape.specs.Nodes.{Node}
use Rattle.damages.specs.Damages.{Index, IsOnLevel}
use Rattle.amcheck.specs.AllStops.{IsStopOf, HasNoStop}
use Rattle.amcheck.specs.Stops.{high_at}
use Rattle.amcheck.specs.declared.stops.Stop.{Stop}

-- the first that leads to a page that isn't on the level below
pub record IsOff (ix : Index) (depth : ℕ) (links : List Downlink) (child : ℕ) : Type 0 where
  pub item : ℕ
  pub link : Downlink
  pub there : slice_get links item ≡ Some link
  pub child_is : child ≡ link.child
  pub off : IsOnLevel ix (suc depth) link.child → ⊥
  pub first : (j : ℕ) (l : Downlink) → j < item → slice_get links j ≡ Some l → IsOnLevel ix (suc depth) l.child

abbrev pub AreBelow : Index → ℕ → List Downlink → Type 0
AreBelow ix depth links = (item : ℕ) (link : Downlink) → slice_get links item ≡ Some link → IsOnLevel ix (suc depth) link.child

-- its bound isn't the low of its child, which is on a chain
pub record HasOtherLow (at : ℕ → Node) (stops : List Stop) (link : Downlink) : Type 0 where
  pub stop : Stop
  pub is : IsStopOf stops link.child stop
  pub differs : link.bound ≢ high_at at stop.low_at

-- one of them has such a bound
pub record HasWrongBound (at : ℕ → Node) (stops : List Stop) (links : List Downlink) : Type 0 where
  pub item : ℕ
  pub link : Downlink
  pub there : slice_get links item ≡ Some link
  pub wrong : HasOtherLow at stops link

-- a page without a downlink: half-dead, or right after a page with an incomplete split
pub record IsSkipped (node : Node) (left_is_split : Bool) : Type 0 where
  pub is : (node.state ≡ HalfDead) ⊎ (left_is_split ≡ true)

-- the page may have a downlink, and none from an earlier page leads to it
pub record LacksLink (top : ℕ) (node : Node) (left_is_split linked : Bool) : Type 0 where
  pub below : node.level < top
  pub may : IsSkipped node left_is_split → ⊥
  pub none : linked ≡ false

-- the block is that of a page on a chain that is to have no downlink
pub record IsSkippedStop (at : ℕ → Node) (stops : List Stop) (b : ℕ) : Type 0 where
  pub stop : Stop
  pub is : IsStopOf stops b stop
  pub skipped : IsSkipped (at stop.block) stop.left_is_split

-- one before this item leads to the block
pub record LeadsBefore (links : List Downlink) (item b : ℕ) : Type 0 where
  pub earlier : ℕ
  pub link : Downlink
  pub before : earlier < item
  pub there : slice_get links earlier ≡ Some link
  pub leads : link.child ≡ b

-- a downlink too many: to a page on no chain, to one that is to have none, or to one that has one already
pub record IsExtra (at : ℕ → Node) (stops : List Stop) (linked : List Bool) (b : ℕ) : Type 0 where
  pub is : HasNoStop stops b ⊎ IsSkippedStop at stops b ⊎ (get_or linked b false ≡ true)

-- one of them is
pub record HasExtra (at : ℕ → Node) (stops : List Stop) (linked : List Bool) (links : List Downlink) : Type 0 where
  pub item : ℕ
  pub link : Downlink
  pub there : slice_get links item ≡ Some link
  pub wrong : IsExtra at stops linked link.child ⊎ LeadsBefore links item link.child

-- beside the blocks that were marked before those are to which one of the first `count` leads
pub record DownlinksAreNoted (links : List Downlink) (count : ℕ) (before after : List Bool) : Type 0 where
  pub from : (b : ℕ) → get_or after b false ≡ true → (get_or before b false ≡ true) ⊎ LeadsBefore links count b
  pub kept : (b : ℕ) → get_or before b false ≡ true → get_or after b false ≡ true
  pub new : (b : ℕ) → LeadsBefore links count b → get_or after b false ≡ true

-- Number by number, what is wrong with a page among its parents and children, all of which are on the level
-- below.
pub record IsWrongAmong (at : ℕ → Node) (stops : List Stop) (linked : List Bool) (links : List Downlink) (top : ℕ)
    (node : Node) (stop : Stop) (number : ℕ) : Type 0 where
  pub is : ((number ≡ 7) × HasWrongBound at stops links)
      ⊎ ((number ≡ 8) × LacksLink top node stop.left_is_split (get_or linked stop.block false))
      ⊎ ((number ≡ 9) × HasExtra at stops linked links)
