-- The places of the chains of all levels, as they were walked along.
use Rattle.std.specs.Prelude.{◌≡◌, ◌≢◌, ℕ, zero, suc, Option, Some, None, List, [], ◌++◌, length, slice_get, get_or}
use Rattle.damages.specs.Damages.{Index, Here, place_at}
use Rattle.amcheck.specs.Stops.{IsStop, AreStops}
use Rattle.amcheck.specs.declared.stops.Stop.{Stop}

-- the stops are all places of the chain of a level
pub record StopsAreAll (ix : Index) (depth : ℕ) (stops : List Stop) : Type 0 where
  pub are : AreStops ix depth stops
  pub ends : (place_at ix depth (length stops)).block ≡ None

-- the stops are all places of the chains of this number of levels, the root's first, one level after the
-- other
abbrev pub AreAllStops : Index → ℕ → List Stop → Type 0
AreAllStops ix zero stops = stops ≡ []
AreAllStops ix (suc depth) stops = (front : List Stop) × (back : List Stop) × (stops ≡ front ++ back)
    × AreAllStops ix depth front × StopsAreAll ix depth back

-- this place of a chain is the stop there
pub record IsAt {ix : Index} (stops : List Stop) (k : ℕ) (h : Here ix) : Type 0 where
  pub stop : Stop
  pub there : slice_get stops k ≡ Some stop
  pub is : IsStop ix h.depth h.place stop

-- no two stops have the same block
abbrev pub HaveBlocksOnce : List Stop → Type 0
HaveBlocksOnce stops = (j k : ℕ) (s t : Stop) → slice_get stops j ≡ Some s → slice_get stops k ≡ Some t → s.block ≡ t.block
    → j ≡ k

-- for each block the stop that has it is known by its place, if there is one
pub record PlacesAreOfStops (stops : List Stop) (places : List (Option ℕ)) : Type 0 where
  pub there : (b k : ℕ) → get_or places b None ≡ Some k → (s : Stop) × (slice_get stops k ≡ Some s) × (s.block ≡ b)
  pub none : (b k : ℕ) (s : Stop) → get_or places b None ≡ None → slice_get stops k ≡ Some s → s.block ≢ b

-- the stop that has this block, if there is one
pub record IsStopOf (stops : List Stop) (b : ℕ) (s : Stop) : Type 0 where
  pub place : ℕ
  pub there : slice_get stops place ≡ Some s
  pub is : s.block ≡ b

abbrev pub HasNoStop : List Stop → ℕ → Type 0
HasNoStop stops b = (k : ℕ) (s : Stop) → slice_get stops k ≡ Some s → s.block ≢ b
