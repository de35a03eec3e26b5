-- The search for the first bad stop of a chain, in one thread or in many.
use Rattle.std.specs.Prelude.{ℕ, ◌≤◌, Bool, Option, List, length}
use Rattle.std.specs.Borrow.{Bor}
use Rattle.page_codec.specs.declared.page.Page.{Page}
use Rattle.tree_shape.specs.Nodes.{nodes_of}
use Rattle.amcheck.specs.Places.{StandAtTheirBlocks}
use Rattle.amcheck.specs.Stops.{IsBad, IsFirstPlace, StopsAreInUse}
use Rattle.amcheck.specs.declared.stops.Stop.{Stop}

-- what it asks: pages of the format, and stops at pages in use, no more than there can be blocks
pub record AreSearchable (pages : List Page) (stops : List Stop) : Type 0 where
  pub stand : StandAtTheirBlocks pages
  pub in_use : StopsAreInUse (length pages) stops
  pub few : length stops ≤ 65536

-- it may be made there, keys seen or not, for any root
abbrev pub MaySearch : (Bor (List Page) → Bool → Option ℕ → Bor (List Stop) → Type 0) → Type 0
MaySearch pre = (pages : Bor (List Page)) (keys : Bool) (root : Option ℕ) (stops : Bor (List Stop))
    → AreSearchable pages.now stops.now → pre pages keys root stops

-- ... and finds the first bad stop, or that there is none
abbrev pub FindsFirst : (Bor (List Page) → Bool → Option ℕ → Bor (List Stop) → Option ℕ → Type 0) → Type 0
FindsFirst post = (pages : Bor (List Page)) (keys : Bool) (root : Option ℕ) (stops : Bor (List Stop)) (result : Option ℕ)
    → AreSearchable pages.now stops.now → post pages keys root stops result
    → IsFirstPlace (IsBad (nodes_of pages.now) keys root stops.now) result
