-- What is kept of the pages that were read: of each a sketch, and of those with downlinks the page itself.
use Rattle.std.specs.Prelude.{◌≡◌, ◌↔◌, ℕ, ◌<◌, ◌≤◌, true, Option, Some, None, List, [], ◌∷◌, ◌++◌, length, slice_get}
use Rattle.index_model.specs.Order.{bound_of}
use Rattle.index_model.specs.declared.bound.Bound.{Bound}
use Rattle.index_model.specs.declared.entry.Entry.{Entry}
use Rattle.page_codec.specs.declared.page.Downlink.{Downlink}
use Rattle.page_codec.specs.declared.page.Page.{Page}
use Rattle.tree_shape.specs.KeyPages.{KeyBefore, IsUniqueNode}
use Rattle.tree_shape.specs.Nodes.{Node, node_of, node_from}
use Rattle.amcheck.specs.Reports.{count_entries_on}
use Rattle.amcheck.specs.declared.sketches.Sketch.{Sketch}

-- the bound of the second of these downlinks, if there are two and it has one
abbrev pub second_bound : List Downlink → Option Bound
second_bound [] = None
second_bound (i ∷ []) = None
second_bound (i ∷ j ∷ js) = j.bound

-- what is to lie beyond the low before all others: the first entry, or the bound of the second downlink
abbrev pub least_bound : List Entry → List Downlink → Option Bound
least_bound [] links = second_bound links
least_bound (e ∷ es) links = Some (bound_of e)

-- the entry's key is less than that of the first of these, if there is one
abbrev pub EntryIsBelowFirst : Entry → List Entry → Type 0
EntryIsBelowFirst e [] = Unit {0}
EntryIsBelowFirst e (x ∷ xs) = KeyBefore e x

-- the sketch of a page, as the tree sees it
pub record IsSketch (node : Node) (sketch : Sketch) : Type 0 where
  pub level : sketch.level ≡ node.level
  pub state : sketch.state ≡ node.state
  pub split : sketch.split ≡ node.split
  pub left : sketch.left ≡ node.left
  pub right : sketch.right ≡ node.right
  pub high : sketch.high ≡ node.high
  pub least : sketch.least ≡ least_bound node.entries node.links
  pub unique : (sketch.unique ≡ true) ↔ IsUniqueNode node

-- the downlinks of the page that is kept at this place
abbrev pub links_at : List Page → Option ℕ → List Downlink
links_at whole None = []
links_at whole (Some place) = (node_from (slice_get whole place)).links

-- the sketch is that of the page, and leads to its downlinks among the pages that are kept whole
pub record HoldsSketch (whole : List Page) (page : Page) (sketch : Sketch) : Type 0 where
  pub is : IsSketch (node_of page) sketch
  pub entries : sketch.entries ≡ count_entries_on page
  pub few : sketch.entries ≤ 50
  pub links : links_at whole sketch.place ≡ (node_of page).links
  pub inside : (place : ℕ) → sketch.place ≡ Some place → place < length whole

-- so of each page in turn
pub record HoldSketches (pages whole : List Page) (sketches : List Sketch) : Type 0 where
  pub count : length sketches ≡ length pages
  pub fewer : length whole ≤ length pages
  pub each : (block : ℕ) (page : Page) (sketch : Sketch) → slice_get pages block ≡ Some page → slice_get sketches block ≡ Some sketch
      → HoldsSketch whole page sketch

-- one page more is kept whole, or none
pub record HasGrown (before after : List Page) : Type 0 where
  pub more : List Page
  pub is : after ≡ before ++ more
  pub few : length more ≤ 1
