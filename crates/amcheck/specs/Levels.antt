-- The root, and the pages that are on no chain.
use Rattle.std.specs.Prelude.{◌≡◌, ◌≢◌, ℕ, ◌<◌, Some, List, length, slice_get}
use Rattle.page_codec.specs.declared.page.Page.{Page}
use Rattle.page_codec.specs.declared.page.PageState.TheVariants.{Deleted}
use Rattle.tree_shape.specs.Nodes.{nodes_of}
use Rattle.tree_shape.specs.Chains.{IsIn}
use Rattle.tree_shape.specs.Tree.{IsMetaOf}

-- the metapage names the root, and its level
pub record NamesRoot (pages : List Page) (root top : ℕ) : Type 0 where
  pub meta : Page
  pub meta_at : slice_get pages 0 ≡ Some meta
  pub names : IsMetaOf meta root meta.level
  pub top_is : top ≡ meta.level

-- a page in use, neither deleted nor the metapage, is none of those that were met
pub record IsNotMet (pages : List Page) (met : List ℕ) (block : ℕ) : Type 0 where
  pub after_meta : 0 < block
  pub in_use : block < length pages
  pub stands : (nodes_of pages block).state ≢ Deleted
  pub unmet : IsIn block met → ⊥
