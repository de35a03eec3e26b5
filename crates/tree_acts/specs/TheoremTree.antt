-- The theorem's words: the pages of a store are a B-link tree.
use Rattle.std.specs.Prelude.{◌≡◌, ℕ, Some, List, length, slice_get}
use Rattle.page_codec.specs.declared.page.Page.{Page}
use Rattle.tree_shape.specs.Tree.{IsMetaOf}
use Rattle.tree_shape.specs.Nodes.{nodes_of}
use Rattle.tree_shape.specs.Chains.{IsTreeOf}

-- the pages are a B-link tree of any size, under the metapage
pub record IsTree (pages : List Page) : Type 0 where
  pub meta : Page
  pub meta_at : slice_get pages 0 ≡ Some meta
  pub root : ℕ
  pub names_root : IsMetaOf meta root meta.level
  pub chain : ℕ → List ℕ
  pub is : IsTreeOf (nodes_of pages) (length pages) root meta.level chain
