-- What pages without a damage are: an index of levels, under the metapage.
use Rattle.std.specs.Prelude.{◌≡◌, ◌≢◌, ℕ, suc, ◌<◌, ◌≤◌, Some, None, List, [], ◌∷◌, length, slice_get}
use Rattle.page_codec.specs.Grammar.{IsPage}
use Rattle.page_codec.specs.declared.page.Downlink.{Downlink}
use Rattle.page_codec.specs.declared.page.Page.{Page}
use Rattle.tree_shape.specs.KeyPages.{IsUniqueNode}
use Rattle.tree_shape.specs.Nodes.{Node, nodes_of}
use Rattle.tree_shape.specs.Chains.{IsRunOf, IsRootLevel, IsIn, AreDistinct, first_context, first_or}
use Rattle.tree_shape.specs.Tree.{IsMetaOf}
use Rattle.damages.specs.Damages.{index_of, moved_left, IsOnChain}

-- each page is one of the format, and stands at its block
abbrev pub StandAtTheirBlocks : List Page → Type 0
StandAtTheirBlocks pages = (block : ℕ) (page : Page) → slice_get pages block ≡ Some page
    → IsPage page × (page.block ≡ block)

-- the child of the first downlink of the page at a block
pub record HasFirstChild (pages : List Page) (block child : ℕ) : Type 0 where
  pub link : Downlink
  pub rest : List Downlink
  pub links_are : (nodes_of pages block).links ≡ link ∷ rest
  pub child_is : child ≡ link.child

-- left links lead from the first block to the second
pub record LeadsLeft (at : ℕ → Node) (start head : ℕ) : Type 0 where
  pub steps : ℕ
  pub leads : moved_left at start steps ≡ head

-- from the first child of the leftmost page of the upper chain left links lead to that of the lower one
abbrev pub IsAbove : List Page → List ℕ → List ℕ → Type 0
IsAbove pages upper lower = (head child first : ℕ) → first_or upper None ≡ Some head
    → HasFirstChild pages head child → first_or lower None ≡ Some first
    → LeadsLeft (nodes_of pages) child first

-- Each level, from the root's to the leaves, is one chain of pages, linked both ways. It is the one to whose
-- leftmost page left links lead from the first child of the level above.
pub record AreLevels (pages : List Page) (root top : ℕ) (chain : ℕ → List ℕ) : Type 0 where
  pub some : (level : ℕ) → level ≤ top → chain level ≢ []
  pub runs : (level : ℕ) → level ≤ top
      → IsRunOf (nodes_of pages) level first_context (chain level) None
  pub distinct : (level : ℕ) → level ≤ top → AreDistinct (chain level)
  pub in_use : (level b : ℕ) → level ≤ top → IsIn b (chain level)
      → (0 < b) × (b < length pages)
  pub above : (level : ℕ) → level < top → IsAbove pages (chain (suc level)) (chain level)
  pub root_level : IsRootLevel (nodes_of pages) root (chain top)

-- the pages are an index of levels, under the metapage
pub record HasLevels (pages : List Page) : Type 0 where
  pub meta : Page
  pub meta_at : slice_get pages 0 ≡ Some meta
  pub root : ℕ
  pub names_root : IsMetaOf meta root meta.level
  pub chain : ℕ → List ℕ
  pub are : AreLevels pages root meta.level chain

-- each page on the chain of a level is one of a unique index: its bounds are places before all rows of a key,
-- and no two of its entries share a key
abbrev pub HasUniqueLevels : List Page → Type 0
HasUniqueLevels pages = (block : ℕ) → IsOnChain (index_of pages) block → IsUniqueNode (nodes_of pages block)
