-- What is judged of one page of a level's chain.
use Rattle.std.specs.Prelude.{◌≡◌, ℕ, ◌<◌, Option, Some, None, List, length}
use Rattle.index_model.specs.declared.bound.Bound.{Bound}
use Rattle.page_codec.specs.declared.page.Page.{Page}
use Rattle.tree_shape.specs.Nodes.{nodes_of}
use Rattle.tree_shape.specs.Chains.{IsBeyond}
pub use Rattle.damages.specs.Levels.{StandAtTheirBlocks}
pub use Rattle.damages.specs.Lows.{IsFirstBeyond, IsSecondBeyond, IsBoundBeyond}

-- a block in use whose page is of this level; block 0 is on no level
pub record PageIsOnLevel (pages : List Page) (level block : ℕ) : Type 0 where
  pub after_meta : 0 < block
  pub in_use : block < length pages
  pub level_is : (nodes_of pages block).level ≡ level

-- the bound, if there is one, lies beyond the low
abbrev pub IsNoneOrBeyond : Option Bound → Option Bound → Type 0
IsNoneOrBeyond low None = Unit {0}
IsNoneOrBeyond low (Some bound) = IsBeyond low bound
