-- What pages are if a check finds no damage.
use Rattle.std.specs.Prelude.{◌≡◌, Bool, true, List}
use Rattle.index_model.specs.declared.format.Format.{Format}
use Rattle.page_codec.specs.declared.page.Page.{Page}
use Rattle.tree_shape.specs.KeyPages.{AreUnique}
use Rattle.tree_acts.specs.TheoremTree.{IsTree}
use Rattle.damages.specs.Levels.{HasLevels, HasUniqueLevels}

-- an index of levels, and of a unique one if the format says that the index is
abbrev pub HasLevelsFor : Format → List Page → Type 0
HasLevelsFor format pages = HasLevels pages × (format.unique ≡ true → HasUniqueLevels pages)

-- a B-link tree, each of whose pages, if keys are seen, is one of a unique index by itself
pub record IsSoundTree (keys : Bool) (pages : List Page) : Type 0 where
  pub tree : IsTree pages
  pub unique : keys ≡ true → AreUnique pages
