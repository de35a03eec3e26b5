-- The theorem's words: the pages of a unique index.
use Rattle.std.specs.Prelude.{◌≡◌, ℕ, true, None, IfSome, List}
use Rattle.std.specs.List.{AllByRecursion}
use Rattle.index_model.specs.Actions.{KeysDiffer}
use Rattle.index_model.specs.declared.format.Format.{Format}
use Rattle.page_codec.specs.declared.page.Page.{Page}
use Rattle.page_action.specs.Contents.{entry_on_live_leaf}
use Rattle.tree_shape.specs.Nodes.{nodes_of}
use Rattle.tree_acts.specs.TheoremTree.{IsTree}

-- each bound is the place before all rows of a key, and no two entries that are there share a key
pub record AreKeyed (pages : List Page) : Type 0 where
  pub high : (b : ℕ) → IfSome (nodes_of pages b).high (λ s. s.row ≡ None)
  pub bounds : (b : ℕ)
      → AllByRecursion (λ d. IfSome d.bound (λ s. s.row ≡ None)) (nodes_of pages b).links
  pub keys : KeysDiffer (entry_on_live_leaf pages)

-- the pages are a B-link tree, and keyed if the format says that the index is unique
abbrev pub IsTreeFor : Format → List Page → Type 0
IsTreeFor format pages = IsTree pages × (format.unique ≡ true → AreKeyed pages)
