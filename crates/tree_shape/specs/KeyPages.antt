-- Pages of a unique index, by themselves.
use Rattle.std.specs.Prelude.{◌≢◌, ℕ, IfSome, List}
use Rattle.std.specs.List.{AllByRecursion}
use Rattle.index_model.specs.declared.entry.Entry.{Entry}
use Rattle.page_codec.specs.Grammar.{Ascends}
use Rattle.page_codec.specs.declared.page.Downlink.{Downlink}
use Rattle.page_codec.specs.declared.page.Page.{Page}
use Rattle.tree_shape.specs.KeyBounds.{IsKeyBound}
use Rattle.tree_shape.specs.Nodes.{Node, node_of}
use Rattle.tree_shape.specs.Separators.{IsKeyBefore}

-- the first entry's key is less than the second's
abbrev pub KeyBefore : Entry → Entry → Type 0
KeyBefore a b = IsKeyBefore a.key b.key

-- none of these entries has the key
abbrev pub IsKeyFree : List ℕ → List Entry → Type 0
IsKeyFree key es = AllByRecursion (λ x. x.key ≢ key) es

-- the downlink's bound, if it has one, is the place before all rows of a key
abbrev pub IsKeyLink : Downlink → Type 0
IsKeyLink d = IfSome d.bound IsKeyBound

-- each bound of what is seen of a page is the place before all rows of a key, and no two of its entries share
-- a key
pub record IsUniqueNode (node : Node) : Type 0 where
  pub high : IfSome node.high IsKeyBound
  pub bounds : AllByRecursion IsKeyLink node.links
  pub keys : Ascends KeyBefore node.entries

-- ... of the page
abbrev pub IsUniquePage : Page → Type 0
IsUniquePage page = IsUniqueNode (node_of page)

-- each of these pages is such a page
abbrev pub AreUnique : List Page → Type 0
AreUnique pages = AllByRecursion IsUniquePage pages
