-- What a unique index tells: the leaf that covers an entry decides of its key, and no two entries share a
-- key.
use Rattle.std.specs.Prelude.{◌≡◌, ◌↔◌, true, false, Some, List, slice_get}
use Rattle.index_model.specs.Actions.{KeysDiffer}
use Rattle.index_model.specs.Order.{is_among}
use Rattle.index_model.specs.declared.entry.Entry.{Entry}
use Rattle.index_model.specs.declared.format.Format.{Format}
use Rattle.page_codec.specs.Edits.{entries_of}
use Rattle.page_codec.specs.declared.page.Page.{Page}
use Rattle.page_action.specs.Contents.{entry_on_live_leaf}
use Rattle.page_action.specs.States.{State}
use Rattle.page_action.specs.Stored.{AreStored}
use Rattle.tree_shape.specs.KeyPages.{IsKeyFree, AreUnique}
use Rattle.tree_shape.specs.Walks.{entry_aim}
use Rattle.tree_acts.specs.TheoremKeys.{AreKeyed}
use Rattle.tree_acts.specs.TheoremTree.{IsTree}
use Rattle.tree_acts.specs.Trees.{HasTree, HasCover}

-- each entry of a key is there exactly if it is on the leaf that covers one of them
abbrev pub KeyShows : Type 0
KeyShows =
    (st : State) (e x : Entry) (page : Page)
    → HasTree st → st.format.unique ≡ true → slice_get st.pages page.block ≡ Some page
    → HasCover st 0 (entry_aim e) page.block → x.key ≡ e.key
    → entry_on_live_leaf st.pages x ≡ is_among (entries_of page.items) x

-- ... so a key that is free on that leaf has no entry anywhere
abbrev pub FreeKeyShows : Type 0
FreeKeyShows =
    (st : State) (e x : Entry) (page : Page)
    → HasTree st → st.format.unique ≡ true → slice_get st.pages page.block ≡ Some page
    → HasCover st 0 (entry_aim e) page.block → IsKeyFree e.key (entries_of page.items)
    → x.key ≡ e.key → entry_on_live_leaf st.pages x ≡ false

-- if the pages of a tree are those of a unique index, no two of its entries share a key
abbrev pub UniqueShows : Type 0
UniqueShows =
    (format : Format) (pages : List Page) → IsTree pages → AreStored format 0 pages
    → AreUnique pages → KeysDiffer (entry_on_live_leaf pages)

-- ... so that pages of a unique index by themselves are keyed, and if pages are keyed each of them is one
-- of a unique index
abbrev pub KeyedShows : Type 0
KeyedShows =
    (format : Format) (pages : List Page) → IsTree pages → AreStored format 0 pages
    → (AreUnique pages ↔ AreKeyed pages)
