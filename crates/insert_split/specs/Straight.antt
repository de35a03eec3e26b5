-- How many steps bring an insert to its end, if no split is unfinished and its leaf has room.
use Rattle.std.specs.Prelude.{◌≡◌, ℕ, suc, ◌+◌, ◌<◌, Some, None, Result, Ok, Err, List, length, slice_get}
use Rattle.index_model.specs.declared.entry.Entry.{Entry}
use Rattle.index_model.specs.declared.fault.Fault.{Fault}
use Rattle.page_codec.specs.Edits.{entries_of}
use Rattle.page_codec.specs.declared.page.Page.{Page}
use Rattle.page_action.specs.States.{State}
use Rattle.tree_shape.specs.Walks.{entry_aim}
use Rattle.tree_acts.specs.Trees.{HasCover}
use Rattle.tree_acts.specs.Levels.{root_level}
use Rattle.insert_split.specs.declared.insert.InsertAt.{InsertAt}
use Rattle.insert_split.specs.declared.insert.InsertAt.TheVariants.{Coming, Finishing}
use Rattle.insert_split.specs.declared.insert.Stage.TheVariants.{Start, At, Holding as Holds}
use Rattle.insert_split.specs.declared.insert.InsertOp.{InsertOp}
use Rattle.insert_split.specs.declared.insert.InsertStep.{InsertStep}
use Rattle.insert_split.specs.declared.insert.InsertStep.TheVariants.{Going, Added}

-- the metapage, a page of each level, and the act
abbrev pub straight_steps : List Page → InsertAt → ℕ
straight_steps pages (Coming Start) = root_level pages + 3
straight_steps pages (Coming (At position)) = position.level + 2
straight_steps pages (Coming (Holds block)) = 1
straight_steps pages (Finishing op) = 0

-- an insert that hasn't begun, whose next page covers the entry, or that holds its leaf
abbrev pub IsStraight : State → Entry → InsertAt → Type 0
IsStraight st e (Coming Start) = Unit {0}
IsStraight st e (Coming (At position)) = HasCover st position.level (entry_aim e) position.block
IsStraight st e (Coming (Holds block)) = Unit {0}
IsStraight st e (Finishing op) = ⊥

-- the leaf that covers the entry has room for one more
abbrev pub HasRoomFor : State → Entry → Type 0
HasRoomFor st e = (page : Page) → slice_get st.pages page.block ≡ Some page
    → HasCover st 0 (entry_aim e) page.block → length (entries_of page.items) < st.format.items

-- the last of these steps adds the entry, and each before it leaves one fewer
abbrev pub CountsDown : State → State → InsertOp → InsertOp → Result InsertStep Fault → Type 0
CountsDown old new before after (Ok Going) = IsStraight new after.entry after.at
    × (suc (straight_steps new.pages after.at) ≡ straight_steps old.pages before.at)
CountsDown old new before after (Ok (Added action unfinished)) =
    (straight_steps old.pages before.at ≡ 1) × (unfinished ≡ None)
CountsDown old new before after (Err fault) = Unit {0}
