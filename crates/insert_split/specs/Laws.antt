-- What holds of inserts beside their steps.
use Rattle.std.specs.Prelude.{ℕ, ◌<◌, ◌≤◌, List}
use Rattle.page_codec.specs.declared.page.Page.{Page}
use Rattle.page_action.specs.States.{State}
use Rattle.tree_acts.specs.StepEffects.{IsInOrder, MayRely}
use Rattle.insert_split.specs.Inserts.{InsertInvariant, insert_left}
use Rattle.insert_split.specs.declared.insert.InsertAt.TheVariants.{Coming}
use Rattle.insert_split.specs.declared.insert.Stage.TheVariants.{Start}
use Rattle.insert_split.specs.declared.insert.InsertOp.{InsertOp}

-- what an insert knows it still knows after others have acted
abbrev pub InsertsAreUndisturbed : Type 0
InsertsAreUndisturbed =
    (old new : State) (op : InsertOp) → MayRely op.session old new → InsertInvariant old op
    → InsertInvariant new op

-- what is left to do for an insert that hasn't begun, within the limits
abbrev pub FreshInsertsAreBounded : Type 0
FreshInsertsAreBounded =
    (most : ℕ) (pages : List Page) → most ≤ 65536
    → insert_left most pages (Coming Start) < 281474976710656

-- ... and for one at each moment of its steps
abbrev pub InsertsAreBounded : Type 0
InsertsAreBounded =
    (st : State) (op : InsertOp) → IsInOrder st → st.format.pages ≤ 65536 → InsertInvariant st op
    → insert_left st.format.pages st.pages op.at < 4398046511104
