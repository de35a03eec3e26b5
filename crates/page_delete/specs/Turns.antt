-- Where each step of a cleanup leads it, by the pages as they are.
use Rattle.std.specs.Prelude.{◌≡◌, ◌≢◌, ◌⊎◌, ℕ, Option, Some, None, slice_get}
use Rattle.index_model.specs.Actions.{Effect, Shape}
use Rattle.index_model.specs.declared.bound.Bound.{Bound}
use Rattle.page_codec.specs.declared.page.Page.{Page}
use Rattle.page_codec.specs.declared.page.PageState.TheVariants.{HalfDead}
use Rattle.page_action.specs.States.{State}
use Rattle.descent.specs.NextPage.{position_from}
use Rattle.descent.specs.declared.position.Position.{Position}
use Rattle.page_delete.specs.Judging.{IsToDie}
use Rattle.page_delete.specs.Ops.{turned_to, moved_past, moved_past_deleted, TurnsAt}
use Rattle.page_delete.specs.declared.steps.CleanupAt.{CleanupAt}
use Rattle.page_delete.specs.declared.steps.CleanupAt.TheVariants.{Look, Start, Down, Judge, Unlink}
use Rattle.page_delete.specs.declared.steps.CleanupOp.{CleanupOp}

-- after the metapage: a root on level 0 has no parent, so the leaf is passed; else it goes to the root
abbrev pub MovesFromMetapage : Page → Bound → CleanupOp → CleanupOp → Type 0
MovesFromMetapage meta high before after =
    ((meta.level ≡ 0) × (after ≡ moved_past before 0))
    ⊎ ((meta.level ≢ 0) × ((root : ℕ) × (meta.right ≡ Some root)
    × (after ≡ turned_to before (Down high (position_from root meta.level)))))

-- on its way it goes on to another page, or this one may be the parent
abbrev pub MovesFromPage : Bound → Position → CleanupOp → CleanupOp → Type 0
MovesFromPage high position before after =
    ((on : Position) × (after ≡ turned_to before (Down high on)))
    ⊎ (after ≡ turned_to before (Judge high position.block))

-- the leaf is made half-dead if it is to be, and passed if not
abbrev pub JudgesLeaf : State → ℕ → CleanupOp → Option Effect → CleanupOp → Type 0
JudgesLeaf st parent before effect after =
    ((effect ≡ Some Shape) × (after ≡ turned_to before Unlink))
    ⊎ ((effect ≡ None) × (after ≡ moved_past before 0)
    × (IsToDie st before.session before.cursor parent → ⊥))

-- the page is unlinked if it is half-dead, and passed if not
abbrev pub UnlinksPage : State → CleanupOp → Option Effect → CleanupOp → Type 0
UnlinksPage st before effect after =
    ((effect ≡ Some Shape) × (after ≡ moved_past_deleted before))
    ⊎ ((effect ≡ None) × (after ≡ moved_past before 0)
    × ((page : Page) → slice_get st.pages before.cursor ≡ Some page → page.state ≢ HalfDead))

-- what a step does with the page at the cursor
abbrev pub TurnsFrom : CleanupAt → State → CleanupOp → Option Effect → CleanupOp → Type 0
TurnsFrom Look st before effect after = (effect ≡ None)
    × ((page : Page) → slice_get st.pages before.cursor ≡ Some page → TurnsAt page before after)
TurnsFrom (Start high) st before effect after = (effect ≡ None)
    × ((meta : Page) → slice_get st.pages 0 ≡ Some meta → MovesFromMetapage meta high before after)
TurnsFrom (Down high position) st before effect after = (effect ≡ None) × MovesFromPage high position before after
TurnsFrom (Judge high parent) st before effect after = JudgesLeaf st parent before effect after
TurnsFrom Unlink st before effect after = UnlinksPage st before effect after
