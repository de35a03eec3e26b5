-- What holds of cleanups beside their steps.
use Rattle.std.specs.Prelude.{◌≢◌, ℕ, ◌≤◌, ◌<◌, length}
use Rattle.page_codec.specs.declared.page.PageState.TheVariants.{HalfDead}
use Rattle.page_action.specs.States.{State}
use Rattle.tree_acts.specs.Deletions.{state_in}
use Rattle.tree_acts.specs.StepEffects.{IsInOrder, MayRely}
use Rattle.page_delete.specs.Cleanups.{CleanupInvariant}
use Rattle.page_delete.specs.Counts.{IsCleaned}
use Rattle.page_delete.specs.Ops.{fresh_cleanup}
use Rattle.page_delete.specs.Spares.{IsSparing}
use Rattle.page_delete.specs.Work.{cleanup_left}
use Rattle.page_delete.specs.declared.steps.CleanupOp.{CleanupOp}

-- what a cleanup knows it still knows after others have acted
abbrev pub CleanupsAreUndisturbed : Type 0
CleanupsAreUndisturbed =
    (old new : State) (op : CleanupOp) → MayRely op.session old new → CleanupInvariant old op
    → CleanupInvariant new op

-- what is left to do for a cleanup has a bound at each moment, within the limits
abbrev pub CleanupsAreBounded : Type 0
CleanupsAreBounded =
    (st : State) (op : CleanupOp) → IsInOrder st → CleanupInvariant st op → st.format.pages ≤ 65536
    → cleanup_left st.format.pages (length st.pages) op.cursor op.at < 4398046511104

-- before the first step nothing is counted, and there is nothing to clean
abbrev pub NothingIsCleaned : Type 0
NothingIsCleaned =
    (st : State) (session : ℕ) → IsInOrder st → IsCleaned st (fresh_cleanup session)

-- ... and if no page is half-dead, it has left no empty leaf but those that have to stay
abbrev pub NothingIsSpared : Type 0
NothingIsSpared =
    (st : State) (session : ℕ) → IsInOrder st → ((block : ℕ) → state_in st block ≢ HalfDead)
    → IsSparing st (fresh_cleanup session)
