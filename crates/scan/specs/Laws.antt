-- What holds of scans beside their steps.
use Rattle.std.specs.Prelude.{◌≡◌, ℕ, ◌<◌, ◌≤◌, true, List, length}
use Rattle.index_model.specs.declared.range.Range.{Range}
use Rattle.latch_table.specs.Holdings.{has_pin, holding_of}
use Rattle.page_codec.specs.declared.page.Page.{Page}
use Rattle.page_action.specs.States.{State}
use Rattle.tree_acts.specs.Leaves.{WasLeaf}
use Rattle.tree_acts.specs.StepEffects.{IsInOrder, MayRely}
use Rattle.scan.specs.Scans.{ScanInvariant, fresh_scan}
use Rattle.scan.specs.Work.{scan_left}
use Rattle.scan.specs.declared.steps.ScanOp.{ScanOp}

-- each live leaf that the session has pinned stays one
abbrev pub PinnedLeavesLast : ℕ → State → State → Type 0
PinnedLeavesLast session old new =
    (block : ℕ) → has_pin (holding_of old.table session).pins block ≡ true
    → WasLeaf old.pages block → WasLeaf new.pages block

-- what a scan knows it still knows after others have acted
abbrev pub ScansAreUndisturbed : Type 0
ScansAreUndisturbed =
    (old new : State) (op : ScanOp) → MayRely op.session old new
    → PinnedLeavesLast op.session old new → ScanInvariant old op → ScanInvariant new op

-- what is left to do for a scan that hasn't begun, within the limits
abbrev pub FreshScansAreBounded : Type 0
FreshScansAreBounded =
    (most : ℕ) (pages : List Page) (session : ℕ) (range : Range)
    → most ≤ 65536 → length pages ≤ 65536
    → scan_left most pages (fresh_scan session range) < 281474976710656

-- ... and for one at each moment of its steps
abbrev pub ScansAreBounded : Type 0
ScansAreBounded =
    (st : State) (op : ScanOp) → IsInOrder st → st.format.pages ≤ 65536 → ScanInvariant st op
    → scan_left st.format.pages st.pages op < 4398046511104
