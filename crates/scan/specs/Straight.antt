-- How many steps bring a scan its first entries, if no split is unfinished.
use Rattle.std.specs.Prelude.{◌≡◌, ℕ, suc, ◌+◌, Result, Ok, Err, List}
use Rattle.index_model.specs.declared.bound.Bound.{Bound}
use Rattle.index_model.specs.declared.fault.Fault.{Fault}
use Rattle.page_codec.specs.declared.page.Page.{Page}
use Rattle.page_action.specs.States.{State}
use Rattle.tree_shape.specs.Walks.{frontier_aim}
use Rattle.tree_acts.specs.Trees.{HasCover}
use Rattle.tree_acts.specs.Levels.{root_level}
use Rattle.scan.specs.declared.steps.ScanAt.{ScanAt}
use Rattle.scan.specs.declared.steps.ScanAt.TheVariants.{Start, At, Last}
use Rattle.scan.specs.declared.steps.ScanOp.{ScanOp}
use Rattle.scan.specs.declared.steps.ScanStep.{ScanStep}
use Rattle.scan.specs.declared.steps.ScanStep.TheVariants.{Going, Ready, Done}

-- the metapage, and a page of each level
abbrev pub scan_straight_steps : List Page → ScanAt → ℕ
scan_straight_steps pages Start = root_level pages + 2
scan_straight_steps pages (At position) = suc position.level
scan_straight_steps pages Last = 0

-- a scan that hasn't begun, or whose next page covers what lies after the frontier
abbrev pub ScanIsStraight : State → Bound → ScanAt → Type 0
ScanIsStraight st frontier Start = Unit {0}
ScanIsStraight st frontier (At position) = HasCover st position.level (frontier_aim frontier) position.block
ScanIsStraight st frontier Last = ⊥

-- the last of these steps makes entries ready, and each before it leaves one fewer
abbrev pub ScanCountsDown : State → ScanOp → ScanOp → Result ScanStep Fault → Type 0
ScanCountsDown st before after (Ok Going) = ScanIsStraight st after.frontier after.at
    × (suc (scan_straight_steps st.pages after.at) ≡ scan_straight_steps st.pages before.at)
ScanCountsDown st before after (Ok (Ready count)) = scan_straight_steps st.pages before.at ≡ 1
ScanCountsDown st before after (Ok Done) = ⊥
ScanCountsDown st before after (Err fault) = Unit {0}
