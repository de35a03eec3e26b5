-- What a scan knows between its steps, and what a step of it does.
use Rattle.std.specs.Prelude.{◌≡◌, ◌≢◌, ◌⊎◌, ℕ, suc, ◌+◌, ◌<◌, ◌≤◌, if◌then◌else◌, nat_lt, true, false, Option, Some, None, Result, Ok, Err, OnErr, List, [], ◌∷◌, length, slice_get}
use Rattle.std.specs.Ordering.{is_lt}
use Rattle.index_model.specs.Faults.{Circumstances, HasCause}
use Rattle.index_model.specs.Order.{bound_cmp, is_among, is_past, AscendsPast}
use Rattle.index_model.specs.Range.{matches, start_of, from_admits, below_admits}
use Rattle.index_model.specs.declared.bound.Bound.{Bound}
use Rattle.index_model.specs.declared.entry.Entry.{Entry}
use Rattle.index_model.specs.declared.fault.Fault.{Fault}
use Rattle.index_model.specs.declared.fault.Fault.TheVariants.{Stopped}
use Rattle.index_model.specs.declared.range.Range.{Range}
use Rattle.latch_table.specs.Holdings.{Holding, Table, holding_of, unpinned, is_held_by_another}
use Rattle.latch_table.specs.declared.mode.Mode.TheVariants.{Shared}
use Rattle.page_action.specs.Causes.{nothing_wrong, has_failed, pinned_blocks, count_apart}
use Rattle.page_action.specs.Contents.{entry_on_live_leaf}
use Rattle.page_action.specs.States.{State, Backing, Continues, with_table}
use Rattle.page_action.specs.declared.page_store.PageStore.{Ghosts}
use Rattle.page_codec.specs.Edits.{entries_of}
use Rattle.page_codec.specs.declared.page.Page.{Page}
use Rattle.tree_shape.specs.Walks.{frontier_aim}
use Rattle.tree_acts.specs.Leaves.{IsLeafAt, WasLeaf}
use Rattle.tree_acts.specs.Ways.{NoneIsIncomplete}
use Rattle.descent.specs.NextPage.{IsOnDescent}
use Rattle.tree_acts.specs.StepEffects.{IsInOrder, StepEffect, IsOneActAtMost}
use Rattle.descent.specs.declared.position.Position.{Position}
pub use Rattle.scan.specs.Ready.{waiting}
use Rattle.scan.specs.Straight.{ScanIsStraight, ScanCountsDown}
use Rattle.scan.specs.Work.{scan_left}
use Rattle.scan.specs.declared.steps.ScanAt.{ScanAt}
use Rattle.scan.specs.declared.steps.ScanAt.TheVariants.{Start, At, Last}
use Rattle.scan.specs.declared.steps.ScanOp.{ScanOp}
use Rattle.scan.specs.declared.steps.ScanStep.{ScanStep}
use Rattle.scan.specs.declared.steps.ScanStep.TheVariants.{Going, Ready, Done}

-- a scan before its first step
abbrev pub fresh_scan : ℕ → Range → ScanOp
fresh_scan session range = record {
  session = session;
  range = range;
  at = Start;
  frontier = start_of range;
  copied = record { items = [] };
  given = 0;
  leaf = None;
}

-- takes the first that is ready
abbrev pub IsNext : ScanOp → Option Entry → ScanOp → Type 0
IsNext before None after = (waiting before ≡ []) × (after ≡ before)
IsNext before (Some e) after = (waiting before ≡ e ∷ waiting after)
    × (after ≡ record before { given = suc before.given })

-- the greater of the frontier and the high key, if there is one
abbrev pub frontier_past : Bound → Option Bound → Bound
frontier_past frontier None = frontier
frontier_past frontier (Some high) =
    if is_lt (bound_cmp frontier high) then high else frontier

-- after a leaf with this high key and right link, the scan goes right by one move, unless the high
-- key's key isn't in the range
abbrev pub after_leaf : Option Bound → Option ℕ → Option (List ℕ) → ScanAt
after_leaf None right below = Last
after_leaf (Some high) None below = Last
after_leaf (Some high) (Some right) below = if below_admits below high.key
    then At (record { block = right; level = 0; moves = 1 }) else Last

-- a scan that goes on to another page stands on no leaf
abbrev pub moved_to : ScanOp → Position → ScanOp
moved_to op position = record op { at = At position; leaf = None }

-- a scan that has read a leaf, and has copied these entries
abbrev pub after_reading : ScanOp → Option Bound → Option ℕ → List Entry → ScanOp
after_reading op high right copied = record op {
  at = after_leaf high right op.range.below;
  frontier = frontier_past op.frontier high;
  copied = record { items = copied };
  given = 0;
}

-- the session has let go the leaf, if it stood on one
abbrev pub without_leaf : Table → ℕ → Option ℕ → Table
without_leaf table session None = table
without_leaf table session (Some block) = unpinned table session block

-- the scan has read beyond the entry
abbrev pub IsAfter : Bound → ScanAt → Entry → Type 0
IsAfter frontier Start e = is_past frontier e ≡ false
IsAfter frontier (At position) e = is_past frontier e ≡ false
IsAfter frontier Last e = Unit {0}

abbrev pub pins_of : Option ℕ → List ℕ
pins_of None = []
pins_of (Some leaf) = leaf ∷ []

-- no latch, and the pin of the leaf that the scan stands on
abbrev pub leaf_pinned : Option ℕ → Holding
leaf_pinned leaf = record { latches = []; pins = pins_of leaf }

-- the page that the scan stands on is a live leaf
abbrev pub LeafIsLive : List Page → Option ℕ → Type 0
LeafIsLive pages None = Unit {0}
LeafIsLive pages (Some block) = WasLeaf pages block

-- it stands on no leaf before its first step, and is on its way to what lies after the frontier
abbrev pub ScanStands : State → ℕ → Option ℕ → Bound → ScanAt → Type 0
ScanStands st start leaf frontier Start = leaf ≡ None
ScanStands st start leaf frontier (At position) = IsOnDescent st start (frontier_aim frontier) false 0 position
ScanStands st start leaf frontier Last = Unit {0}

-- what a scan knows between its steps
pub record ScanInvariant (st : State) (op : ScanOp) : Type 0 where
  pub session : op.session < 64
  -- its call runs, with a start number
  pub start : ℕ
  pub running : slice_get st.running op.session ≡ Some (Some start)
  pub held : holding_of st.table op.session ≡ leaf_pinned op.leaf
  pub live : LeafIsLive st.pages op.leaf
  pub stands : ScanStands st start op.leaf op.frontier op.at
  -- what lies beyond the frontier isn't before the range
  pub started : (e : Entry) → is_past op.frontier e ≡ true → from_admits op.range.from e.key ≡ true
  -- no more entries are copied than a leaf has
  pub few : length op.copied.items ≤ 50

-- a step that reads a page leaves less to do, whatever the pages are; with nothing ready, each step
-- that isn't the last
abbrev pub ScanHasLessLeft : State → ScanOp → ScanOp → Result ScanStep Fault → Type 0
ScanHasLessLeft st before after (Ok Going) =
    scan_left st.format.pages st.pages after < scan_left st.format.pages st.pages before
ScanHasLessLeft st before after (Ok (Ready count)) = waiting before ≡ []
    → scan_left st.format.pages st.pages after < scan_left st.format.pages st.pages before
ScanHasLessLeft st before after (Ok Done) = Unit {0}
ScanHasLessLeft st before after (Err fault) = Unit {0}

-- what a leaf gave: the matches beyond the frontier as it was, of what the pages hold now; each
-- match that the scan has read beyond now, it had read beyond before, or it is among them
pub record LeafIsRead (st : State) (before after : ScanOp) : Type 0 where
  pub ascends : AscendsPast (Some before.frontier) (waiting after)
  pub matched : (e : Entry) → is_among (waiting after) e ≡ true → matches before.range e ≡ true
  pub there : (e : Entry) → is_among (waiting after) e ≡ true
      → entry_on_live_leaf st.pages e ≡ true
  pub complete : (e : Entry) → IsAfter after.frontier after.at e → matches before.range e ≡ true
      → entry_on_live_leaf st.pages e ≡ true
      → IsAfter before.frontier before.at e ⊎ (is_among (waiting after) e ≡ true)
  pub next_page : (e : Entry) → is_among (waiting after) e ≡ true → IsAfter after.frontier after.at e
  -- what it had read beyond, it has read beyond still: the frontier never goes back
  pub forward : (e : Entry) → IsAfter before.frontier before.at e
      → IsAfter after.frontier after.at e

-- why a step of a scan is refused, on pages that are a tree and a device that keeps its model
abbrev pub causes_of_scanning : State → Backing → Backing → ℕ → Circumstances
causes_of_scanning st old new session = record nothing_wrong {
  device_failed = has_failed old new;
  is_stopped = old.stopped;
  is_held_by_another = λ b. is_held_by_another st.table session b Shared;
  frames_are_pinned = nat_lt st.frames (1 + count_apart (pinned_blocks st.table));
}

-- the scan is before its first step, or on a way
abbrev pub IsUnderway : ScanAt → Type 0
IsUnderway Start = Unit {0}
IsUnderway (At position) = Unit {0}
IsUnderway Last = ⊥

-- a page is read that isn't the leaf after the frontier
pub record IsMoving (old new : State) (before after : ScanOp) : Type 0 where
  pub does : StepEffect before.session None old new
  pub fits : ScanInvariant new after
  pub none : waiting before ≡ []
  pub from : IsUnderway before.at
  pub position : Position
  pub op : after ≡ moved_to before position

-- the leaf after the frontier is read: the scan stands on it, and what is ready is of its entries
pub record IsReading (old new : State) (before after : ScanOp) (count : ℕ) : Type 0 where
  pub does : StepEffect before.session None old new
  pub fits : ScanInvariant new after
  pub none : waiting before ≡ []
  pub position : Position
  pub from : before.at ≡ At position
  pub leaf : after.leaf ≡ Some position.block
  pub page : Page
  pub live : IsLeafAt old.pages position.block page
  pub of_leaf : (e : Entry) → is_among (waiting after) e ≡ true
      → is_among (entries_of page.items) e ≡ true
  pub read : LeafIsRead old before after
  pub count_is : count ≡ length (waiting after)

-- entries are ready
pub record IsWaiting (old new : State) (before after : ScanOp) (count : ℕ) : Type 0 where
  pub state : new ≡ old
  pub op : after ≡ before
  pub some : 0 < count
  pub count_is : count ≡ length (waiting before)

-- all is given
pub record IsDone (old new : State) (before after : ScanOp) : Type 0 where
  pub state : new ≡ old
  pub op : after ≡ before
  pub none : waiting before ≡ []
  pub last : before.at ≡ Last

-- what a step of a scan does, by what it answers
abbrev pub ScanStepped : State → Backing → State → Backing → ScanOp → ScanOp
    → Result ScanStep Fault → Type 0
ScanStepped old old_backing new new_backing before after (Ok Going) = IsMoving old new before after
ScanStepped old old_backing new new_backing before after (Ok (Ready count)) =
    IsWaiting old new before after count ⊎ IsReading old new before after count
ScanStepped old old_backing new new_backing before after (Ok Done) = IsDone old new before after
ScanStepped old old_backing new new_backing before after (Err fault) =
    HasCause (causes_of_scanning old old_backing new_backing before.session) fault

-- a refused step changes neither the pages, nor who holds what, nor the call
pub record ScanStays (old new : State) (before after : ScanOp) : Type 0 where
  pub state : new ≡ old
  pub op : after ≡ before

-- a step while entries are ready tells how many, and changes nothing
pub record ScanWaits (old new : State) (before after : ScanOp) (result : Result ScanStep Fault)
    : Type 0 where
  pub told : result ≡ Ok (Ready (length (waiting before)))
  pub state : new ≡ old
  pub op : after ≡ before

-- as many entries are ready as are told
abbrev pub ReadyIsCounted : ScanOp → Result ScanStep Fault → Type 0
ReadyIsCounted after (Ok Going) = Unit {0}
ReadyIsCounted after (Ok (Ready count)) = count ≡ length (waiting after)
ReadyIsCounted after (Ok Done) = Unit {0}
ReadyIsCounted after (Err fault) = Unit {0}

-- A step of a scan. On any pages: it changes nothing but latches and pins; a refused one changes nothing; a
-- stopped log refuses it; as many entries are ready as it says, and while there are any it changes nothing.
-- Over a device that keeps its model, one that reads a page leaves less to do. On pages in order: what it
-- does, and why it is refused; if no page has an incomplete split, it goes straight down.
pub record ScanSteps {S : Type 0} (g : Ghosts S) (before after : ScanOp) (old new : S)
    (result : Result ScanStep Fault) : Type 0 where
  pub steps : Continues g.follows old new
  pub session : after.session ≡ before.session
  pub range : after.range ≡ before.range
  pub quiet : g.state new ≡ with_table (g.state old) (g.state new).table
  pub kept : IsOneActAtMost (g.state old) (g.state new)
  pub refused : OnErr result (ScanStays (g.state old) (g.state new) before after)
  pub stopped : (g.backing old).stopped ≡ true → result ≡ Err Stopped
  pub ready : ReadyIsCounted after result
  pub waits : (g.backing old).stopped ≡ false → waiting before ≢ []
      → ScanWaits (g.state old) (g.state new) before after result
  pub less : (g.backing new).honest ≡ true → ScanHasLessLeft (g.state old) before after result
  pub no_more : (g.backing new).honest ≡ true
      → scan_left (g.state old).format.pages (g.state old).pages after
      ≤ scan_left (g.state old).format.pages (g.state old).pages before
  pub stepped : (g.backing new).honest ≡ true → IsInOrder (g.state old)
      → ScanInvariant (g.state old) before
      → ScanStepped (g.state old) (g.backing old) (g.state new) (g.backing new) before after result
  pub straight : (g.backing new).honest ≡ true → IsInOrder (g.state old)
      → NoneIsIncomplete (g.state old).pages → waiting before ≡ []
      → ScanIsStraight (g.state old) before.frontier before.at
      → ScanCountsDown (g.state old) before after result
