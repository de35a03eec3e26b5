-- A bulk delete doesn't finish while another session's scan stands on a leaf that it hasn't read.
use Rattle.std.specs.Prelude.{◌≡◌, ◌≢◌, ℕ, ◌≤◌, Bool, true, Option, Some, None, List, [], ◌∷◌, ◌++◌}
use Rattle.index_model.specs.declared.entry.Entry.{Entry}
use Rattle.index_model.specs.declared.stats.VacuumStats.{VacuumStats}
use Rattle.page_action.specs.declared.page_store.PageStore.{Ghosts}
use Rattle.tree_acts.specs.Leaves.{WasLeaf}
use Rattle.scan.specs.declared.steps.ScanOp.{ScanOp}
use Rattle.session_calls.specs.declared.answer.Answer.{Answer}
use Rattle.session_calls.specs.declared.answer.Answer.TheVariants.{Begun, Finished}
use Rattle.session_calls.specs.declared.op.Op.{Op}
use Rattle.session_calls.specs.declared.op.Op.TheVariants.{Insert, Scan, Bulk, Cleanup}
use Rattle.schedule.specs.TheoremMoments.{Moment}
use Rattle.schedule.specs.TheoremRuns.{Fits}
use Rattle.session_calls.specs.Slots.{slot_of}
use Rattle.schedule.specs.MomentInvariants.{slot_is_bulk_delete}
use Rattle.schedule.specs.TheoremKinds.{Steps, Kind, MovesCall, kind_of}
use Rattle.schedule.specs.TheoremRuns.{IsRun}
use Rattle.schedule.specs.declared.event.Event.{Event}
use Rattle.schedule.specs.declared.event.Event.TheVariants.{Bulk as BulkEvent}

-- the session's scan stands on the leaf of this block, as its record says
pub record StandsOn {S : Type 0} (session block : ℕ) (now : Moment S) : Type 0 where
  pub op : ScanOp
  pub runs : slot_of now.slots session ≡ Some (Scan op)
  pub leaf : op.leaf ≡ Some block

-- the page of the block is a live leaf at this moment
abbrev pub HasLeaf : {S : Type 0} → Ghosts S → ℕ → Moment S → Type 0
HasLeaf g block now = WasLeaf (g.state now.store).pages block

-- this holds before each event of a run
abbrev pub BeforeEach : {S : Type 0} (g : Ghosts S) (start : Entry → Bool) (Holds : Moment S → Type 0) (told : List Answer) (events : List Event) (answers : List Answer) (first last : Moment S)
    → IsRun g start told events answers first last → Type 0
BeforeEach g start Holds told [] [] first last run = Unit {0}
BeforeEach g start Holds told (event ∷ events) (answer ∷ answers) first last run =
    Holds first × BeforeEach g start Holds (told ++ answer ∷ []) events answers run.1.0 last run.1.2
BeforeEach g start Holds told [] (answer ∷ answers) first last run = ⊥
BeforeEach g start Holds told (event ∷ events) [] first last run = ⊥

-- an event of this kind isn't a step with which a session's bulk delete finishes
abbrev pub DoesNotFinish : {S : Type 0} → Kind → Answer → Moment S → Type 0
DoesNotFinish (MovesCall session Steps) answer now = slot_is_bulk_delete (slot_of now.slots session) ≡ true → (stats : VacuumStats) → answer ≢ Finished stats
DoesNotFinish kind answer now = Unit {0}

-- no bulk delete finishes in a run
abbrev pub NoneFinishes : {S : Type 0} (g : Ghosts S) (start : Entry → Bool) (told : List Answer) (events : List Event) (answers : List Answer) (first last : Moment S)
    → IsRun g start told events answers first last → Type 0
NoneFinishes g start told [] [] first last run = Unit {0}
NoneFinishes g start told (event ∷ events) (answer ∷ answers) first last run =
    DoesNotFinish (kind_of event) answer first × NoneFinishes g start (told ++ answer ∷ []) events answers run.1.0 last run.1.2
NoneFinishes g start told [] (answer ∷ answers) first last run = ⊥
NoneFinishes g start told (event ∷ events) [] first last run = ⊥

-- a session's bulk delete, if it runs one, hasn't read the page of this block in block order
abbrev pub HasNotCome : ℕ → Option Op → Type 0
HasNotCome block None = Unit {0}
HasNotCome block (Some (Insert op)) = Unit {0}
HasNotCome block (Some (Scan op)) = Unit {0}
HasNotCome block (Some (Cleanup op)) = Unit {0}
HasNotCome block (Some (Bulk set op)) = op.cursor ≤ block

-- ... nor has any session's
abbrev pub NoneHasCome : {S : Type 0} → ℕ → Moment S → Type 0
NoneHasCome block now = (session : ℕ) → HasNotCome block (slot_of now.slots session)

-- the page that a scan stands on is a live leaf, at each moment that fits
abbrev pub ScansStandOnLeaves : {S : Type 0} → Ghosts S → Type 0
ScansStandOnLeaves {S} g =
    (start : Entry → Bool) (now : Moment S) (session block : ℕ) → Fits g start now → StandsOn session block now → HasLeaf g block now

-- In a run at whose beginning and before each event of which a scan stands on a leaf: if no bulk delete
-- has come to it at first, none has at last, none finishes, and it is a live leaf still.
abbrev pub BulkDeletesWait : {S : Type 0} → Ghosts S → Type 0
BulkDeletesWait {S} g =
    (start : Entry → Bool) (told : List Answer) (events : List Event) (answers : List Answer) (first last : Moment S) → Fits g start first
    → (run : IsRun g start told events answers first last) → (session block : ℕ) → BeforeEach g start (StandsOn session block) told events answers first last run
    → StandsOn session block first → NoneHasCome block first → NoneFinishes g start told events answers first last run × NoneHasCome block last × HasLeaf g block last

-- A bulk delete that begins while another session's scan stands on a leaf doesn't finish while it stands
-- there. Take a run that begins with this beginning, and before each event of which the scan stands on the
-- leaf. In it no bulk delete finishes; none has come to the leaf at last, and it is a live leaf still.
abbrev pub BegunBulkDeletesWait : {S : Type 0} → Ghosts S → Type 0
BegunBulkDeletesWait {S} g =
    (start : Entry → Bool) (told : List Answer) (vacuumer set : ℕ) (events : List Event) (answers : List Answer) (first last : Moment S) → Fits g start first
    → (run : IsRun g start told (BulkEvent vacuumer set ∷ events) (Begun ∷ answers) first last) → (session block : ℕ)
    → BeforeEach g start (StandsOn session block) told (BulkEvent vacuumer set ∷ events) (Begun ∷ answers) first last run
    → NoneFinishes g start told (BulkEvent vacuumer set ∷ events) (Begun ∷ answers) first last run × NoneHasCome block last × HasLeaf g block last
