-- How many more steps a call makes until it answers, while the pages stay as they are.
use Rattle.std.specs.Prelude.{◌≡◌, ℕ, suc, ◌+◌, ◌<◌, true, false, Option, Some, None, []}
use Rattle.index_model.specs.Row.{Row}
use Rattle.index_model.specs.declared.entry.Entry.{Entry}
use Rattle.index_model.specs.declared.fault.Fault.{Fault}
use Rattle.index_model.specs.declared.fault.Fault.TheVariants.{Io, Stopped, Blocked, LogFull, NoFrame}
use Rattle.page_action.specs.Causes.{with_row}
use Rattle.page_action.specs.Contents.{entry_on_live_leaf}
use Rattle.page_action.specs.States.{State}
use Rattle.tree_acts.specs.Levels.{root_level}
use Rattle.tree_acts.specs.Ways.{NoneIsIncomplete}
use Rattle.insert_split.specs.Straight.{straight_steps as insert_steps, IsStraight as IsOnEntryWay, HasRoomFor}
use Rattle.insert_split.specs.declared.insert.InsertOp.{InsertOp}
use Rattle.scan.specs.Scans.{waiting}
use Rattle.scan.specs.Straight.{scan_straight_steps as scan_steps, ScanIsStraight as IsOnFrontierWay}
use Rattle.scan.specs.declared.steps.ScanOp.{ScanOp}
use Rattle.session_calls.specs.declared.answer.Answer.{Answer}
use Rattle.session_calls.specs.declared.answer.Answer.TheVariants.{Going, Added, Ready, Refused}
use Rattle.session_calls.specs.declared.op.Op.{Op}
use Rattle.session_calls.specs.declared.op.Op.TheVariants.{Insert, Scan, Bulk, Cleanup}
use Rattle.session_calls.specs.declared.request.Request.{Request}
use Rattle.session_calls.specs.declared.request.Request.TheVariants.{Insert as ToInsert, Scan as ToScan, Bulk as ToBulk, Cleanup as ToCleanup}
use Rattle.session_calls.specs.Sessions.{work_in}

-- on a unique index: no entry of this one's key is there
abbrev pub IsKeyAbsent : State → Entry → Type 0
IsKeyAbsent st e =
    st.format.unique ≡ true → (r : Row) → entry_on_live_leaf st.pages (with_row e r) ≡ false

-- after `steps` steps the entry is added: no page has an incomplete split; neither the entry nor, on a unique
-- index, its key is there; its leaf has room; the insert is on its way
pub record InsertIsDue (st : State) (op : InsertOp) (steps : ℕ) : Type 0 where
  pub steps_are : steps ≡ insert_steps st.pages op.at
  pub whole : NoneIsIncomplete st.pages
  pub position : IsOnEntryWay st op.entry op.at
  pub absent : entry_on_live_leaf st.pages op.entry ≡ false
  pub key_absent : IsKeyAbsent st op.entry
  pub room : HasRoomFor st op.entry

-- after `steps` steps entries are ready: no page has an incomplete split, nothing waits, and the scan is on
-- its way
pub record ScanIsDue (st : State) (op : ScanOp) (steps : ℕ) : Type 0 where
  pub steps_are : steps ≡ scan_steps st.pages op.at
  pub whole : NoneIsIncomplete st.pages
  pub position : IsOnFrontierWay st op.frontier op.at
  pub none : waiting op ≡ []

-- the call answers after this number of steps more, while the pages stay as they are; of a bulk delete and of
-- a cleanup nothing is said
abbrev pub IsDueIn : State → Option Op → ℕ → Type 0
IsDueIn st None steps = ⊥
IsDueIn st (Some (Insert op)) steps = InsertIsDue st op steps
IsDueIn st (Some (Scan op)) steps = ScanIsDue st op steps
IsDueIn st (Some (Bulk set op)) steps = ⊥
IsDueIn st (Some (Cleanup op)) steps = ⊥

-- a step has left the pages and the format as they were, and the call is due after `steps` more
pub record StaysDue (old new : State) (slot : Option Op) (steps : ℕ) : Type 0 where
  pub pages : new.pages ≡ old.pages
  pub format : new.format ≡ old.format
  pub due : IsDueIn new slot steps

-- the answer is what the call was to come to: of an insert, its entry is added and nothing is left
-- unfinished; of a scan, entries are ready
abbrev pub IsAwaited : Option Op → Answer → Type 0
IsAwaited (Some (Insert op)) (Added action unfinished) = unfinished ≡ None
IsAwaited (Some (Scan op)) (Ready count) = Unit {0}
IsAwaited slot answer = ⊥

-- the refusals of calls whose leaves give no cause: a latch that another session holds, which costs no step;
-- and the device, the log, and the frames, which end the call
abbrev pub IsHindered : State → State → Option Op → ℕ → Fault → Type 0
IsHindered old new slot steps (Blocked block) = StaysDue old new slot steps
IsHindered old new slot steps Io = Unit {0}
IsHindered old new slot steps Stopped = Unit {0}
IsHindered old new slot steps LogFull = Unit {0}
IsHindered old new slot steps NoFrame = Unit {0}
IsHindered old new slot steps fault = ⊥

-- A step of a call that is due, with `left` steps left after it: the last brings what is awaited, and each
-- before it answers `Going` and leaves one fewer.
abbrev pub DueCountsDown : State → State → Option Op → Option Op → ℕ → Answer → Type 0
DueCountsDown old new before after left Going = (0 < left) × StaysDue old new after left
DueCountsDown old new before after left (Refused fault) = IsHindered old new after (suc left) fault
DueCountsDown old new before after left answer = (left ≡ 0) × IsAwaited before answer

-- the steps of a request on its own, more than the root's level
abbrev pub steps_for : Request → ℕ
steps_for (ToInsert e) = 3
steps_for (ToScan range) = 2
steps_for (ToBulk set) = 0
steps_for ToCleanup = 0

-- the leaf can serve the request at once: of an insert, neither the entry nor, on a unique index, its key is
-- there, and its leaf has room
abbrev pub IsServable : State → Request → Type 0
IsServable st (ToInsert e) = (entry_on_live_leaf st.pages e ≡ false) × IsKeyAbsent st e × HasRoomFor st e
IsServable st (ToScan range) = Unit {0}
IsServable st (ToBulk set) = ⊥
IsServable st ToCleanup = ⊥

-- A call has begun: if no page has an incomplete split and its leaf can serve it, it is due after a few steps
-- more than the root's level (`steps_for`). What is left to do for it has a bound, whatever the pages are.
pub record HasSteps (old new : State) (request : Request) (slot : Option Op) : Type 0 where
  pub due : NoneIsIncomplete old.pages → IsServable old request → IsDueIn new slot (root_level old.pages + steps_for request)
  pub bounded : work_in new slot < 281474976710656
