-- The words of a running call that each operation fills in: what it was asked, what it knows between its
-- steps, what it may answer, and what is left to do for it.
use Rattle.std.specs.Prelude.{◌≡◌, ℕ, ◌<◌, nat_lt, ◌||◌, Bool, true, false, Option, Some, None, unwrap_or, List, [], ◌++◌, length, slice_get}
use Rattle.index_model.specs.Actions.{Action, ThereAtSomeMoment}
use Rattle.index_model.specs.Calls.{Ask, AskInsert, AskScan, AskBulkDelete, AskCleanup, GivesAll}
use Rattle.index_model.specs.Faults.{Circumstances, HasCause}
use Rattle.index_model.specs.Order.{is_among, IsAscending, IsPast, last_or}
use Rattle.index_model.specs.Range.{matches}
use Rattle.index_model.specs.Row.{Row}
use Rattle.index_model.specs.declared.entry.Entry.{Entry}
use Rattle.index_model.specs.declared.fault.Fault.{Fault}
use Rattle.index_model.specs.declared.fault.Fault.TheVariants.{Stopped, Blocked, NoSession}
use Rattle.page_action.specs.Causes.{nothing_wrong, is_at_end}
use Rattle.page_action.specs.States.{State, Backing}
use Rattle.page_codec.specs.declared.page.Page.{Page}
use Rattle.tree_acts.specs.StepEffects.{causes_of_reading_any, causes_of_writing_any}
use Rattle.split_finish.specs.declared.finish.Target.{Target}
use Rattle.insert_split.specs.Inserts.{InsertInvariant, targets_at, insert_left, causes_of_inserting, causes_of_inserting_any}
use Rattle.insert_split.specs.Turns.{is_blocked}
use Rattle.insert_split.specs.declared.insert.InsertAt.TheVariants.{Coming}
use Rattle.insert_split.specs.declared.insert.Stage.TheVariants.{Start}
use Rattle.scan.specs.Scans.{ScanInvariant, IsAfter, waiting, fresh_scan, causes_of_scanning}
use Rattle.scan.specs.Work.{scan_left}
use Rattle.scan.specs.declared.steps.ScanOp.{ScanOp}
use Rattle.vacuum.specs.BulkDeletes.{BulkDeleteInvariant, causes_of_deleting}
use Rattle.vacuum.specs.Ops.{fresh_bulk_delete}
use Rattle.vacuum.specs.Work.{bulk_delete_left}
use Rattle.page_delete.specs.Cleanups.{CleanupInvariant, causes_of_cleaning}
use Rattle.page_delete.specs.Ops.{fresh_cleanup}
use Rattle.page_delete.specs.Work.{cleanup_left}
use Rattle.session_calls.specs.TheoremCalls.{DeadSets}
use Rattle.session_calls.specs.declared.answer.Answer.{Answer}
use Rattle.session_calls.specs.declared.answer.Answer.TheVariants.{Begun, Going, Added, Ready, Done, Finished, Gave, Ended, Forced, Flushed, Checkpointed, Refused}
use Rattle.session_calls.specs.declared.op.Op.{Op}
use Rattle.session_calls.specs.declared.op.Op.TheVariants.{Insert, Scan, Bulk, Cleanup}
use Rattle.session_calls.specs.declared.request.Request.{Request}
use Rattle.session_calls.specs.declared.request.Request.TheVariants.{Insert as ToInsert, Scan as ToScan, Bulk as ToBulk, Cleanup as ToCleanup}

-- the set at a place; beyond the last one there is no row in it
abbrev pub set_at : DeadSets → ℕ → Row → Bool
set_at sets place = unwrap_or (slice_get sets place) (λ row. false)

-- the set that a request names is there
abbrev pub IsOfSets : DeadSets → Request → Type 0
IsOfSets sets (ToInsert e) = Unit {0}
IsOfSets sets (ToScan range) = Unit {0}
IsOfSets sets (ToBulk set) = set < length sets
IsOfSets sets ToCleanup = Unit {0}

-- a request of a bulk delete or a cleanup: one runs at a time
abbrev pub asks_vacuum : Request → Bool
asks_vacuum (ToInsert e) = false
asks_vacuum (ToScan range) = false
asks_vacuum (ToBulk set) = true
asks_vacuum ToCleanup = true

-- a request of a bulk delete, which has a cycle number
abbrev pub asks_bulk_delete : Request → Bool
asks_bulk_delete (ToInsert e) = false
asks_bulk_delete (ToScan range) = false
asks_bulk_delete (ToBulk set) = true
asks_bulk_delete ToCleanup = false

-- the operation of a session's request, before its first step
abbrev pub op_before : ℕ → Request → Op
op_before session (ToInsert e) = Insert (record { session = session; entry = e; at = Coming Start; added = None })
op_before session (ToScan range) = Scan (fresh_scan session range)
op_before session (ToBulk set) = Bulk set (fresh_bulk_delete session)
op_before session ToCleanup = Cleanup (fresh_cleanup session)

-- the session whose call it is
abbrev pub session_of : Op → ℕ
session_of (Insert op) = op.session
session_of (Scan op) = op.session
session_of (Bulk set op) = op.session
session_of (Cleanup op) = op.session

-- it is a bulk delete or a cleanup: one runs at a time
abbrev pub is_vacuum : Op → Bool
is_vacuum (Insert op) = false
is_vacuum (Scan op) = false
is_vacuum (Bulk set op) = true
is_vacuum (Cleanup op) = true

-- it is a bulk delete, which has a cycle number
abbrev pub is_bulk_delete : Op → Bool
is_bulk_delete (Insert op) = false
is_bulk_delete (Scan op) = false
is_bulk_delete (Bulk set op) = true
is_bulk_delete (Cleanup op) = false

-- the kinds of calls, a bulk delete's with the place of its set
pub data CallKind : Type 0 where
  InsertKind : CallKind
  ScanKind : CallKind
  BulkKind : (set : ℕ) → CallKind
  CleanupKind : CallKind

abbrev pub call_kind : Op → CallKind
call_kind (Insert op) = InsertKind
call_kind (Scan op) = ScanKind
call_kind (Bulk set op) = BulkKind set
call_kind (Cleanup op) = CleanupKind

-- after an event of its call a session runs nothing, or a call of the same kind
abbrev pub RunsOn : Option Op → Option Op → Type 0
RunsOn before None = Unit {0}
RunsOn None (Some op) = ⊥
RunsOn (Some before) (Some op) = call_kind op ≡ call_kind before

-- what it was asked, with these sets
abbrev pub asked_of : DeadSets → Op → Ask
asked_of sets (Insert op) = AskInsert op.entry
asked_of sets (Scan op) = AskScan op.range
asked_of sets (Bulk set op) = AskBulkDelete (set_at sets set)
asked_of sets (Cleanup op) = AskCleanup

-- the number of its Add, if it has one
abbrev pub add_of : Op → Option ℕ
add_of (Insert op) = op.added
add_of (Scan op) = None
add_of (Bulk set op) = None
add_of (Cleanup op) = None

-- the entries that it has ready to be given
abbrev pub ready_of : Op → List Entry
ready_of (Insert op) = []
ready_of (Scan op) = waiting op
ready_of (Bulk set op) = []
ready_of (Cleanup op) = []

-- what it knows of the pages between its steps
abbrev pub OpInvariant : State → Op → Type 0
OpInvariant st (Insert op) = InsertInvariant st op
OpInvariant st (Scan op) = ScanInvariant st op
OpInvariant st (Bulk set op) = BulkDeleteInvariant st op
OpInvariant st (Cleanup op) = CleanupInvariant st op

-- what a scan has given and holds ready, against the moments of its interval so far
pub record IsScanSoFar (start : Entry → Bool) (history : List Action) (began : ℕ) (given : List Entry) (op : ScanOp) : Type 0 where
  pub ascending : IsAscending (given ++ waiting op)
  pub matched : (e : Entry) → is_among (given ++ waiting op) e ≡ true → matches op.range e ≡ true
  pub was_there : (e : Entry) → is_among (given ++ waiting op) e ≡ true → ThereAtSomeMoment start history began (length history) e
  pub complete : GivesAll start history op.range began (length history) (given ++ waiting op) (IsAfter op.frontier op.at)
  pub reached : (e : Entry) → is_among (given ++ waiting op) e ≡ true → IsAfter op.frontier op.at e
  pub next_page : (e : Entry) → (IsAfter op.frontier op.at e → ⊥) → IsPast (last_or None (given ++ waiting op)) e

-- what it knows of the moments since it began
abbrev pub OpKnows : (Entry → Bool) → List Action → ℕ → List Entry → Op → Type 0
OpKnows start history began given (Insert op) = Unit {0}
OpKnows start history began given (Scan op) = IsScanSoFar start history began given op
OpKnows start history began given (Bulk set op) = Unit {0}
OpKnows start history began given (Cleanup op) = Unit {0}

-- the circumstances of a step with these sets, by where the operation stands
abbrev pub causes_of_stepped : DeadSets → Op → State → Backing → Backing → Circumstances
causes_of_stepped sets (Insert op) st old new = causes_of_inserting st old new op.session op.entry op.at
causes_of_stepped sets (Scan op) st old new = causes_of_scanning st old new op.session
causes_of_stepped sets (Bulk set op) st old new = causes_of_deleting (set_at sets set) st old new op
causes_of_stepped sets (Cleanup op) st old new = causes_of_cleaning st old new op

-- ... of what a session runs, if anything
abbrev pub causes_of_slot_stepped : DeadSets → Option Op → State → Backing → Backing → Circumstances
causes_of_slot_stepped sets None st old new = nothing_wrong
causes_of_slot_stepped sets (Some op) st old new = causes_of_stepped sets op st old new

-- the circumstances of a `next`: only a scan has entries to give
abbrev pub causes_of_asked_next : Ask → Circumstances
causes_of_asked_next (AskScan range) = nothing_wrong
causes_of_asked_next (AskInsert e) = record nothing_wrong { no_such_session = true }
causes_of_asked_next (AskBulkDelete dead) = record nothing_wrong { no_such_session = true }
causes_of_asked_next AskCleanup = record nothing_wrong { no_such_session = true }

-- no call begins: the log failed before, or the count of calls begun is at its end
abbrev pub no_call_begins : State → Backing → Bool
no_call_begins st old = old.stopped || is_at_end st.begun

-- the circumstances of a beginning
abbrev pub causes_of_beginning : State → Backing → Bool → Circumstances
causes_of_beginning st old busy = record nothing_wrong { is_stopped = no_call_begins st old; session_has_a_call = busy }

-- a bulk delete runs: the store has its cycle number
abbrev pub runs_bulk_delete : State → Bool
runs_bulk_delete st = nat_lt 0 st.cycle

-- ... of a call, which may be excluded by a bulk delete or a cleanup that runs
abbrev pub causes_of_requesting : Bool → State → Backing → Bool → Circumstances
causes_of_requesting excluded st old busy = record (causes_of_beginning st old busy) { vacuum_runs = excluded }

-- the fault, if there is one, has its cause
abbrev pub IsFaultCaused : Circumstances → Option Fault → Type 0
IsFaultCaused at None = Unit {0}
IsFaultCaused at (Some fault) = HasCause at fault

-- the circumstances of an insert whose entry is logged: none of them is that the entry or its key was there,
-- or that another session holds a page
abbrev pub once_added : Circumstances → Circumstances
once_added at = record at {
  is_held_by_another = λ b. false;
  entry_was_there = false;
  key_was_there = λ r. false;
}

-- a refusal has its cause, and so has the fault of a split that an insert leaves unfinished
abbrev pub IsCaused : Circumstances → Answer → Type 0
IsCaused at (Refused fault) = HasCause at fault
IsCaused at (Added action unfinished) = IsFaultCaused (once_added at) unfinished
IsCaused at answer = Unit {0}

-- what may be so if a step of this call is refused, on a unique index or another, whatever the pages are;
-- the set that a bulk delete names may not be there
abbrev pub causes_of_stepped_any : Bool → Op → Circumstances
causes_of_stepped_any unique (Insert op) = causes_of_inserting_any unique op.entry
causes_of_stepped_any unique (Scan op) = causes_of_reading_any
causes_of_stepped_any unique (Bulk set op) = record causes_of_writing_any { no_such_session = true }
causes_of_stepped_any unique (Cleanup op) = causes_of_writing_any

-- ... of what a session runs, if anything
abbrev pub causes_of_slot_stepped_any : Bool → Option Op → Circumstances
causes_of_slot_stepped_any unique None = record nothing_wrong { is_stopped = true; no_such_session = true }
causes_of_slot_stepped_any unique (Some op) = causes_of_stepped_any unique op

-- whether a fault ends the call: one that is blocked goes on, and so does one that the event doesn't fit
abbrev pub ends_call : Fault → Bool
ends_call (Blocked b) = false
ends_call NoSession = false
ends_call fault = true

-- whether the answer to a step ends the call
abbrev pub is_last : Answer → Bool
is_last Begun = false
is_last Going = false
is_last (Added action unfinished) = true
is_last (Ready count) = false
is_last Done = true
is_last (Finished stats) = true
is_last (Gave entry) = false
is_last Ended = true
is_last (Forced count) = false
is_last (Flushed block) = false
is_last (Checkpointed count) = false
is_last (Refused fault) = ends_call fault

-- on a stopped log a step is refused with `Stopped`; an insert whose entry is logged ends as added, with that
-- fault
abbrev pub StoppedAnswersFirst : Option ℕ → Answer → Type 0
StoppedAnswersFirst None answer = answer ≡ Refused Stopped
StoppedAnswersFirst (Some action) answer = answer ≡ Added action (Some Stopped)

-- once the entry of an insert is logged only a page that is blocked refuses a step, and it ends with the
-- number of that action
abbrev pub AnswersLogged : Option ℕ → Answer → Type 0
AnswersLogged None answer = Unit {0}
AnswersLogged (Some action) (Added number unfinished) = number ≡ action
AnswersLogged (Some action) (Refused fault) = is_blocked fault ≡ true
AnswersLogged (Some action) answer = Unit {0}

-- what is left to do for a call on these pages, of which there are `most` at most: steps, and entries to give
abbrev pub op_work : ℕ → List Page → Op → ℕ
op_work most pages (Insert op) = insert_left most pages op.at
op_work most pages (Scan op) = scan_left most pages op
op_work most pages (Bulk set op) = bulk_delete_left most (length pages) op.cursor op.backtrack
op_work most pages (Cleanup op) = cleanup_left most (length pages) op.cursor op.at

-- the pages whose splits it is to finish
abbrev pub op_targets : Op → List Target
op_targets (Insert op) = targets_at op.at
op_targets (Scan op) = []
op_targets (Bulk set op) = []
op_targets (Cleanup op) = []
