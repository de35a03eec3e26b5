-- What is promised of an index.
use Rattle.std.specs.List.{IsDistinct}
use Rattle.std.specs.Prelude.{◌||◌, ◌&&◌, not, ◌≡◌, ◌≢◌, ◌<◌, ◌≤◌, ℕ, suc, Bool, true, false, Option, Some, None, Result, Ok, Err, List, ◌∷◌, [], ◌++◌, length, slice_get, slice_set, IfOk}
use Rattle.device.specs.declared.device.Device.{Ghosts as DeviceGhosts}
use Rattle.index_model.specs.Actions.{Action}
use Rattle.index_model.specs.Calls.{AskScan, Call, IsScanAnswer, IsScanAnswerSoFar}
use Rattle.index_model.specs.Order.{same_entry, is_among}
use Rattle.index_model.specs.Row.{Row}
use Rattle.page_action.specs.Causes.{is_at_end, with_row}
use Rattle.page_action.specs.Contents.{entry_on_live_leaf}
use Rattle.index_model.specs.declared.entry.Entry.{Entry}
use Rattle.index_model.specs.declared.fault.Fault.{Fault}
use Rattle.index_model.specs.declared.fault.Fault.TheVariants.{Stopped, NoSession, Exists, KeyExists}
use Rattle.index_model.specs.declared.format.Format.{Format}
use Rattle.index_model.specs.declared.range.Range.{Range}
use Rattle.index_model.specs.declared.stats.VacuumStats.{VacuumStats}
use Rattle.page_action.specs.declared.page_store.PageStore.{Ghosts}
use Rattle.page_codec.specs.declared.page.Page.{Page}
use Rattle.page_delete.specs.Counts.{deleted_in}
use Rattle.page_store.specs.Stores.{state_of, device_of}
use Rattle.page_store.specs.declared.store.Store.{Store}
use Rattle.recovery.specs.declared.opening.Refused.{Refused as NotOpened}
use Rattle.session_calls.specs.TheoremCalls.{begun_call}
use Rattle.session_calls.specs.declared.answer.Answer.{Answer}
use Rattle.session_calls.specs.declared.request.Request.TheVariants.{Bulk as ToBulk}
use Rattle.schedule.specs.TheoremCrashes.{KeepsHistory, IsCrashSafe}
use Rattle.schedule.specs.TheoremRuns.{Fits}
use Rattle.schedule.specs.TheoremMoments.{StoreAndSlots, Moment, snapshot_of, IsRunningCall}
use Rattle.schedule.specs.TheoremKinds.{Upkeep, MaintainsStore}
use Rattle.schedule.specs.Making.{EventEffect}
use Rattle.vacuum.specs.Counts.{entries_below}
use Rattle.whole_calls.specs.Going.{CallRuns, CallIsRun}
use Rattle.whole_calls.specs.Inserting.{InsertIsRun}
use Rattle.whole_calls.specs.Made.{IsMadeOf}
use Rattle.whole_calls.specs.Vacuuming.{VacuumMeans, vacuum_outcome, StatsCountCleaned, StatsCountDeleted, StatsCountPages}
use Rattle.whole_calls.specs.Meanings.{HasNone}
use Rattle.whole_calls.specs.declared.inserted.Inserted.{Inserted}
use Rattle.access_method.specs.Counted.{counted}
use Rattle.access_method.specs.Rows.{is_row_in}
use Rattle.access_method.specs.Tokens.{seat_of, sitter_of, AreTaken, IsVacuumSeat, NoVacuumIsOpen}
use Rattle.access_method.specs.declared.index.Index.{Index}
use Rattle.access_method.specs.declared.index.NamedRows.{NamedRows}
use Rattle.access_method.specs.declared.index.NamedRows.TheVariants.{Own, Lent}
use Rattle.access_method.specs.declared.token.ScanToken.{ScanToken}
use Rattle.access_method.specs.declared.token.OpenScan.{OpenScan}
use Rattle.access_method.specs.declared.token.Sitter.TheVariants.{Scan as SitsToScan, Vacuum as SitsToVacuum}

-- the rows of the index itself, or of a bulk delete that is run to its end by one call
abbrev pub is_named_row : {T : Type 0} → (T → Row → Bool) → NamedRows T → Row → Bool
is_named_row is_in (Own rows) = is_row_in rows.now
is_named_row is_in (Lent rows) = is_in rows.now

-- the store of an index, and what its sessions run; the one set of dead rows is that of the bulk delete that
-- goes on in parts
abbrev pub slots_within : {S : Type 0} → Index S → StoreAndSlots S
slots_within index = record { store = index.store; slots = index.calls.slots.items; sets = is_row_in index.rows ∷ [] }

-- these contents at the start, this history and these calls fit the index
abbrev pub IndexFits : {S : Type 0} → Ghosts S → Index S → (Entry → Bool) → List Action → List Call → Type 0
IndexFits g index start history calls = Fits g start (snapshot_of (slots_within index) history calls)

-- ... and each crash leaves a prefix of the history
abbrev pub IndexKeeps : {S : Type 0} → Ghosts S → Index S → (Entry → Bool) → List Action → List Call → Type 0
IndexKeeps g index start history calls = KeepsHistory g start (snapshot_of (slots_within index) history calls)

-- for whatever fitted the index before there is a run of events of this session, of which one answered what
-- the call came to, and this is told
abbrev pub IndexIsRun : {S : Type 0} → Ghosts S → ℕ → (Moment S → Moment S → Type 0) → Option Answer → Index S → Index S → Type 0
IndexIsRun g session Tells came old new = CallIsRun g session Tells came (slots_within old) (slots_within new)

-- ... of an insert that is run to its end
abbrev pub IndexInserts : {S : Type 0} → Ghosts S → ℕ → Entry → Result Inserted Fault → Index S → Index S → Type 0
IndexInserts g session entry result old new = InsertIsRun g session entry result (slots_within old) (slots_within new)

-- Whatever the pages are, the call is made of events of this session and of checkpoints. A checkpoint is made
-- only if the log has room for fewer than five images, a step only if it has room for five, or its whole
-- room. What it came to, it came to by their answers.
abbrev pub IndexMakes : {S : Type 0} → Ghosts S → ℕ → (List Answer → Type 0) → Index S → Index S → Type 0
IndexMakes g session CallOutcome old new = IsMadeOf g session 5 CallOutcome (slots_within old) (slots_within new)

-- whatever the pages are, this was done for the store by one event, whose answer was handed on
pub record IndexIsKept {S : Type 0} (g : Ghosts S) (upkeep : Upkeep) (result : Result ℕ Fault) (old new : Index S) : Type 0 where
  pub answer : Answer
  pub handed_on : counted answer ≡ result
  pub made : EventEffect g (MaintainsStore upkeep) answer (slots_within old) (slots_within new)

-- The pages and the calls are as they were. What fitted the index fits it, and a history that was kept is
-- kept, over crashes in between too.
pub record IndexStays {S : Type 0} (g : Ghosts S) (old new : Index S) : Type 0 where
  pub state_is : g.state new.store ≡ g.state old.store
  pub calls_is : new.calls ≡ old.calls
  pub rows_is : new.rows ≡ old.rows
  pub fits : (start : Entry → Bool) (history : List Action) (calls : List Call) → IndexFits g old start history calls → IndexFits g new start history calls
  pub safe : (start : Entry → Bool) (history : List Action) (calls : List Call) → IndexFits g old start history calls → IndexKeeps g old start history calls
      → IsCrashSafe g start (snapshot_of (slots_within old) history calls) (snapshot_of (slots_within new) history calls)

-- if the device has kept its model up to now, this holds of whatever fitted the index before
abbrev pub ForEachIndexHistory : {S : Type 0} → Ghosts S → Index S → Index S → ((Entry → Bool) → List Action → List Call → Type 0) → Type 0
ForEachIndexHistory g old new goes =
    (g.backing new.store).honest ≡ true → (start : Entry → Bool) (history : List Action) (calls : List Call)
    → IndexFits g old start history calls → goes start history calls

-- Something fits the index, with these contents at the start. Each call keeps that, whatever fitted before.
abbrev pub IndexStillFits : {S : Type 0} → Ghosts S → Index S → (Entry → Bool) → List Action → List Call → Type 0
IndexStillFits g index start history calls = (then_history : List Action) × (then_calls : List Call) × IndexFits g index start then_history then_calls

-- the same, with another set of dead rows beside the index's own
abbrev pub slots_with : {S : Type 0} → (Row → Bool) → Index S → StoreAndSlots S
slots_with dead index = record { store = index.store; slots = index.calls.slots.items; sets = is_row_in index.rows ∷ dead ∷ [] }

-- ... in place of the index's own
abbrev pub slots_naming : {S : Type 0} → (Row → Bool) → Index S → StoreAndSlots S
slots_naming dead index = record { store = index.store; slots = index.calls.slots.items; sets = dead ∷ [] }

-- A bulk delete of this set goes, run to its end: there is a run of events over the index with this set
-- beside its own, of which one answered what the call came to. The index is fitted by what comes after it; if
-- the history was kept, it is so still, and a crash in between leaves a prefix of it.
pub record BulkDeleteRuns {S : Type 0} (g : Ghosts S) (dead : Row → Bool) (result : Result VacuumStats Fault) (old new : Index S) (start : Entry → Bool)
    (history : List Action) (calls : List Call) : Type 0 where
  pub deletions : CallRuns g 63 (VacuumMeans 63 (ToBulk 1) result) (vacuum_outcome result) (slots_with dead old) (slots_with dead new) start history calls
  pub fits : IndexFits g new start deletions.then_history deletions.then_calls
  pub safe : IndexKeeps g old start history calls → IsCrashSafe g start (snapshot_of (slots_within old) history calls) (snapshot_of (slots_within new) deletions.then_history deletions.then_calls)

-- tokens are as they were
pub record SameTokens {S : Type 0} (old new : Index S) : Type 0 where
  pub seats_is : new.seats ≡ old.seats
  pub given_is : new.given ≡ old.given

-- the token is one that was never given before, and is open; no other token is changed
pub record IsNewToken {S : Type 0} (old new : Index S) (token : ScanToken) : Type 0 where
  pub number_is : token.number ≡ old.given
  pub given_is : new.given ≡ suc old.given
  pub was_free : slice_get old.seats token.session ≡ Some None
  pub seats_is : new.seats ≡ slice_set old.seats token.session (Some (SitsToScan (record { number = token.number; is_refused = false })))

-- the seat of an open token is this now; no other token is changed
pub record SeatBecomes {S : Type 0} (token : ScanToken) (seat : Option OpenScan) (old new : Index S) : Type 0 where
  pub given_is : new.given ≡ old.given
  pub seats_is : new.seats ≡ slice_set old.seats token.session (sitter_of seat)

-- its seat, answering, or refused
abbrev pub seat_with : ScanToken → Bool → Option OpenScan
seat_with token is_refused = Some (record { number = token.number; is_refused = is_refused })

-- no scan can begin: the log has failed, or a counter is at its end
abbrev pub cannot_begin : {S : Type 0} → Ghosts S → Index S → Bool
cannot_begin g index = (g.backing index.store).stopped || (is_at_end (g.state index.store).begun || is_at_end index.given)

-- why no scan is opened: none can begin, or no session is left for one
abbrev pub NotOpenedFor : {S : Type 0} → Ghosts S → Index S → Fault → Type 0
NotOpenedFor g index Stopped = cannot_begin g index ≡ true
NotOpenedFor g index NoSession = AreTaken index.seats
NotOpenedFor g index fault = ⊥

-- why no scan is begun under a token: the token is not open; or it is, and none can begin
abbrev pub NotRescannedFor : {S : Type 0} → Ghosts S → Index S → ScanToken → Fault → Type 0
NotRescannedFor g index token Stopped = (seat_of index.seats token ≢ None) × (cannot_begin g index ≡ true)
NotRescannedFor g index token NoSession = seat_of index.seats token ≡ None
NotRescannedFor g index token fault = ⊥

-- the old call is given up, if it still ran, and a scan of the range is begun; no action is appended
pub record RescanMeans {S : Type 0} (session : ℕ) (range : Range) (old new : Moment S) : Type 0 where
  pub history_is : new.history ≡ old.history
  pub given_up : List Call
  pub kept : HasNone session old → given_up ≡ old.calls
  pub calls_is : new.calls ≡ given_up ++ begun_call session (AskScan range) (length old.history) ∷ []

-- the tokens after an entry was asked for: a fault is kept
abbrev pub TokenAfter : {S : Type 0} → ScanToken → Result (Option Entry) Fault → Index S → Index S → Type 0
TokenAfter token (Ok given) old new = SameTokens old new
TokenAfter token (Err fault) old new = SeatBecomes token (seat_with token true) old new

-- whether an entry stands on the store's pages
abbrev pub has_entry : {S : Type 0} → Ghosts S → S → Entry → Bool
has_entry g store e = entry_on_live_leaf (g.state store).pages e

-- the entry wasn't there, and on a unique index no entry of its key; the contents are those before and the
-- entry; and the action that added it is one since
pub record IsInserted {S : Type 0} (g : Ghosts S) (entry : Entry) (inserted : Inserted) (old new : S) : Type 0 where
  pub was_absent : has_entry g old entry ≡ false
  pub key_was_absent : (g.state old).format.unique ≡ true → (row : Row) → has_entry g old (with_row entry row) ≡ false
  pub contents : (e : Entry) → has_entry g new e ≡ (same_entry entry e || has_entry g old e)
  pub since : (g.state old).acts < inserted.action
  pub until : inserted.action ≤ (g.state new).acts

-- the contents are those before; and if an insert was refused because the entry was there, it was; if because
-- its key was there with a row, that was another row, and its entry was there
pub record SameContents {S : Type 0} (g : Ghosts S) (entry : Entry) (fault : Fault) (old new : S) : Type 0 where
  pub contents : (e : Entry) → has_entry g new e ≡ has_entry g old e
  pub was_there : fault ≡ Exists → has_entry g old entry ≡ true
  pub key_was_there : (row : Row) → fault ≡ KeyExists row → (row ≢ entry.row) × (has_entry g old (with_row entry row) ≡ true)

-- the entry is inserted; or the contents are those before
abbrev pub InsertsOrKeeps : {S : Type 0} → Ghosts S → Entry → Result Inserted Fault → S → S → Type 0
InsertsOrKeeps g entry (Ok inserted) old new = IsInserted g entry inserted old new
InsertsOrKeeps g entry (Err fault) old new = SameContents g entry fault old new

-- so many entries are such: they stand in a list, each once
pub record AreSoMany (is_such : Entry → Bool) (count : ℕ) : Type 0 where
  pub listed : List Entry
  pub once : IsDistinct same_entry listed
  pub such : (e : Entry) → is_among listed e ≡ is_such e
  pub many : count ≡ length listed

-- The entries of dead rows are gone, and no others. It is told how many they were, how many entries are left,
-- how many pages are in use, and how many of them are deleted. It has deleted none.
pub record IsBulkDeleted {S : Type 0} (g : Ghosts S) (dead : Row → Bool) (stats : VacuumStats) (old new : S) : Type 0 where
  pub contents : (e : Entry) → has_entry g new e ≡ (has_entry g old e && not (dead e.row))
  pub removed : AreSoMany (λ e. has_entry g old e && dead e.row) stats.tuples_removed
  pub left : stats.num_index_tuples ≡ entries_below (g.state new).pages (length (g.state new).pages)
  pub pages : StatsCountPages (g.state new) stats
  pub newly_deleted : stats.pages_newly_deleted ≡ 0

-- no entry has come, and none is gone but of a dead row
pub record LosesDeadRows {S : Type 0} (g : Ghosts S) (dead : Row → Bool) (old new : S) : Type 0 where
  pub others : (e : Entry) → dead e.row ≡ false → has_entry g new e ≡ has_entry g old e
  pub came : (e : Entry) → has_entry g new e ≡ true → has_entry g old e ≡ true

-- the entries of dead rows are gone; or some of them, if it was refused
abbrev pub IsBulkDeletedOrLess : {S : Type 0} → Ghosts S → (Row → Bool) → Result VacuumStats Fault → S → S → Type 0
IsBulkDeletedOrLess g dead (Ok stats) old new = IsBulkDeleted g dead stats old new
IsBulkDeletedOrLess g dead (Err fault) old new = LosesDeadRows g dead old new

-- The contents are those before a cleanup. If it answers, no half-dead page is left. It tells how many
-- entries there are, that it has removed none, how many pages are in use, how many of them are deleted, and
-- how many of these were not before.
pub record IsCleanedUp {S : Type 0} (g : Ghosts S) (result : Result VacuumStats Fault) (old new : S) : Type 0 where
  pub contents : (e : Entry) → has_entry g new e ≡ has_entry g old e
  pub told : StatsCountCleaned (g.state new) result
  pub deleted : StatsCountDeleted (deleted_in (g.state old)) (g.state new) result
  pub stats : IfOk result (λ stats. StatsCountPages (g.state new) stats × (stats.tuples_removed ≡ 0))

-- what a scan has given with this entry is right so far; or all that it gave is the right answer since it was
-- begun
abbrev pub GivesRight : (Entry → Bool) → List Action → Range → Call → Result (Option Entry) Fault → Type 0
GivesRight start history range call (Ok (Some entry)) = IsScanAnswerSoFar start history range call.began (length history) (call.given ++ entry ∷ [])
GivesRight start history range call (Ok None) = IsScanAnswer start history range call.began (length history) call.given
GivesRight start history range call (Err fault) = Unit {0}

-- ... of the session's running scan
abbrev pub AnswersScan : ℕ → Result (Option Entry) Fault → (Entry → Bool) → List Action → List Call → Type 0
AnswersScan session result start history calls = (number : ℕ) (call : Call) (range : Range) → IsRunningCall calls session number call → call.ask ≡ AskScan range
    → GivesRight start history range call result

-- an index of this format, fitted by the contents of these pages, no action and no call, which keeps that
-- history; no token is open
pub record IndexBegins {D : Type 0} (d : DeviceGhosts D) (g : Ghosts (Store D d)) (format : Format) (pages : List Page) (index : Index (Store D d)) : Type 0 where
  pub format_is : (state_of d index.store).format ≡ format
  pub fits : IndexFits g index (entry_on_live_leaf pages) [] []
  pub keeps : IndexKeeps g index (entry_on_live_leaf pages) [] []
  pub closed : (token : ScanToken) → seat_of index.seats token ≡ None

-- the device as an open left it, in the index or given back
abbrev pub index_device : {D : Type 0} (d : DeviceGhosts D) → Result (Index (Store D d)) (NotOpened D) → D
index_device d (Ok index) = device_of d index.store
index_device d (Err refused) = refused.device
