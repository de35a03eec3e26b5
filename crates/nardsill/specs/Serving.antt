-- What a call of C's does, and what its answer means.
use Rattle.std.specs.Prelude.{◌≡◌, ◌≢◌, ◌⊎◌, ◌||◌, ◌-◌, ℕ, IsTrue, true, false, Option, Some, None, IsSome, Result, Ok, Err, IfOk, IfErr, OnOk, OnErr, ⊤}
use Rattle.access_method.specs.Counted.{upkeep_outcome}
use Rattle.access_method.specs.Indexes.{ForEachIndexHistory, IndexIsRun, IndexInserts, IndexMakes, InsertsOrKeeps, IsCleanedUp, IsNewToken, IsBulkDeletedOrLess, IndexStays, SameTokens, NotOpenedFor, NotRescannedFor, RescanMeans, SeatBecomes, BulkDeleteRuns, seat_with, slots_with}
use Rattle.access_method.specs.Parts.{BulkDeleteIsOpened, CleanupIsOpened, FindsNoVacuum, NotBegunFor, PartCounts, PartCountsOn, PartIsCaused, PartKeeps, VacuumIsEnded, part_answer}
use Rattle.access_method.specs.Refusals.{InsertHasCause, causes_of_vacuum}
use Rattle.access_method.specs.Tokens.{IsVacuumSeat, NoVacuumIsOpen, seat_of}
use Rattle.access_method.specs.declared.index.Index.{Index}
use Rattle.access_method.specs.declared.token.ScanToken.{ScanToken}
use Rattle.index_model.specs.Faults.{HasCause}
use Rattle.index_model.specs.Row.{Row, IsRow}
use Rattle.index_model.specs.declared.entry.Entry.{Entry}
use Rattle.index_model.specs.declared.fault.Fault.{Fault}
use Rattle.index_model.specs.declared.fault.Fault.TheVariants.{Io, NoMemory, BadRow, NoSession}
use Rattle.index_model.specs.declared.range.Range.{Range}
use Rattle.index_model.specs.declared.stats.VacuumStats.{VacuumStats}
use Rattle.page_action.specs.Causes.{causes_of_forced}
use Rattle.page_action.specs.States.{Continues}
use Rattle.page_action.specs.declared.page_store.PageStore.{Ghosts}
use Rattle.page_store.specs.Quiet.{IsAdvanced}
use Rattle.redo_log.specs.declared.gate.Advance.{Advance}
use Rattle.schedule.specs.Sessions.{op_of}
use Rattle.schedule.specs.TheoremKinds.{Upkeep, Forces, Checkpoints}
use Rattle.session_calls.specs.Ops.{op_before}
use Rattle.session_calls.specs.declared.answer.Answer.TheVariants.{Begun}
use Rattle.session_calls.specs.declared.request.Request.TheVariants.{Scan as ToScan, Cleanup as ToCleanup}
use Rattle.whole_calls.specs.Made.{ComesTo, InsertComesTo, IsMadeOf}
use Rattle.whole_calls.specs.Parts.{PartComesTo, PartMeans, RunsUnlessLast, part_outcome}
use Rattle.whole_calls.specs.Vacuuming.{Followed, VacuumMeans, vacuum_outcome}
use Rattle.whole_calls.specs.Meanings.{HasBegun, IsSameHistory, EndMeans}
use Rattle.whole_calls.specs.declared.inserted.Inserted.{Inserted}
use Rattle.nardsill.specs.Asking.{SpellsNoEntry, SpellsNoRange, SpellsEntry, SpellsRange, row_asked, token_asked}
use Rattle.access_method.specs.Rows.{is_row_in, row_count, same_row}
use Rattle.nardsill.specs.Meanings.{AnswersFault, Tells, AnswersPartOfCommit, AnswersDurable, AnswersInserted, AnswersPart, SpellsStats, AnswersToken}
use Rattle.nardsill.specs.declared.answer.CallAnswer.{CallAnswer}
use Rattle.nardsill.specs.declared.ask.Ask.{Ask}
use Rattle.access_method.specs.declared.rows.RowSet.{RowSet}

-- what was asked is misspelled, and that is its fault: the call is refused, and nothing is changed
pub record IsMisspelled {S : Type 0} (IsNone : Fault → Type 0) (answer : CallAnswer) (old new : Index S) : Type 0 where
  pub fault : Fault
  pub is_none : IsNone fault
  pub refused : AnswersFault fault answer
  pub same : new ≡ old

-- the entry that is spelled was asked to be inserted: with all that the index promises of that
pub record Inserts {S : Type 0} (g : Ghosts S) (ask : Ask) (answer : CallAnswer) (old new : Index S) : Type 0 where
  pub entry : Entry
  pub spelled : SpellsEntry ask entry
  pub outcome : Result Inserted Fault
  pub told : Tells AnswersInserted outcome answer
  pub runs : IndexInserts g 63 entry outcome old new
  pub made : IndexMakes g 63 (InsertComesTo outcome) old new
  pub does : ForEachIndexHistory g old new (λ start history calls. InsertsOrKeeps g entry outcome old.store new.store)
  pub cause : ForEachIndexHistory g old new (λ start history calls. InsertHasCause g entry outcome old new.store)
  pub tokens : SameTokens old new

-- a scan of the range that is spelled was asked for
pub record BeginsScan {S : Type 0} (g : Ghosts S) (ask : Ask) (answer : CallAnswer) (old new : Index S) : Type 0 where
  pub range : Range
  pub spelled : SpellsRange ask range
  pub outcome : Result ScanToken Fault
  pub told : Tells AnswersToken outcome answer
  pub runs : IfOk outcome (λ token. IndexIsRun g token.session (HasBegun token.session (ToScan range)) (Some Begun) old new)
  pub begins : IfOk outcome (λ token. op_of new.calls token.session ≡ Some (op_before token.session (ToScan range)))
  pub tokens : IfOk outcome (IsNewToken old new)
  pub same : OnErr outcome (new ≡ old)
  pub cause : IfErr outcome (NotOpenedFor g old)

-- nothing more is told
abbrev pub AnswersNothing : Unit {0} → CallAnswer → Type 0
AnswersNothing done answer = ⊤

-- the scan of the token that is named was to begin anew, over the range that is spelled
pub record BeginsAgain {S : Type 0} (g : Ghosts S) (ask : Ask) (answer : CallAnswer) (old new : Index S) : Type 0 where
  pub range : Range
  pub spelled : SpellsRange ask range
  pub outcome : Result (Unit {0}) Fault
  pub told : Tells AnswersNothing outcome answer
  pub runs : OnOk outcome (IndexIsRun g ask.session (RescanMeans ask.session range) (Some Begun) old new)
  pub begins : OnOk outcome (op_of new.calls ask.session ≡ Some (op_before ask.session (ToScan range)))
  pub tokens : OnOk outcome (SeatBecomes (token_asked ask) (seat_with (token_asked ask) false) old new)
  pub same : OnErr outcome (new ≡ old)
  pub cause : IfErr outcome (NotRescannedFor g old (token_asked ask))

-- ... was to be closed: refused only where it isn't open
pub record ClosesHandle {S : Type 0} (g : Ghosts S) (ask : Ask) (answer : CallAnswer) (old new : Index S) : Type 0 where
  pub outcome : Result (Unit {0}) Fault
  pub told : Tells AnswersNothing outcome answer
  pub runs : OnOk outcome (IndexIsRun g ask.session (EndMeans ask.session) None old new)
  pub tokens : OnOk outcome (SeatBecomes (token_asked ask) None old new)
  pub refused : OnErr outcome (seat_of old.seats (token_asked ask) ≡ None)
  pub closed : seat_of old.seats (token_asked ask) ≡ None → (outcome ≡ Err NoSession) × (new ≡ old)

-- a row was named beside those that were; or none is named any more, as it is no row, or there is no memory
abbrev pub Names : Ask → CallAnswer → RowSet → RowSet → Type 0
Names ask answer old new =
    (IsRow (row_asked ask) × (answer.status ≡ 0) × ((row : Row) → is_row_in new row ≡ (same_row (row_asked ask) row || is_row_in old row)))
    ⊎ ((IsRow (row_asked ask) → ⊥) × AnswersFault BadRow answer × (new.rows ≡ None))
    ⊎ (IsRow (row_asked ask) × AnswersFault NoMemory answer × (new.rows ≡ None))

-- all entries of the rows that were named were to be deleted
pub record Deletes {S : Type 0} (g : Ghosts S) (dead : RowSet) (answer : CallAnswer) (old new : Index S) : Type 0 where
  pub outcome : Result VacuumStats Fault
  pub told : Tells SpellsStats outcome answer
  pub runs : ForEachIndexHistory g old new (BulkDeleteRuns g (is_row_in dead) outcome old new)
  pub made : IsMadeOf g 63 5 (ComesTo (vacuum_outcome outcome)) (slots_with (is_row_in dead) old) (slots_with (is_row_in dead) new)
  pub does : ForEachIndexHistory g old new (λ start history calls. IsBulkDeletedOrLess g (is_row_in dead) outcome old.store new.store)
  pub cause : ForEachIndexHistory g old new (λ start history calls. IfErr outcome (HasCause (causes_of_vacuum g 63 old new.store)))
  pub tokens : SameTokens old new

-- empty leaves were to be deleted
pub record CleansIndex {S : Type 0} (g : Ghosts S) (answer : CallAnswer) (old new : Index S) : Type 0 where
  pub outcome : Result VacuumStats Fault
  pub told : Tells SpellsStats outcome answer
  pub runs : IndexIsRun g 63 (VacuumMeans 63 ToCleanup outcome) (vacuum_outcome outcome) old new
  pub made : IndexMakes g 63 (ComesTo (vacuum_outcome outcome)) old new
  pub does : ForEachIndexHistory g old new (λ start history calls. IsCleanedUp g outcome old.store new.store)
  pub cause : ForEachIndexHistory g old new (λ start history calls. IfErr outcome (HasCause (causes_of_vacuum g 63 old new.store)))
  pub tokens : SameTokens old new

-- a bulk delete of the rows that were named was to begin, which goes on in parts
pub record BeginsDelete {S : Type 0} (g : Ghosts S) (dead : RowSet) (answer : CallAnswer) (old new : Index S) : Type 0 where
  pub outcome : Result (Unit {0}) Fault
  pub told : Tells AnswersNothing outcome answer
  pub opened : OnOk outcome (BulkDeleteIsOpened g dead old new)
  pub same : OnErr outcome (new ≡ old)
  pub cause : IfErr outcome (NotBegunFor g old)

-- ... a cleanup
pub record BeginsCleanup {S : Type 0} (g : Ghosts S) (answer : CallAnswer) (old new : Index S) : Type 0 where
  pub outcome : Result (Unit {0}) Fault
  pub told : Tells AnswersNothing outcome answer
  pub opened : OnOk outcome (CleanupIsOpened g old new)
  pub same : OnErr outcome (new ≡ old)
  pub cause : IfErr outcome (NotBegunFor g old)

-- the one that goes on was to go on, by so many steps; `PartOf` has what is told of its session
pub record PartOf {S : Type 0} (g : Ghosts S) (steps : ℕ) (outcome : Result (Option VacuumStats) Fault) (session : ℕ) (old new : Index S) : Type 0 where
  pub over : op_of old.calls session ≡ None → FindsNoVacuum outcome old new
  pub runs : op_of old.calls session ≢ None → IndexIsRun g session (PartMeans session (part_answer outcome)) (part_outcome (part_answer outcome)) old new
  pub made : op_of old.calls session ≢ None → IndexMakes g session (PartComesTo steps (part_answer outcome)) old new
  pub keeps : ForEachIndexHistory g old new (λ start history calls. PartKeeps g session old new.store calls)
  pub counts : ForEachIndexHistory g old new (λ start history calls. PartCounts g session outcome new.store calls)
  pub lasts : RunsUnlessLast (op_of old.calls session) (op_of new.calls session) (part_answer outcome)
  pub entries : (what : Followed) → ForEachIndexHistory g old new (λ start history calls. PartCountsOn g what session outcome old new)
  pub cause : ForEachIndexHistory g old new (λ start history calls. PartIsCaused g session outcome old new.store calls)

pub record GoesOn {S : Type 0} (g : Ghosts S) (steps : ℕ) (answer : CallAnswer) (old new : Index S) : Type 0 where
  pub outcome : Result (Option VacuumStats) Fault
  pub told : Tells AnswersPart outcome answer
  pub none : NoVacuumIsOpen old.seats → FindsNoVacuum outcome old new
  pub part : (session : ℕ) → IsVacuumSeat old.seats session → PartOf g steps outcome session old new
  pub idle : steps ≡ 0 → (new.store ≡ old.store) × (new.calls ≡ old.calls)
  pub tokens : SameTokens old new
  pub rows : new.rows ≡ old.rows

-- ... was to be over
-- (its rows are spent then)
pub record EndsVacuum {S : Type 0} (g : Ghosts S) (answer : CallAnswer) (old new : Index S) (spent rest : RowSet) : Type 0 where
  pub outcome : Result (Unit {0}) Fault
  pub told : Tells AnswersNothing outcome answer
  pub none : NoVacuumIsOpen old.seats → FindsNoVacuum outcome old new × (rest ≡ spent)
  pub ended : (session : ℕ) → IsVacuumSeat old.seats session → (outcome ≡ Ok tt) × VacuumIsEnded g session old new × (rest ≡ old.rows)

-- The next part of a commit was to be done. It leaves contents, calls and open scans as they are, and what is
-- durable.
pub record Advances {S : Type 0} (g : Ghosts S) (answer : CallAnswer) (old new : Index S) : Type 0 where
  pub outcome : Result Advance Fault
  pub told : Tells AnswersPartOfCommit outcome answer
  pub stays : IndexStays g old new
  pub kept : IsAdvanced (g.backing old.store) (g.backing new.store)
  pub failed : OnErr outcome ((g.backing new.store).stopped ≡ true)
  pub cause : IfErr outcome (HasCause (causes_of_forced (g.backing old.store) (g.backing new.store)))
  pub tokens : SameTokens old new

-- all actions were to be made durable, by a commit or a checkpoint
pub record MakesDurable {S : Type 0} (g : Ghosts S) (upkeep : Upkeep) (answer : CallAnswer) (old new : Index S) : Type 0 where
  pub outcome : Result ℕ Fault
  pub told : Tells AnswersDurable outcome answer
  pub runs : IndexIsRun g 0 IsSameHistory (upkeep_outcome upkeep outcome) old new
  pub number : IfOk outcome (λ n. n ≡ (g.state old.store).acts)
  pub durable : OnOk outcome ((g.backing new.store).durable ≡ (g.state old.store).acts)
  pub cause : IfErr outcome (HasCause (causes_of_forced (g.backing old.store) (g.backing new.store)))
  pub tokens : SameTokens old new

-- no call has this number
abbrev pub IsUnknown : ℕ → Type 0
IsUnknown what =
    (what ≢ 1) × (what ≢ 2) × (what ≢ 3) × (what ≢ 4) × (what ≢ 5) × (what ≢ 6) × (what ≢ 7) × (what ≢ 8) × (what ≢ 9) × (what ≢ 11) × (what ≢ 12) × (what ≢ 13) × (what ≢ 14) × (what ≢ 15)

-- What is answered to a call of an open index, and what has become of it, of the rows that were named, and of
-- those that are spent. 1 inserts, 2 opens a scan, 3 begins one anew, 4 closes one, 5 names a row, 6 deletes
-- the entries of the rows that were named, 7 cleans up, 8 commits, 9 makes a checkpoint. In parts, 11 begins
-- to delete, 12 to clean up, 13 goes on and 14 ends. 15 does the next part of a commit.
pub record ServesCall {S : Type 0} (g : Ghosts S) (ask : Ask) (answer : CallAnswer) (old new : Index S) (dead left spent rest : RowSet) : Type 0 where
  pub inserted : ask.what ≡ 1 → Inserts g ask answer old new ⊎ IsMisspelled (SpellsNoEntry ask) answer old new
  pub began : ask.what ≡ 2 → BeginsScan g ask answer old new ⊎ IsMisspelled (SpellsNoRange ask) answer old new
  pub begun_again : ask.what ≡ 3 → BeginsAgain g ask answer old new ⊎ IsMisspelled (SpellsNoRange ask) answer old new
  pub closed : ask.what ≡ 4 → ClosesHandle g ask answer old new
  pub named : ask.what ≡ 5 → Names ask answer dead left × (new ≡ old)
  pub deleted : ask.what ≡ 6 → Deletes g dead answer old new × (left.rows ≡ None)
  pub cleaned : ask.what ≡ 7 → CleansIndex g answer old new
  pub committed : ask.what ≡ 8 → MakesDurable g Forces answer old new
  pub written : ask.what ≡ 9 → MakesDurable g Checkpoints answer old new
  pub began_delete : ask.what ≡ 11 → BeginsDelete g dead answer old new × (left.rows ≡ None)
  pub began_cleanup : ask.what ≡ 12 → BeginsCleanup g answer old new
  pub went_on : ask.what ≡ 13 → GoesOn g ask.block answer old new
  pub ended : ask.what ≡ 14 → EndsVacuum g answer old new spent rest
  pub advanced : ask.what ≡ 15 → Advances g answer old new
  pub unknown : IsUnknown ask.what → AnswersFault NoSession answer × (new ≡ old)
  -- where it says how many actions are durable, so many are
  pub durable : answer.is_durable ≡ true → (g.backing new.store).durable ≡ answer.number
  -- rows stay named but by the calls that name and take them
  pub kept : ask.what ≢ 5 → ask.what ≢ 6 → ask.what ≢ 11 → left ≡ dead
  pub unspent : ask.what ≢ 14 → rest ≡ spent
  pub steps : Continues g.follows old.store new.store

-- this holds of the index before and of that after; both are there
abbrev pub OfBoth : {S : Type 0} → (Index S → Index S → Type 0) → Option (Index S) → Option (Index S) → Type 0
OfBoth P (Some old) (Some new) = P old new
OfBoth P (Some old) None = ⊥
OfBoth P None new = ⊥

-- the file was synced; or the system refused that, or the handle has none to sync
abbrev pub AnswersSync : CallAnswer → Type 0
AnswersSync answer = (answer.status ≡ 0) ⊎ AnswersFault Io answer ⊎ AnswersFault NoSession answer

-- this many of the rows were freed, or all if there were fewer
pub record AreFreed (count : ℕ) (old new : RowSet) : Type 0 where
  pub left : row_count new ≡ row_count old - count
  pub fewer : (row : Row) → IsTrue (is_row_in new row) → IsTrue (is_row_in old row)

-- What is answered to a call of a handle. 10 lets it go: what is left of it owns no file, and no memory but
-- its own block, which is C's to free. 16 syncs the file that the handle was given to sync. 17 frees so many
-- of the rows that are spent, as `block` says. A handle without an index answers no other call.
pub record IsServed {S : Type 0} (g : Ghosts S) (ask : Ask) (answer : CallAnswer) (old new : Option (Index S)) (dead left spent rest : RowSet) : Type 0 where
  pub let_go : ask.what ≡ 10 → (new ≡ None) × (left.rows ≡ None) × (rest.rows ≡ None) × (answer.status ≡ 0)
  pub synced : ask.what ≡ 16 → AnswersSync answer × (new ≡ old) × (left ≡ dead) × (rest ≡ spent)
  pub freed : ask.what ≡ 17 → (answer.status ≡ 0) × (new ≡ old) × (left ≡ dead) × AreFreed ask.block spent rest
  pub empty : ask.what ≢ 10 → ask.what ≢ 16 → ask.what ≢ 17 → old ≡ None → AnswersFault NoSession answer × (new ≡ None) × (left ≡ dead) × (rest ≡ spent)
  pub served : ask.what ≢ 10 → ask.what ≢ 16 → ask.what ≢ 17 → IsSome old → OfBoth (λ before after. ServesCall g ask answer before after dead left spent rest) old new
