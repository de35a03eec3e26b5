-- A bulk delete or a cleanup that goes on in parts, between other calls.
use Rattle.std.specs.Prelude.{◌≡◌, ◌≢◌, ◌||◌, ℕ, Bool, true, false, Option, Some, None, Result, Ok, Err, List, [], ◌∷◌, IfErr, slice_get, slice_set}
use Rattle.index_model.specs.Actions.{Action}
use Rattle.index_model.specs.Calls.{AskBulkDelete, AskCleanup, Call}
use Rattle.index_model.specs.Faults.{Circumstances, HasCause}
use Rattle.index_model.specs.Row.{Row}
use Rattle.index_model.specs.declared.entry.Entry.{Entry}
use Rattle.index_model.specs.declared.fault.Fault.{Fault}
use Rattle.index_model.specs.declared.fault.Fault.TheVariants.{Stopped, NoSession, VacuumRunning}
use Rattle.index_model.specs.declared.stats.VacuumStats.{VacuumStats}
use Rattle.page_action.specs.declared.page_store.PageStore.{Ghosts}
use Rattle.schedule.specs.TheoremCrashes.{IsCrashSafe}
use Rattle.schedule.specs.TheoremMoments.{IsRunningCall, snapshot_of}
use Rattle.session_calls.specs.Ops.{RunsOn}
use Rattle.session_calls.specs.Slots.{slot_of}
use Rattle.session_calls.specs.declared.answer.Answer.{Answer}
use Rattle.session_calls.specs.declared.answer.Answer.TheVariants.{Begun, Going, Finished, Refused}
use Rattle.session_calls.specs.declared.op.Op.{Op}
use Rattle.session_calls.specs.declared.request.Request.{Request}
use Rattle.session_calls.specs.declared.request.Request.TheVariants.{Bulk as ToBulk, Cleanup as ToCleanup}
use Rattle.whole_calls.specs.Going.{CallRuns}
use Rattle.whole_calls.specs.Made.{ComesTo, IsMadeOf}
use Rattle.whole_calls.specs.Meanings.{EndMeans, HasBegun}
use Rattle.whole_calls.specs.Refusing.{is_full_vacuum}
use Rattle.whole_calls.specs.Vacuuming.{CountsThrough, Followed, FollowsFrom, IsCountedAs, StatsCountFor}
use Rattle.access_method.specs.Indexes.{ForEachIndexHistory, IndexFits, IndexIsRun, IndexKeeps, IndexMakes, LosesDeadRows, cannot_begin, has_entry, slots_naming, slots_within}
use Rattle.access_method.specs.Refusals.{causes_of_run}
use Rattle.access_method.specs.Rows.{is_row_in}
use Rattle.access_method.specs.Tokens.{AreTaken, IsVacuumSeat}
use Rattle.access_method.specs.declared.index.Index.{Index}
use Rattle.access_method.specs.declared.rows.RowSet.{RowSet}
use Rattle.access_method.specs.declared.token.Sitter.TheVariants.{Vacuum}

-- a session whose seat was free is the vacuum's; no token is changed
pub record SitsToVacuum {S : Type 0} (session : ℕ) (old new : Index S) : Type 0 where
  pub was_free : slice_get old.seats session ≡ Some None
  pub seats_is : new.seats ≡ slice_set old.seats session (Some Vacuum)
  pub given_is : new.given ≡ old.given

-- what the vacuum of this session has counted so far is right
abbrev pub HasCounted : {S : Type 0} → Ghosts S → Followed → ℕ → Index S → Type 0
HasCounted g what session index = IsCountedAs what (is_row_in index.rows ∷ []) (g.state index.store) (slot_of index.calls.slots.items session)

-- ... of all that may be followed from its beginning
abbrev pub BeginsToFollow : {S : Type 0} → Ghosts S → ℕ → Request → Index S → Index S → Type 0
BeginsToFollow g session request old new =
    (what : Followed) → FollowsFrom what request (g.state old.store) session → ForEachIndexHistory g old new (λ start history calls. HasCounted g what session new)

-- A bulk delete of this set is begun, in place of the index's own, which no call names: for whatever fitted
-- the index before, the event that begins it fits; where the history was kept, it is so still.
pub record BulkDeleteBegins {S : Type 0} (g : Ghosts S) (session : ℕ) (dead : Row → Bool) (old new : Index S) (start : Entry → Bool) (history : List Action) (calls : List Call) : Type 0 where
  pub begun : CallRuns g session (HasBegun session (ToBulk 0)) (Some Begun) (slots_naming dead old) (slots_within new) start history calls
  pub safe : IndexKeeps g old start history calls → IsCrashSafe g start (snapshot_of (slots_within old) history calls) (snapshot_of (slots_within new) begun.then_history begun.then_calls)

-- ... in a session of its own
pub record BulkDeleteIsOpened {S : Type 0} (g : Ghosts S) (dead : RowSet) (old new : Index S) : Type 0 where
  pub session : ℕ
  pub sits : SitsToVacuum session old new
  pub rows_are : new.rows ≡ dead
  pub begins : ForEachIndexHistory g old new (BulkDeleteBegins g session (is_row_in dead) old new)
  pub made : IsMadeOf g session 5 (ComesTo (Some Begun)) (slots_naming (is_row_in dead) old) (slots_within new)
  pub follows : BeginsToFollow g session (ToBulk 0) old new

-- a cleanup is begun in a session of its own
pub record CleanupIsOpened {S : Type 0} (g : Ghosts S) (old new : Index S) : Type 0 where
  pub session : ℕ
  pub sits : SitsToVacuum session old new
  pub rows_are : new.rows ≡ old.rows
  pub begins : IndexIsRun g session (HasBegun session ToCleanup) (Some Begun) old new
  pub made : IndexMakes g session (ComesTo (Some Begun)) old new
  pub follows : BeginsToFollow g session ToCleanup old new

-- why no bulk delete or cleanup is begun that goes on in parts: no call can begin; no session is left; or one
-- goes on
abbrev pub NotBegunFor : {S : Type 0} → Ghosts S → Index S → Fault → Type 0
NotBegunFor g index Stopped = cannot_begin g index ≡ true
NotBegunFor g index NoSession = AreTaken index.seats
NotBegunFor g index VacuumRunning = (session : ℕ) × IsVacuumSeat index.seats session
NotBegunFor g index fault = ⊥

-- the call finds no vacuum that it could go on with or end: it is refused with `NoSession`, and changes
-- nothing
abbrev pub FindsNoVacuum : {S A : Type 0} → Result A Fault → Index S → Index S → Type 0
FindsNoVacuum result old new = (result ≡ Err NoSession) × (new ≡ old)

-- what a part answered
abbrev pub part_answer : Result (Option VacuumStats) Fault → Answer
part_answer (Ok None) = Going
part_answer (Ok (Some stats)) = Finished stats
part_answer (Err fault) = Refused fault

-- a step of a bulk delete or a cleanup answers no other
abbrev pub IsPartAnswer : Answer → Type 0
IsPartAnswer Going = Unit {0}
IsPartAnswer (Finished stats) = Unit {0}
IsPartAnswer (Refused fault) = Unit {0}
IsPartAnswer answer = ⊥

-- what may be the cause where a part is refused; also that the vacuum had no room left to count
abbrev pub causes_of_part : {S : Type 0} → Ghosts S → ℕ → Bool → Index S → S → Circumstances
causes_of_part g session is_full old new =
    let run = causes_of_run g session old new in
    record run { is_stopped = run.is_stopped || is_full }

-- a part was refused for its cause; the vacuum had come to this before its last step
pub record PartHasCause {S : Type 0} (g : Ghosts S) (session : ℕ) (fault : Fault) (old : Index S) (new : S) : Type 0 where
  pub before : Option Op
  pub on : RunsOn (slot_of old.calls.slots.items session) before
  pub cause : HasCause (causes_of_part g session (is_full_vacuum before) old new) fault

-- ... of the session's running call
abbrev pub PartIsCaused : {S : Type 0} → Ghosts S → ℕ → Result (Option VacuumStats) Fault → Index S → S → List Call → Type 0
PartIsCaused g session result old new calls = (number : ℕ) (call : Call) → IsRunningCall calls session number call → IfErr result (λ fault. PartHasCause g session fault old new)

-- a part of a bulk delete has added no entry, and removed none but of its rows; one of a cleanup neither
abbrev pub PartKeeps : {S : Type 0} → Ghosts S → ℕ → Index S → S → List Call → Type 0
PartKeeps g session old new calls =
    (number : ℕ) (call : Call) → IsRunningCall calls session number call
    → ((dead : Row → Bool) → call.ask ≡ AskBulkDelete dead → LosesDeadRows g dead old.store new)
    × (call.ask ≡ AskCleanup → (e : Entry) → has_entry g new e ≡ has_entry g old.store e)

-- the statistics of one that has finished count the pages as they are then
abbrev pub PartCounts : {S : Type 0} → Ghosts S → ℕ → Result (Option VacuumStats) Fault → S → List Call → Type 0
PartCounts g session result new calls =
    (number : ℕ) (call : Call) → IsRunningCall calls session number call → (stats : VacuumStats) → result ≡ Ok (Some stats) → StatsCountFor call.ask (g.state new) stats

-- while nobody else changes pages, a part counts on: what was right before it is so after it, and at its end
-- it is told
abbrev pub PartCountsOn : {S : Type 0} → Ghosts S → Followed → ℕ → Result (Option VacuumStats) Fault → Index S → Index S → Type 0
PartCountsOn g what session result old new =
    CountsThrough what (is_row_in old.rows ∷ []) (g.state old.store) (g.state new.store) (slot_of old.calls.slots.items session) (slot_of new.calls.slots.items session)
    (part_answer result)

-- The vacuum is over: its call is given up, if it still ran, its session is free, and its rows are no one's.
-- The index is fitted by what comes after that; where the history was kept, it is so still.
pub record VacuumEnds {S : Type 0} (g : Ghosts S) (session : ℕ) (old new : Index S) (start : Entry → Bool) (history : List Action) (calls : List Call) : Type 0 where
  pub ended : CallRuns g session (EndMeans session) None (slots_within old) (slots_naming (is_row_in old.rows) new) start history calls
  pub fits : IndexFits g new start ended.then_history ended.then_calls
  pub safe : IndexKeeps g old start history calls → IsCrashSafe g start (snapshot_of (slots_within old) history calls) (snapshot_of (slots_within new) ended.then_history ended.then_calls)

pub record VacuumIsEnded {S : Type 0} (g : Ghosts S) (session : ℕ) (old new : Index S) : Type 0 where
  pub seats_is : new.seats ≡ slice_set old.seats session None
  pub given_is : new.given ≡ old.given
  pub rows_are : new.rows.rows ≡ None
  pub ends : ForEachIndexHistory g old new (VacuumEnds g session old new)
  pub made : IsMadeOf g session 5 (ComesTo None) (slots_within old) (slots_naming (is_row_in old.rows) new)
