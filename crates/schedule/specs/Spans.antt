-- What holds over whole runs: lows that don't rise, calls that come to their answers in time, splits that are
-- finished, and steps that are spent.
use Rattle.std.specs.Prelude.{◌≡◌, ◌≢◌, ℕ, zero, suc, ◌+◌, ◌≤◌, ◌==◌, if◌then◌else◌, Bool, true, false, Option, Some, List, [], ◌∷◌, ◌++◌}
use Rattle.index_model.specs.declared.bound.Bound.{Bound}
use Rattle.index_model.specs.declared.entry.Entry.{Entry}
use Rattle.index_model.specs.declared.fault.Fault.TheVariants.{Blocked}
use Rattle.page_codec.specs.declared.page.PageState.TheVariants.{Deleted}
use Rattle.page_action.specs.declared.page_store.PageStore.{Ghosts}
use Rattle.tree_shape.specs.Nodes.{nodes_of}
use Rattle.tree_acts.specs.Lows.{HasLow, HasLowUpTo}
use Rattle.tree_acts.specs.Levels.{root_level}
use Rattle.tree_acts.specs.Ways.{NoneIsIncomplete}
use Rattle.session_calls.specs.Due.{IsDueIn, IsServable, steps_for}
use Rattle.session_calls.specs.Ops.{ends_call}
use Rattle.session_calls.specs.Sessions.{OnlyOwnAreIncomplete, ready_count, work_in}
use Rattle.session_calls.specs.Slots.{slot_of}
use Rattle.session_calls.specs.declared.answer.Answer.{Answer}
use Rattle.session_calls.specs.declared.answer.Answer.TheVariants.{Begun, Going, Added, Ready, Refused}
use Rattle.session_calls.specs.declared.request.Request.{Request}
use Rattle.schedule.specs.Events.{IsOf}
use Rattle.schedule.specs.Stands.{BeforeEach}
use Rattle.schedule.specs.TheoremKinds.{Steps, Takes, GivesUp, Kind, BeginsCall, MovesCall, MaintainsStore, kind_of}
use Rattle.schedule.specs.TheoremMoments.{Moment}
use Rattle.schedule.specs.TheoremRuns.{Fits, IsRun}
use Rattle.schedule.specs.declared.event.Event.{Event}

-- the page of the block isn't deleted at this moment
abbrev pub IsNotDeleted : {S : Type 0} → Ghosts S → ℕ → Moment S → Type 0
IsNotDeleted g block now = (nodes_of (g.state now.store).pages block).state ≢ Deleted

-- Over a run at no moment of which a page of the tree is deleted, its low doesn't rise.
abbrev pub LowsStay : {S : Type 0} → Ghosts S → Type 0
LowsStay {S} g =
    (start : Entry → Bool) (told : List Answer) (events : List Event) (answers : List Answer) (first last : Moment S) (run : IsRun g start told events answers first last)
    (level block : ℕ) (low : Option Bound) → BeforeEach g start (IsNotDeleted g block) told events answers first last run → IsNotDeleted g block last
    → HasLow (g.state first.store).pages level block low → HasLowUpTo (g.state last.store).pages level block low

-- a step that goes on, or is blocked
abbrev pub IsUnanswered : Answer → Type 0
IsUnanswered Going = Unit {0}
IsUnanswered (Refused (Blocked block)) = Unit {0}
IsUnanswered answer = ⊥

-- the session's call still waits for its answer after this event: a step of it goes on or is blocked, and it
-- isn't given up
abbrev pub CallIsUnanswered : ℕ → Kind → Answer → Type 0
CallIsUnanswered session (MovesCall of Steps) answer = of ≡ session → IsUnanswered answer
CallIsUnanswered session (MovesCall of GivesUp) answer = of ≢ session
CallIsUnanswered session (MovesCall of Takes) answer = Unit {0}
CallIsUnanswered session (BeginsCall of request) answer = Unit {0}
CallIsUnanswered session (MaintainsStore upkeep) answer = Unit {0}

-- ... after each of these
abbrev pub CallIsUnansweredAfterAll : ℕ → List Event → List Answer → Type 0
CallIsUnansweredAfterAll session (event ∷ events) (answer ∷ answers) = CallIsUnanswered session (kind_of event) answer × CallIsUnansweredAfterAll session events answers
CallIsUnansweredAfterAll session events answers = Unit {0}

-- an event is a step of the session that goes on: 1, else 0
abbrev pub goes_on : ℕ → Kind → Answer → ℕ
goes_on session (MovesCall of Steps) Going = if of == session then 1 else 0
goes_on session kind answer = 0

-- how many of the session's steps go on
abbrev pub steps_gone : ℕ → List Event → List Answer → ℕ
steps_gone session (event ∷ events) (answer ∷ answers) = goes_on session (kind_of event) answer + steps_gone session events answers
steps_gone session events answers = 0

-- after a run from the beginning of a session's call on, one step more at least is to be made; those that
-- were made and those that are to be made are `steps` in sum
pub record IsStillDue {S : Type 0} (g : Ghosts S) (session steps gone : ℕ) (last : Moment S) : Type 0 where
  pub left : ℕ
  pub due : IsDueIn (g.state last.store) (slot_of last.slots session) (suc left)
  pub sum : gone + suc left ≡ steps

-- In time: a call begins while no page has an incomplete split and its leaf can serve it, and then no action
-- is logged. Of its steps, blocked ones not counted, fewer than the root's level and a few go on, 2 of a
-- scan, 3 of an insert: the next one after these brings what is awaited (`CountsDown`), unless the device,
-- the log or the frames hinder it. Of a scan, entries are ready; of an insert, the entry is added and nothing
-- is left unfinished.
abbrev pub CallsComeInTime : {S : Type 0} → Ghosts S → Type 0
CallsComeInTime {S} g =
    (start : Entry → Bool) (told : List Answer) (event : Event) (events : List Event) (answers : List Answer) (first last : Moment S) (session : ℕ) (request : Request)
    → IsRun g start told (event ∷ events) (Begun ∷ answers) first last → kind_of event ≡ BeginsCall session request
    → NoneIsIncomplete (g.state first.store).pages → IsServable (g.state first.store) request → last.history ≡ first.history → CallIsUnansweredAfterAll session events answers
    → IsStillDue g session (root_level (g.state first.store).pages + steps_for request) (steps_gone session events answers) last

-- a step after which no split is left unfinished: no fault ends its call, nor stands in the answer of an
-- insert
abbrev pub IsUnfailed : Answer → Type 0
IsUnfailed (Added action (Some fault)) = ⊥
IsUnfailed (Refused fault) = ends_call fault ≡ false
IsUnfailed answer = Unit {0}

-- after this event the session's call has left no split unfinished: no fault ends it, and it isn't given up
abbrev pub LeavesNoneIncomplete : ℕ → Kind → Answer → Type 0
LeavesNoneIncomplete session (MovesCall of Steps) answer = of ≡ session → IsUnfailed answer
LeavesNoneIncomplete session (MovesCall of GivesUp) answer = of ≢ session
LeavesNoneIncomplete session (MovesCall of Takes) answer = Unit {0}
LeavesNoneIncomplete session (BeginsCall of request) answer = Unit {0}
LeavesNoneIncomplete session (MaintainsStore upkeep) answer = Unit {0}

-- ... after each of these
abbrev pub AllLeaveNoneIncomplete : ℕ → List Event → List Answer → Type 0
AllLeaveNoneIncomplete session (event ∷ events) (answer ∷ answers) = LeavesNoneIncomplete session (kind_of event) answer × AllLeaveNoneIncomplete session events answers
AllLeaveNoneIncomplete session events answers = Unit {0}

-- no event of another session appends an action in a run
abbrev pub OthersLogNothing : {S : Type 0} (g : Ghosts S) (start : Entry → Bool) (session : ℕ) (told : List Answer) (events : List Event) (answers : List Answer) (first last : Moment S)
    → IsRun g start told events answers first last → Type 0
OthersLogNothing g start session told [] [] first last run = Unit {0}
OthersLogNothing g start session told (event ∷ events) (answer ∷ answers) first last run =
    ((IsOf session event → ⊥) → run.1.0.history ≡ first.history) × OthersLogNothing g start session (told ++ answer ∷ []) events answers run.1.0 last run.1.2
OthersLogNothing g start session told [] (answer ∷ answers) first last run = ⊥
OthersLogNothing g start session told (event ∷ events) [] first last run = ⊥

-- Over a run in which no other session appends an action, and no call of this one is given up or ended by a
-- fault: if at first only those pages have incomplete splits that the session's insert is to finish, the same
-- holds at last. So no page has an incomplete split if the session runs nothing then.
abbrev pub SplitsAreFinished : {S : Type 0} → Ghosts S → Type 0
SplitsAreFinished {S} g =
    (start : Entry → Bool) (told : List Answer) (events : List Event) (answers : List Answer) (first last : Moment S) (run : IsRun g start told events answers first last) (session : ℕ)
    → OthersLogNothing g start session told events answers first last run → AllLeaveNoneIncomplete session events answers
    → OnlyOwnAreIncomplete (g.state first.store) (slot_of first.slots session) → OnlyOwnAreIncomplete (g.state last.store) (slot_of last.slots session)

-- no call begins in the session by this event
abbrev pub BeginsNone : ℕ → Kind → Answer → Type 0
BeginsNone session (BeginsCall of request) answer = of ≡ session → answer ≢ Begun
BeginsNone session (MovesCall of move) answer = Unit {0}
BeginsNone session (MaintainsStore upkeep) answer = Unit {0}

-- ... nor by any of these
abbrev pub NoneBegins : ℕ → List Event → List Answer → Type 0
NoneBegins session (event ∷ events) (answer ∷ answers) = BeginsNone session (kind_of event) answer × NoneBegins session events answers
NoneBegins session events answers = Unit {0}

-- 1 for a step of the session that goes on, or that tells of entries ready while none was ready before; else
-- 0
abbrev pub spends : ℕ → Kind → Answer → ℕ → ℕ
spends session (MovesCall of Steps) Going ready = if of == session then 1 else 0
spends session (MovesCall of Steps) (Ready count) zero = if of == session then 1 else 0
spends session kind answer ready = 0

-- how many of the session's steps in a run go on, or tell of entries ready after all that were had been taken
abbrev pub steps_spent : {S : Type 0} (g : Ghosts S) (start : Entry → Bool) (session : ℕ) (told : List Answer) (events : List Event) (answers : List Answer) (first last : Moment S)
    → IsRun g start told events answers first last → ℕ
steps_spent g start session told [] answers first last run = 0
steps_spent g start session told (event ∷ events) (answer ∷ answers) first last run =
    spends session (kind_of event) answer (ready_count (slot_of first.slots session)) + steps_spent g start session (told ++ answer ∷ []) events answers run.1.0 last run.1.2
steps_spent g start session told (event ∷ events) [] first last run = 0

-- Take a run in which no action is logged, over a device that keeps its model. Each step of the session's
-- call that goes on is one of those that were left to do for it. So is each that tells of entries ready after
-- all that were ready had been taken. Fewer than 2^42 are left at each moment (`work_is_bounded`).
abbrev pub WorkIsSpent : {S : Type 0} → Ghosts S → Type 0
WorkIsSpent {S} g =
    (start : Entry → Bool) (told : List Answer) (events : List Event) (answers : List Answer) (first last : Moment S) → Fits g start first → (run : IsRun g start told events answers first last)
    → (session : ℕ) → (g.backing last.store).honest ≡ true → last.history ≡ first.history → NoneBegins session events answers
    → steps_spent g start session told events answers first last run + work_in (g.state last.store) (slot_of last.slots session) ≤ work_in (g.state first.store) (slot_of first.slots session)
