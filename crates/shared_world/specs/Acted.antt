-- What was done for each call that is over and for each that runs, whatever the pages are: events of its own,
-- from the world as it was handed in.
use Rattle.std.specs.Prelude.{◌≡◌, ◌⊎◌, ℕ, suc, ◌<◌, false, true, Option, Some, None, List, [], ◌∷◌, ◌++◌, length, slice_get}
use Rattle.std.specs.List.{AllByRecursion}
use Rattle.index_model.specs.Row.{Row}
use Rattle.index_model.specs.declared.entry.Entry.{Entry}
use Rattle.index_model.specs.declared.fault.Fault.{Fault}
use Rattle.page_action.specs.declared.page_store.PageStore.{Ghosts}
use Rattle.session_calls.specs.Ops.{is_last}
use Rattle.session_calls.specs.Sessions.{ready_count, slot_add}
use Rattle.session_calls.specs.Slots.{slot_of, has_call}
use Rattle.session_calls.specs.declared.answer.Answer.{Answer}
use Rattle.session_calls.specs.declared.answer.Answer.TheVariants.{Begun, Ended, Checkpointed, Refused}
use Rattle.schedule.specs.TheoremKinds.{kind_of}
use Rattle.schedule.specs.TheoremMoments.{StoreAndSlots}
use Rattle.schedule.specs.declared.event.Event.{Event}
use Rattle.schedule.specs.declared.event.Event.TheVariants.{Step, Next, End, Checkpoint}
use Rattle.whole_calls.specs.Made.{HasItsRoom}
use Rattle.whole_calls.specs.OneStep.{cut_short}
use Rattle.session_seats.specs.declared.call.CompletedCall.{CompletedCall}
use Rattle.session_seats.specs.declared.call.PendingCall.{PendingCall}
use Rattle.session_seats.specs.declared.job.Job.{Job}
use Rattle.session_seats.specs.declared.job.Job.TheVariants.{Scan}
use Rattle.shared_world.specs.Handed.{Handed, IsAsHanded}
use Rattle.shared_world.specs.Jobs.{event_of, IsWithinRoom}
use Rattle.shared_world.specs.Rows.{rows_in, set_asked}
use Rattle.shared_world.specs.Transitions.{LockMoment, Transition, IsPath, Owner, OfRecord, OfSession, owned_by, gifts_of}

-- the call at this place of the log is over after it; so many actions there are then
pub record MakesRecord {S : Type 0} (g : Ghosts S) (place to : ℕ) (t : Transition S) : Type 0 where
  pub place_is : t.before.recorded ≡ place
  pub next_is : t.after.recorded ≡ suc place
  pub to_is : (g.state t.after.here.store).acts ≡ to

-- the event that begins the job, or does it whole, if its session runs nothing; it is to remove the rows that
-- it names now; so many calls were over and so many actions there were before
pub record IsBeginning {S : Type 0} (g : Ghosts S) (session : ℕ) (job : Job) (rows : List Row) (seen from : ℕ) (answer : Answer) (t : Transition S) : Type 0 where
  pub event_is : t.event ≡ event_of session job
  pub answer_is : t.answer ≡ answer
  pub rows_are : rows_in (set_asked t.before.here.sets job) ≡ rows
  pub seen_is : t.before.recorded ≡ seen
  pub from_is : (g.state t.before.here.store).acts ≡ from
  pub free : has_call t.before.here.slots session ≡ false

-- before a step the log has room for five images, or its whole room; a checkpoint is made only if it hasn't
abbrev pub HasRoomForStep : {S : Type 0} → Ghosts S → Transition S → Type 0
HasRoomForStep g t = HasItsRoom 5 (kind_of t.event) (g.state t.before.here.store).format (g.backing t.before.here.store)

-- an event that leaves a session's call running: a step, or asking for the next entry, whose answer isn't the
-- last; or a checkpoint that is made before a step
abbrev pub EventKeepsCall : ℕ → Event → Answer → Type 0
EventKeepsCall session (Step of) answer = (of ≡ session) × (is_last answer ≡ false)
EventKeepsCall session (Next of) answer = (of ≡ session) × (is_last answer ≡ false)
EventKeepsCall session Checkpoint (Checkpointed count) = Unit {0}
EventKeepsCall session event answer = ⊥

-- ... and ends no other
pub record KeepsRunning {S : Type 0} (g : Ghosts S) (session : ℕ) (t : Transition S) : Type 0 where
  pub goes : EventKeepsCall session t.event t.answer
  pub room : HasRoomForStep g t
  pub unrecorded : t.after.recorded ≡ t.before.recorded

-- what was done for a call that runs: it began, each event since has left it running, and these entries
-- were given
pub record AreOfRunning {S : Type 0} (g : Ghosts S) (session : ℕ) (job : Job) (rows : List Row) (seen from : ℕ) (given : List Entry) (ts : List (Transition S)) : Type 0 where
  pub first : Transition S
  pub more : List (Transition S)
  pub are : ts ≡ first ∷ more
  pub begun : IsBeginning g session job rows seen from Begun first
  pub unrecorded : first.after.recorded ≡ first.before.recorded
  pub on : AllByRecursion (KeepsRunning g session) more
  pub given_is : given ≡ gifts_of more

-- the last step of a call: the one that gave its last answer
pub record IsLastStep {S : Type 0} (g : Ghosts S) (place : ℕ) (r : CompletedCall) (t : Transition S) : Type 0 where
  pub event_is : t.event ≡ Step r.session
  pub answer_is : t.answer ≡ r.answer
  pub last : is_last r.answer ≡ true
  pub room : HasRoomForStep g t
  pub makes : MakesRecord g place r.to t

-- A call that has given these may be left, with so many entries ready and this Add. A scan: its room isn't
-- full, or it has one entry more ready. Any other: it has no Add.
abbrev pub MayBeLeft : Job → List Entry → ℕ → Option ℕ → Type 0
MayBeLeft (Scan range room) given ready added = (length given < room) ⊎ (0 < ready)
MayBeLeft job given ready added = added ≡ None

-- a call is left by its session
pub record IsLeftOff {S : Type 0} (g : Ghosts S) (place : ℕ) (r : CompletedCall) (t : Transition S) : Type 0 where
  pub event_is : t.event ≡ End r.session
  pub answer_is : t.answer ≡ Ended
  pub told : r.answer ≡ Ended
  pub may : MayBeLeft r.asked r.given (ready_count (slot_of t.before.here.slots r.session)) (slot_add (slot_of t.before.here.slots r.session))
  pub makes : MakesRecord g place r.to t

-- a checkpoint before a step is refused with a fault, and the call is given up for that
pub record IsGivenUp {S : Type 0} (g : Ghosts S) (place : ℕ) (r : CompletedCall) (c t : Transition S) : Type 0 where
  pub fault : Fault
  pub checkpoint : c.event ≡ Checkpoint
  pub refused : c.answer ≡ Refused fault
  pub room : HasRoomForStep g c
  pub unrecorded : c.after.recorded ≡ c.before.recorded
  pub event_is : t.event ≡ End r.session
  pub told : r.answer ≡ cut_short (slot_add (slot_of c.before.here.slots r.session)) fault
  pub makes : MakesRecord g place r.to t

-- what ended a call
abbrev pub EndsCall : {S : Type 0} → Ghosts S → ℕ → CompletedCall → List (Transition S) → Type 0
EndsCall g place r (t ∷ []) = IsLastStep g place r t ⊎ IsLeftOff g place r t
EndsCall g place r (c ∷ t ∷ []) = IsGivenUp g place r c t
EndsCall g place r ts = ⊥

-- what was done for a call by one event: a commit, a checkpoint, or a beginning that was refused
pub record IsDoneAtOnce {S : Type 0} (g : Ghosts S) (place : ℕ) (r : CompletedCall) (ts : List (Transition S)) : Type 0 where
  pub one : Transition S
  pub are : ts ≡ one ∷ []
  pub begins : IsBeginning g r.session r.asked r.rows r.seen r.from r.answer one
  pub never : r.answer ≡ Begun → ⊥
  pub none : r.given ≡ []
  pub makes : MakesRecord g place r.to one

-- ... by the events of a call, which ran and has ended
pub record IsDoneByCall {S : Type 0} (g : Ghosts S) (place : ℕ) (r : CompletedCall) (ts : List (Transition S)) : Type 0 where
  pub ran : List (Transition S)
  pub last : List (Transition S)
  pub are : ts ≡ ran ++ last
  pub runs : AreOfRunning g r.session r.asked r.rows r.seen r.from r.given ran
  pub ends : EndsCall g place r last

-- these were done for the call at this place of the log, and nothing else; it gave no more than its room
-- holds
pub record AreOfRecord {S : Type 0} (g : Ghosts S) (place : ℕ) (r : CompletedCall) (ts : List (Transition S)) : Type 0 where
  pub most : IsWithinRoom r.asked r.given
  pub done : IsDoneAtOnce g place r ts ⊎ IsDoneByCall g place r ts

-- ... for the call that a session runs
pub record AreOfPending {S : Type 0} (g : Ghosts S) (session : ℕ) (p : PendingCall) (ts : List (Transition S)) : Type 0 where
  pub most : IsWithinRoom p.asked p.given
  pub runs : AreOfRunning g session p.asked p.rows p.seen p.from p.given ts

-- it is a call that is over, or one that runs
abbrev pub IsKnown : List (Option PendingCall) → List CompletedCall → Owner → Type 0
IsKnown pending log (OfRecord place) = place < length log
IsKnown pending log (OfSession session) = (p : PendingCall) × (slice_get pending session ≡ Some (Some p))

-- Transitions lead from the world as it was handed in to what it is now. Each belongs to a call that is over
-- or to one that runs. Those of one that is over are what it was asked, done, with its answer, its given
-- entries and its interval. Those of one that runs are the call so far.
pub record HasActed {S : Type 0} (g : Ghosts S) (handed : Handed) (now : StoreAndSlots S) (pending : List (Option PendingCall)) (log : List CompletedCall) : Type 0 where
  pub first : LockMoment S
  pub transitions : List (Transition S)
  pub owners : List Owner
  pub handed_in : IsAsHanded g handed first.here
  pub unrecorded : first.recorded ≡ 0
  pub path : IsPath g handed.spare first transitions (record { here = now; recorded = length log })
  pub long : length owners ≡ length transitions
  pub known : AllByRecursion (IsKnown pending log) owners
  pub recorded : (place : ℕ) (r : CompletedCall) → slice_get log place ≡ Some r → AreOfRecord g place r (owned_by (OfRecord place) owners transitions)
  pub running : (session : ℕ) (p : PendingCall) → slice_get pending session ≡ Some (Some p) → AreOfPending g session p (owned_by (OfSession session) owners transitions)
