-- Beginnings as runs of one event.
use Rattle.std.proofs.Common.{◌≡◌, ℕ, Bool, Option, Some, None, List, [], ◌∷◌, slice_get, refl, sym, subst, arith, inl, inr, zero, suc, true, false, Ok, slice_set, ap, ◌∙◌, unwrap_or}
use Rattle.vacuum.specs.Laws.{NothingIsCounted}
use Rattle.page_delete.proofs.Cleaning.{nothing_cleaned}
use Rattle.page_delete.proofs.Sparing.{nothing_spared}
use Rattle.whole_calls.proofs.Imports.{HalfDead, nodes_of, deleted_in, IsAlone, deleted_alike, asks_bulk_delete, start_number, after_request, ToInsert, ToScan, ToBulk, ToCleanup, Event}
use Rattle.whole_calls.proofs.Imports.{InsertEvent, ScanEvent, BulkEvent, CleanupEvent, fits_after, running_of, slot_found, Entry, State, Ghosts, Page, op_before, set_at, Answer, Begun, Refused}
use Rattle.whole_calls.proofs.Imports.{Op, Request, StoreAndSlots, Moment, snapshot_of, Kind, BeginsCall, kind_of, EventDoes, EventEffect, IsOfSession, AnswersBeginning, MayBegin, slot_of}
use Rattle.whole_calls.proofs.Imports.{SlotRuns, Laws, IsOutcomeOf, CallIsRun, BeginIsRun, Followed, of_bulk_delete, of_cleanup, of_deleted, of_leaves, FollowsFrom, IsCountedAs, BeginsToCount}
use Rattle.whole_calls.proofs.Imports.{begun_of, begin_outcome}
use Rattle.whole_calls.proofs.Composing.{goes_once, goes_told}
use Rattle.whole_calls.proofs.Counting.{alone_on}
use Rattle.whole_calls.proofs.Tellings.{begins_told}

-- the event that begins what is asked for
abbrev pub beginning : ℕ → Request → Event
beginning session (ToInsert e) = InsertEvent session e
beginning session (ToScan range) = ScanEvent session range
beginning session (ToBulk set) = BulkEvent session set
beginning session ToCleanup = CleanupEvent session

pub beginning_is : (session : ℕ) (request : Request) → kind_of (beginning session request) ≡ BeginsCall session request
beginning_is session (ToInsert e) = refl
beginning_is session (ToScan range) = refl
beginning_is session (ToBulk set) = refl
beginning_is session ToCleanup = refl

-- what was answered is what the beginning came to
pub begun_by : (answer : Answer) (answers : List Answer) → AnswersBeginning answer → IsOutcomeOf answers (Some answer) → IsOutcomeOf answers (begin_outcome (begun_of answer))
begun_by Begun answers kind h = h
begun_by (Refused fault) answers kind h = h
begun_by answer answers kind h = absurd kind

-- a vacuum that has just begun has counted nothing, and cleaned nothing
module _ {S : Type 0} (g : Ghosts S) (start : Entry → Bool) (session : ℕ) (request : Request) (answer : Answer) (x y : Moment S)
    (does : EventDoes g start (BeginsCall session request) answer x y) where
  abbrev now : State
  now = g.state y.store

  -- nothing is appended, and nobody else holds a page after it who didn't before
  same : (o : Option (Option Op)) → MayBegin g o session request answer x y → y.history ≡ x.history
  same None s = s.still.history_is
  same (Some (Some op)) s = s.still.history_is
  same (Some None) (inl b) = b.history_is
  same (Some None) (inr s) = s.still.history_is

  alone : (o : Option (Option Op)) → MayBegin g o session request answer x y → IsAlone (g.state x.store) session → IsAlone now session
  alone (Some None) (inl b) calm = alone_on session (g.state x.store) now session session b.others refl refl calm
  alone (Some None) (inr s) calm = subst (λ (st : State). IsAlone st session) (sym s.still.state_is) calm
  alone None s calm = subst (λ (st : State). IsAlone st session) (sym s.still.state_is) calm
  alone (Some (Some op)) s calm = subst (λ (st : State). IsAlone st session) (sym s.still.state_is) calm

  fresh_counts : NothingIsCounted → (what : Followed) (asked : Request) → FollowsFrom what asked (g.state x.store) session → IsCountedAs what y.sets now (Some (op_before session asked))
  fresh_counts nothing of_bulk_delete (ToBulk set) follows = nothing (set_at y.sets set) now session does.also.invariant.order
  fresh_counts nothing of_cleanup ToCleanup follows = nothing_cleaned now session does.also.invariant.order
  fresh_counts nothing (of_deleted was) ToCleanup follows =
      let alike : deleted_in now ≡ deleted_in (g.state x.store) = deleted_alike (g.state x.store) now (does.also.quiet.pages (same (slice_get x.slots session) does.also.happens)) in
      let were : was ≡ deleted_in (g.state x.store) = follows in
      omega (arith, alike, were)
  fresh_counts nothing of_leaves ToCleanup calm = (
    alone (slice_get x.slots session) does.also.happens calm.alone,
    nothing_spared now session does.also.invariant.order
        (λ block dead. calm.none_dead block (subst (λ (ps : List Page). (nodes_of ps block).state ≡ HalfDead) (does.also.quiet.pages (same (slice_get x.slots session) does.also.happens)) dead)),
  )
  fresh_counts nothing what asked follows = absurd follows

  counts_by : NothingIsCounted → (answer ≡ Begun → slot_of y.slots session ≡ Some (op_before session request)) → (what : Followed) → FollowsFrom what request (g.state x.store) session
      → BeginsToCount what y.sets now (slot_of y.slots session) (begun_of answer)
  counts_by nothing fresh what follows = of answer refl
    where
      of : (a : Answer) → answer ≡ a → BeginsToCount what y.sets now (slot_of y.slots session) (begun_of a)
      of Begun is = subst (λ (o : Option Op). IsCountedAs what y.sets now o) (sym (fresh is)) (fresh_counts nothing what request follows)
      of a is = tt

-- the place of a number that was put there
start_set : (xs : List (Option ℕ)) (i n m : ℕ) → unwrap_or (slice_get (slice_set xs i (Some n)) i) None ≡ Some m → unwrap_or (slice_get (slice_set xs i (Some n)) i) None ≡ Some n
start_set [] i n m h = absurd cc
start_set (x ∷ xs) zero n m h = refl
start_set (x ∷ xs) (suc i) n m h = start_set xs i n m h

request_running : (v : Bool) (session : ℕ) (st : State) → (after_request v session st).running ≡ slice_set st.running session (Some st.begun)
request_running true session st = refl
request_running false session st = refl

is_begun : (a : Answer) → begun_of a ≡ Ok tt → a ≡ Begun
is_begun Begun h = refl
is_begun (Refused fault) h = absurd cc
is_begun a h = absurd cc

-- a call that has begun has the count of calls begun before it for its start number
number_of : {S : Type 0} (g : Ghosts S) (start : Entry → Bool) (session : ℕ) (request : Request) (answer : Answer) (x y : Moment S) → EventDoes g start (BeginsCall session request) answer x y
    → (answer ≡ Begun → slot_of y.slots session ≡ Some (op_before session request)) → begun_of answer ≡ Ok tt → start_number (g.state y.store) session ≡ Some (g.state x.store).begun
number_of g start session request answer x y does fresh ok =
    let begun = is_begun answer ok in
    let runs : SlotRuns g start y session (op_before session request) =
    running_of (fits_after does) session (Some (op_before session request)) (slot_found y.slots session (op_before session request) (fresh begun)) in
    let some : start_number (g.state y.store) session ≡ Some runs.runs.started.number =
    subst (λ (s : ℕ). start_number (g.state y.store) s ≡ Some runs.runs.started.number) runs.is.session_is runs.runs.started.is in
    let is : (g.state y.store).running ≡ slice_set (g.state x.store).running session (Some (g.state x.store).begun) =
    ap (λ (st : State). st.running) (does.also.always.numbered begun) ∙ request_running (asks_bulk_delete request) session (g.state x.store) in
    let here : start_number (g.state y.store) session ≡ unwrap_or (slice_get (slice_set (g.state x.store).running session (Some (g.state x.store).begun)) session) None =
    ap (λ (l : List (Option ℕ)). unwrap_or (slice_get l session) None) is in
    here ∙ start_set (g.state x.store).running session (g.state x.store).begun runs.runs.started.number (sym here ∙ some)

-- the event that begins what is asked for, and what it came to
pub goes_begun : {S : Type 0} {g : Ghosts S} (laws : Laws g) (session : ℕ) (request : Request) {answer : Answer} {a b : StoreAndSlots S} → NothingIsCounted
    → EventEffect g (BeginsCall session request) answer a b → CallIsRun g session (BeginIsRun g session request (begun_of answer)) (begin_outcome (begun_of answer)) a b
goes_begun {S} {g} laws session request {answer} {a} {b} nothing makes =
    let is = beginning_is session request in
    goes_told _
    (goes_once laws {Tells = BeginIsRun g session request (begun_of answer)} (beginning session request) (subst (λ (x : Kind). IsOfSession session x) (sym is) refl)
    (subst (λ (x : Kind). EventEffect g x answer a b) (sym is) makes)
    (λ start h hc k kc honest fits does.
    by start (snapshot_of a h hc) (snapshot_of b k kc) makes.always.fresh (subst (λ (x : Kind). EventDoes g start x answer (snapshot_of a h hc) (snapshot_of b k kc)) is does)))
    (λ start h hc k kc given fits came told. (begun_by answer given makes.always.answers came, told))
  where
    by : (start : Entry → Bool) (x y : Moment S) → (answer ≡ Begun → slot_of y.slots session ≡ Some (op_before session request))
        → EventDoes g start (BeginsCall session request) answer x y → BeginIsRun g session request (begun_of answer) x y
    by start x y fresh does =
        record {
          told = begins_told g start session request answer x y does;
          number = number_of g start session request answer x y does fresh;
          counts = counts_by g start session request answer x y does nothing fresh;
        }
