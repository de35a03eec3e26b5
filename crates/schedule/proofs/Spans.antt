-- Laws over whole runs.
use Rattle.std.proofs.Common.{◌≡◌, ◌≢◌, ℕ, zero, suc, ◌+◌, ◌<◌, ◌≤◌, ◌==◌, if◌then◌else◌, Bool, true, false, Option, Some, None, List, [], ◌∷◌, ◌++◌, length, slice_get, refl, sym, ap, subst, arith, inl, inr, length-append, ◌∙◌}
use Rattle.tree_shape.proofs.Order.{upto_self, upto_trans}
use Rattle.schedule.proofs.Imports.{cases_eq, eq-eqb, eqb-true, append-nil, Action, Bound, Entry, Blocked, State, Ghosts, IsNoHigher, HasLow, root_level, IsDueIn, DueCountsDown, IsServable}
use Rattle.schedule.proofs.Imports.{steps_for, slot_of, Answer, Begun, Going, Added, Ready, Done, Finished, Gave, Ended, Forced, Flushed, Checkpointed, Refused, Op, Request, ToInsert, ToScan}
use Rattle.schedule.proofs.Imports.{ToBulk, ToCleanup, EventDoes, IsOfSession, Stays, MayBegin, StaysAsDue, StepIsFollowed, CallIsFollowed, session_at, IsNotDeleted, LowsStay, IsUnanswered}
use Rattle.schedule.proofs.Imports.{CallIsUnanswered, CallIsUnansweredAfterAll, goes_on, steps_gone, IsStillDue, CallsComeInTime, BeforeEach, Steps, Takes, GivesUp, Kind, BeginsCall, MovesCall}
use Rattle.schedule.proofs.Imports.{MaintainsStore, kind_of, Moment, IsRun, Event}
use Rattle.schedule.proofs.Fitting.{goes_does}
use Rattle.schedule.proofs.Standing.{slot_found}

-- lows are ordered
no_higher_self : (low : Option Bound) → IsNoHigher low low
no_higher_self None = tt
no_higher_self (Some b) = upto_self b

no_higher_trans : (a b c : Option Bound) → IsNoHigher a b → IsNoHigher b c → IsNoHigher a c
no_higher_trans None b c h k = tt
no_higher_trans (Some a) None c h k = absurd h
no_higher_trans (Some a) (Some b) None h k = absurd k
no_higher_trans (Some a) (Some b) (Some c) h k = upto_trans a b c h k

-- what holds before each event of a run and at its end holds at its beginning
holds_first : {S : Type 0} (g : Ghosts S) (start : Entry → Bool) (Holds : Moment S → Type 0) (told : List Answer) (events : List Event) (answers : List Answer) (first last : Moment S)
    → (run : IsRun g start told events answers first last) → BeforeEach g start Holds told events answers first last run → Holds last → Holds first
holds_first g start Holds told [] [] first last run each there = subst Holds (sym run) there
holds_first g start Holds told (event ∷ events) (answer ∷ answers) first last run each there = each.0
holds_first g start Holds told [] (answer ∷ answers) first last run each there = absurd run
holds_first g start Holds told (event ∷ events) [] first last run each there = absurd run

pub lows_stay : {S : Type 0} (g : Ghosts S) → LowsStay g
lows_stay {S} g start told [] [] first last run level block low each there has =
    record { low = low; has = subst (λ (m : Moment S). HasLow (g.state m.store).pages level block low) run has; no_higher = no_higher_self low }
lows_stay {S} g start told (event ∷ events) (answer ∷ answers) first last run level block low each there has =
    let kept = holds_first g start (IsNotDeleted g block) (told ++ answer ∷ []) events answers run.1.0 last run.1.2 each.1 there in
    let moved = run.1.1.also.lows level block low has kept in
    let rest = lows_stay g start (told ++ answer ∷ []) events answers run.1.0 last run.1.2 level block moved.low each.1 there moved.has in
    record { low = rest.low; has = rest.has; no_higher = no_higher_trans rest.low moved.low low rest.no_higher moved.no_higher }
lows_stay g start told [] (answer ∷ answers) first last run level block low each there has = absurd run
lows_stay g start told (event ∷ events) [] first last run level block low each there has = absurd run

-- a history only grows over a run
pub history_grows : {S : Type 0} (g : Ghosts S) (start : Entry → Bool) (told : List Answer) (events : List Event) (answers : List Answer) (first last : Moment S)
    → IsRun g start told events answers first last → length first.history ≤ length last.history
history_grows {S} g start told [] [] first last run = subst (λ (m : Moment S). length first.history ≤ length m.history) run (omega arith)
history_grows g start told (event ∷ events) (answer ∷ answers) first last run =
    let grown = run.1.1.also.grows in
    let longer : length run.1.0.history ≡ length first.history + length grown.acts = ap length grown.is ∙ length-append first.history grown.acts in
    let rest : length run.1.0.history ≤ length last.history = history_grows g start (told ++ answer ∷ []) events answers run.1.0 last run.1.2 in
    omega arith
history_grows g start told [] (answer ∷ answers) first last run = absurd run
history_grows g start told (event ∷ events) [] first last run = absurd run

-- a list that is no longer with more after it is as it was
pub none_more : (acts history : List Action) → length (history ++ acts) ≤ length history → history ++ acts ≡ history
none_more [] history le = append-nil history
none_more (a ∷ acts) history le = absurd (let long : length (history ++ a ∷ acts) ≡ length history + suc (length acts) = length-append history (a ∷ acts) in omega arith)

-- if nothing is logged over a run, nothing is by its first event
pub first_quiet : {S : Type 0} (g : Ghosts S) (start : Entry → Bool) (told : List Answer) (event : Event) (events : List Event) (answer : Answer) (answers : List Answer) (first last : Moment S)
    → (run : IsRun g start told (event ∷ events) (answer ∷ answers) first last) → last.history ≡ first.history → run.1.0.history ≡ first.history
first_quiet g start told event events answer answers first last run same =
    let grown = run.1.1.also.grows in
    let rest : length run.1.0.history ≤ length last.history = history_grows g start (told ++ answer ∷ []) events answers run.1.0 last run.1.2 in
    let all : length last.history ≡ length first.history = ap length same in
    let long : length run.1.0.history ≡ length (first.history ++ grown.acts) = ap length grown.is in
    grown.is ∙ none_more grown.acts first.history (omega arith)

-- a slot that a call is due in runs it
due_runs : (st : State) (slot : Option Op) (steps : ℕ) → IsDueIn st slot steps → (op : Op) × (slot ≡ Some op)
due_runs st None steps due = absurd due
due_runs st (Some op) steps due = (op, refl)

-- a step of another session isn't one of this
pub none_gone : (session of : ℕ) (answer : Answer) → of ≢ session → goes_on session (MovesCall of Steps) answer ≡ 0
none_gone session of Begun apart = refl
none_gone session of Going apart = by (of == session) refl
  where
    by : (b : Bool) → of == session ≡ b → goes_on session (MovesCall of Steps) Going ≡ 0
    by true is = absurd (apart (eqb-true of session is))
    by false is = rw is refl
none_gone session of (Added action unfinished) apart = refl
none_gone session of (Ready count) apart = refl
none_gone session of Done apart = refl
none_gone session of (Finished stats) apart = refl
none_gone session of (Gave entry) apart = refl
none_gone session of Ended apart = refl
none_gone session of (Forced count) apart = refl
none_gone session of (Flushed block) apart = refl
none_gone session of (Checkpointed count) apart = refl
none_gone session of (Refused fault) apart = refl

-- one event leaves a call due that has no answer yet
module _ {S : Type 0} (g : Ghosts S) (start : Entry → Bool) (session : ℕ) (old new : Moment S) (quiet : new.history ≡ old.history) (steps : ℕ)
    (due : IsDueIn (g.state old.store) (slot_of old.slots session) (suc steps)) where
  abbrev Due : ℕ → Type 0
  Due gone = (left : ℕ) × (gone + suc left ≡ suc steps) × IsDueIn (g.state new.store) (slot_of new.slots session) (suc left)

  as_before : IsDueIn (g.state new.store) (slot_of new.slots session) (suc steps) → Due 0
  as_before h = (steps, omega arith, h)

  -- an event of no session, or of another one
  elsewhere : (kind : Kind) (answer : Answer) → EventDoes g start kind answer old new → (of : ℕ) → IsOfSession of kind → session ≢ of
      → IsDueIn (g.state new.store) (slot_of new.slots session) (suc steps)
  elsewhere kind answer does of is apart = does.also.quiet.due quiet of session is apart (suc steps) due

  -- its own step, which goes on or is blocked
  went_on : (n : ℕ) → 0 < n → IsDueIn (g.state new.store) (slot_of new.slots session) n → (left : ℕ) × (1 + suc left ≡ suc n) × IsDueIn (g.state new.store) (slot_of new.slots session) (suc left)
  went_on zero some h = absurd (omega arith)
  went_on (suc n) some h = (n, omega arith, h)

  own_step : (of : ℕ) (answer : Answer) → of ≡ session
      → DueCountsDown (g.state old.store) (g.state new.store) (slot_of old.slots session) (slot_of new.slots session) steps answer → IsUnanswered answer
      → Due (goes_on session (MovesCall of Steps) answer)
  own_step of Going is counts waits =
      subst (λ (b : Bool). Due (if b then 1 else 0)) (sym (eq-eqb of session is)) (went_on steps counts.0 counts.1.due)
  own_step of (Refused (Blocked block)) is counts waits = (steps, omega arith, counts.due)
  own_step of answer is counts waits = absurd waits

  event_due : (kind : Kind) (answer : Answer) → EventDoes g start kind answer old new → CallIsUnanswered session kind answer → Due (goes_on session kind answer)
  event_due (MaintainsStore upkeep) answer does waits =
      as_before (elsewhere (MaintainsStore upkeep) answer does (suc session) tt (λ e. absurd (let x : session ≡ suc session = e in omega arith)))
  event_due (BeginsCall of request) answer does waits = elim (cases_eq of session) [
    | inl e ↦ (
        let runs = due_runs (g.state old.store) (slot_of old.slots session) (suc steps) due in
        let found : slice_get old.slots of ≡ Some (Some runs.0) = ap (λ (s : ℕ). slice_get old.slots s) e ∙ slot_found old.slots session runs.0 runs.1 in
        let stays : Stays g answer old new = subst (λ (o : Option (Option Op)). MayBegin g o of request answer old new) found does.also.happens in
        let still = does.also.always.refused stays.fault stays.refused in
        as_before (subst (λ (slots : List (Option Op)). IsDueIn (g.state new.store) (slot_of slots session) (suc steps)) (sym still.slots_is)
        (subst (λ (st : State). IsDueIn st (slot_of old.slots session) (suc steps)) (sym still.state_is) due)))
    | inr n ↦ as_before (elsewhere (BeginsCall of request) answer does of refl (λ e. n (sym e)))
  ]
  event_due (MovesCall of Takes) answer does waits = elim (cases_eq of session) [
    | inl e ↦ as_before (subst (λ (s : ℕ). StaysAsDue (g.state old.store) (g.state new.store) (slot_of old.slots s) (slot_of new.slots s)) e does.also.followed (suc steps) due)
    | inr n ↦ as_before (elsewhere (MovesCall of Takes) answer does of refl (λ e. n (sym e)))
  ]
  event_due (MovesCall of GivesUp) answer does apart = as_before (elsewhere (MovesCall of GivesUp) answer does of refl (λ e. apart (sym e)))
  event_due (MovesCall of Steps) answer does waits = elim (cases_eq of session) [
    | inl e ↦ (
        let followed = subst (λ (s : ℕ). StepIsFollowed old.sets (g.state old.store) (g.state new.store) (slot_of old.slots s) (slot_of new.slots s) answer) e does.also.followed in
        own_step of answer e (followed.fitted.due steps due) (waits e))
    | inr n ↦ (steps, (let none : goes_on session (MovesCall of Steps) answer ≡ 0 = none_gone session of answer n in omega arith), elsewhere (MovesCall of Steps) answer does of refl (λ e. n (sym e)))
  ]

-- ... and so do all events of a run
due_over : {S : Type 0} (g : Ghosts S) (start : Entry → Bool) (session : ℕ) (told : List Answer) (events : List Event) (answers : List Answer) (first last : Moment S)
    → IsRun g start told events answers first last → last.history ≡ first.history → CallIsUnansweredAfterAll session events answers → (steps : ℕ)
    → IsDueIn (g.state first.store) (slot_of first.slots session) (suc steps)
    → (left : ℕ) × (steps_gone session events answers + suc left ≡ suc steps) × IsDueIn (g.state last.store) (slot_of last.slots session) (suc left)
due_over {S} g start session told [] [] first last run same waits steps due =
    (steps, omega arith, subst (λ (m : Moment S). IsDueIn (g.state m.store) (slot_of m.slots session) (suc steps)) run due)
due_over g start session told (event ∷ events) (answer ∷ answers) first last run same waits steps due =
    let quiet = first_quiet g start told event events answer answers first last run same in
    let one = event_due g start session first run.1.0 quiet steps due (kind_of event) answer (goes_does run.1.1) waits.0 in
    let rest = due_over g start session (told ++ answer ∷ []) events answers run.1.0 last run.1.2 (same ∙ sym quiet) waits.1 one.0 one.2 in
    let here : goes_on session (kind_of event) answer + suc one.0 ≡ suc steps = one.1 in
    let counted : steps_gone session events answers + suc rest.0 ≡ suc one.0 = rest.1 in
    (rest.0, omega arith, rest.2)
due_over g start session told [] (answer ∷ answers) first last run same waits steps due = absurd run
due_over g start session told (event ∷ events) [] first last run same waits steps due = absurd run

pub calls_come_in_time : {S : Type 0} (g : Ghosts S) → CallsComeInTime g
calls_come_in_time {S} g start told event events answers first last session request run is whole servable same waits = by request begun servable
  where
    quiet : run.1.0.history ≡ first.history
    quiet = first_quiet g start told event events Begun answers first last run same

    begun : IsServable (g.state first.store) request → IsDueIn (g.state run.1.0.store) (slot_of run.1.0.slots session) (root_level (g.state first.store).pages + steps_for request)
    begun may =
        let followed = subst
        (λ (k : Kind). CallIsFollowed k first.sets Begun (g.state first.store) (g.state run.1.0.store) (slot_of first.slots (session_at k))
        (slot_of run.1.0.slots (session_at k))) is run.1.1.also.followed in
        (followed refl).due whole may

    over : (steps : ℕ) → IsDueIn (g.state run.1.0.store) (slot_of run.1.0.slots session) (suc steps) → IsStillDue g session (suc steps) (steps_gone session events answers) last
    over steps due =
        let all = due_over g start session (told ++ Begun ∷ []) events answers run.1.0 last run.1.2 (same ∙ sym quiet) waits steps due in
        record { left = all.0; due = all.2; sum = all.1 }

    more : (steps before : ℕ) → before ≡ suc steps → IsDueIn (g.state run.1.0.store) (slot_of run.1.0.slots session) before → IsStillDue g session before (steps_gone session events answers) last
    more steps before is due = subst (λ (n : ℕ). IsStillDue g session n (steps_gone session events answers) last) (sym is)
        (over steps (subst (λ (n : ℕ). IsDueIn (g.state run.1.0.store) (slot_of run.1.0.slots session) n) is due))

    by : (r : Request) →
        (IsServable (g.state first.store) r
        → IsDueIn (g.state run.1.0.store) (slot_of run.1.0.slots session) (root_level (g.state first.store).pages + steps_for r)) → IsServable (g.state first.store) r
        → IsStillDue g session (root_level (g.state first.store).pages + steps_for r) (steps_gone session events answers) last
    by (ToInsert e) due may = more (root_level (g.state first.store).pages + 2) (root_level (g.state first.store).pages + 3) (omega arith) (due may)
    by (ToScan range) due may = more (root_level (g.state first.store).pages + 1) (root_level (g.state first.store).pages + 2) (omega arith) (due may)
    by (ToBulk set) due may = absurd may
    by ToCleanup due may = absurd may
