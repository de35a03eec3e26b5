-- Over a run in which no action is logged, the steps of a call are of those that were left to do for it.
use Rattle.std.proofs.Common.{◌≡◌, ◌≢◌, ◌==◌, ℕ, zero, suc, ◌+◌, ◌<◌, ◌≤◌, if◌then◌else◌, Bool, true, false, Option, Some, None, List, [], ◌∷◌, ◌++◌, length, refl, sym, ap, subst, arith, inl, inr, ◌∙◌}
use Rattle.schedule.proofs.Imports.{unwrap_or, cases_eq, eq-eqb, eqb-true, Entry, Format, State, Ghosts, Page, work_in, work_left, NothingIsReady, OwesLess, StepHasLessLeft, GivesLess}
use Rattle.schedule.proofs.Imports.{ready_count, ready_of, slot_of, Answer, Begun, Going, Added, Ready, Done, Finished, Gave, Ended, Forced, Flushed, Checkpointed, Refused, Op, Insert, Scan, Bulk}
use Rattle.schedule.proofs.Imports.{Cleanup, Request, EventDoes, IsOfSession, AnswersBeginning, spends, BeginsNone, WorkIsSpent, Steps, Takes, GivesUp, Kind, BeginsCall, MovesCall, MaintainsStore}
use Rattle.schedule.proofs.Imports.{kind_of, Moment, Fits, IsRun, Event}
use Rattle.schedule.proofs.Fitting.{goes_does, fits_after}
use Rattle.schedule.proofs.Spans.{first_quiet}

-- the same call has as much left to do
same_work : (before after : Option Op) (most : ℕ) (pages : List Page) → after ≡ before → work_left most pages after ≤ work_left most pages before
same_work before after most pages is = subst (λ (o : Option Op). work_left most pages o ≤ work_left most pages before) (sym is) (omega arith)

-- an entry that is given leaves less
given_work : (before after : Option Op) (answer : Answer) → GivesLess before after answer → (most : ℕ) (pages : List Page) → work_left most pages after ≤ work_left most pages before
given_work before after (Gave (Some e)) h most pages = (let less : work_left most pages after < work_left most pages before = h most pages in omega arith)
given_work before after Begun h most pages = same_work before after most pages h.0
given_work before after Going h most pages = same_work before after most pages h.0
given_work before after (Added action unfinished) h most pages = same_work before after most pages h.0
given_work before after (Ready count) h most pages = same_work before after most pages h.0
given_work before after Done h most pages = same_work before after most pages h.0
given_work before after (Finished stats) h most pages = same_work before after most pages h.0
given_work before after Ended h most pages = same_work before after most pages h.0
given_work before after (Forced count) h most pages = same_work before after most pages h.0
given_work before after (Flushed block) h most pages = same_work before after most pages h.0
given_work before after (Checkpointed count) h most pages = same_work before after most pages h.0
given_work before after (Refused fault) h most pages = same_work before after most pages h.0
given_work before after (Gave None) h most pages = same_work before after most pages h.0

-- if no act is done each step that goes on owes to leave less
owes : (before : Option Op) (old new : State) → new.acts ≡ old.acts → OwesLess before old new
owes None old new same = same
owes (Some (Insert op)) old new same = same
owes (Some (Scan op)) old new same = same
owes (Some (Bulk set op)) old new same = tt
owes (Some (Cleanup op)) old new same = tt

-- a step of another session spends nothing of this one's
none_spent : (session of : ℕ) (answer : Answer) (ready : ℕ) → of ≢ session → spends session (MovesCall of Steps) answer ready ≡ 0
none_spent session of Going ready apart = by (of == session) refl
  where
    by : (b : Bool) → of == session ≡ b → spends session (MovesCall of Steps) Going ready ≡ 0
    by true is = absurd (apart (eqb-true of session is))
    by false is = rw is refl
none_spent session of (Ready count) zero apart = by (of == session) refl
  where
    by : (b : Bool) → of == session ≡ b → spends session (MovesCall of Steps) (Ready count) 0 ≡ 0
    by true is = absurd (apart (eqb-true of session is))
    by false is = rw is refl
none_spent session of answer ready apart = refl

module _ {S : Type 0} (g : Ghosts S) (start : Entry → Bool) (session : ℕ) (old new : Moment S) (fits : Fits g start old)
    (quiet : new.history ≡ old.history) (honest : (g.backing new.store).honest ≡ true) where
  abbrev before : Option Op
  before = slot_of old.slots session

  abbrev after : Option Op
  after = slot_of new.slots session

  abbrev was : ℕ
  was = work_in (g.state old.store) before

  abbrev ready : ℕ
  ready = ready_count before

  abbrev left : ℕ
  left = work_in (g.state new.store) after

  -- pages and limits are as they were
  there : (kind : Kind) (answer : Answer) → EventDoes g start kind answer old new → (slot : Option Op) → work_in (g.state new.store) slot ≡ work_in (g.state old.store) slot
  there kind answer does slot =
      ap (λ (pages : List Page). work_left (g.state new.store).format.pages pages slot) (does.also.quiet.pages quiet)
      ∙ ap (λ (most : ℕ). work_left most (g.state old.store).pages slot) (ap (λ (l : Format). l.pages) does.also.quiet.format)

  same_acts : (kind : Kind) (answer : Answer) → EventDoes g start kind answer old new → (g.state new.store).acts ≡ (g.state old.store).acts
  same_acts kind answer does = (fits_after does).explains.count ∙ ap length quiet ∙ sym fits.explains.count

  -- the slot is as it was
  kept : (kind : Kind) (answer : Answer) → EventDoes g start kind answer old new → after ≡ before → left ≤ was
  kept kind answer does is =
      let same : left ≡ was = there kind answer does after ∙ ap (λ (o : Option Op). work_in (g.state old.store) o) is in
      omega (arith, same)

  elsewhere : (kind : Kind) (answer : Answer) → EventDoes g start kind answer old new → (of : ℕ) → IsOfSession of kind → session ≢ of → left ≤ was
  elsewhere kind answer does of is apart = kept kind answer does (ap (λ (o : Option (Option Op)). unwrap_or o None) (does.also.always.others of is session apart))

  -- if as many entries are ready as none, all were taken
  drained : (slot : Option Op) → ready_count slot ≡ 0 → NothingIsReady slot
  drained None h = tt
  drained (Some op) h = empty (ready_of op) h
    where
      empty : (l : List Entry) → length l ≡ 0 → l ≡ []
      empty [] h = refl
      empty (e ∷ l) h = absurd (omega (arith, h))

  -- its own step
  own_step : (answer : Answer) → StepHasLessLeft (g.state old.store) (g.state new.store) before after answer → OwesLess before (g.state old.store) (g.state new.store) → left ≤ was
      → spends session (MovesCall session Steps) answer ready + left ≤ was
  own_step Going less owed most =
      (let one : spends session (MovesCall session Steps) Going ready ≡ 1 = ap (λ (b : Bool). if b then (let n : ℕ = 1 in n) else 0) (eq-eqb session session refl) in
      let fewer : left < was = less owed in
      omega arith)
  own_step Begun less owed most = omega (arith, most)
  own_step (Added action unfinished) less owed most = omega (arith, most)
  own_step (Ready count) less owed most = by ready refl
    where
      by : (n : ℕ) → ready ≡ n → spends session (MovesCall session Steps) (Ready count) n + left ≤ was
      by zero is =
          (let one : spends session (MovesCall session Steps) (Ready count) 0 ≡ 1 = ap (λ (b : Bool). if b then (let n : ℕ = 1 in n) else 0) (eq-eqb session session refl) in
          let fewer : left < was = less (drained before is) in
          omega arith)
      by (suc n) is = omega (arith, most)
  own_step Done less owed most = omega (arith, most)
  own_step (Finished stats) less owed most = omega (arith, most)
  own_step (Gave entry) less owed most = omega (arith, most)
  own_step Ended less owed most = omega (arith, most)
  own_step (Forced count) less owed most = omega (arith, most)
  own_step (Flushed block) less owed most = omega (arith, most)
  own_step (Checkpointed count) less owed most = omega (arith, most)
  own_step (Refused fault) less owed most = omega (arith, most)

  -- its own beginning, which is refused
  begins : (request : Request) (answer : Answer) → EventDoes g start (BeginsCall session request) answer old new → answer ≢ Begun → (a : Answer) → answer ≡ a → AnswersBeginning a → left ≤ was
  begins request answer does none Begun is may = absurd (none is)
  begins request answer does none (Refused fault) is may =
      kept (BeginsCall session request) answer does (ap (λ (slots : List (Option Op)). slot_of slots session) (does.also.always.refused fault is).slots_is)
  begins request answer does none a is may = absurd may

  event_spends : (kind : Kind) (answer : Answer) → EventDoes g start kind answer old new → BeginsNone session kind answer → spends session kind answer ready + left ≤ was
  event_spends (MaintainsStore upkeep) answer does none =
      (let most = elsewhere (MaintainsStore upkeep) answer does (suc session) tt (λ e. absurd (let x : session ≡ suc session = e in omega arith)) in omega (arith, most))
  event_spends (BeginsCall of request) answer does none = elim (cases_eq of session) [
    | inl e ↦ (
        let its : EventDoes g start (BeginsCall session request) answer old new = subst (λ (s : ℕ). EventDoes g start (BeginsCall s request) answer old new) e does in
        let most = begins request answer its (none e) answer refl its.also.always.answers in
        omega (arith, most))
    | inr n ↦ (let most = elsewhere (BeginsCall of request) answer does of refl (λ e. n (sym e)) in omega (arith, most))
  ]
  event_spends (MovesCall of Takes) answer does none = elim (cases_eq of session) [
    | inl e ↦ (
        let its : EventDoes g start (MovesCall session Takes) answer old new = subst (λ (s : ℕ). EventDoes g start (MovesCall s Takes) answer old new) e does in
        let most = given_work before after answer its.also.always.less (g.state old.store).format.pages (g.state old.store).pages in
        let same = there (MovesCall session Takes) answer its after in
        omega (arith, most, same))
    | inr n ↦ (let most = elsewhere (MovesCall of Takes) answer does of refl (λ e. n (sym e)) in omega (arith, most))
  ]
  event_spends (MovesCall of GivesUp) answer does none = elim (cases_eq of session) [
    | inl e ↦ (
        let its : EventDoes g start (MovesCall session GivesUp) answer old new = subst (λ (s : ℕ). EventDoes g start (MovesCall s GivesUp) answer old new) e does in
        let over : left ≡ 0 = ap (λ (o : Option Op). work_in (g.state new.store) o) its.also.always.left.over in
        omega (arith, over))
    | inr n ↦ (let most = elsewhere (MovesCall of GivesUp) answer does of refl (λ e. n (sym e)) in omega (arith, most))
  ]
  event_spends (MovesCall of Steps) answer does none = elim (cases_eq of session) [
    | inl e ↦ (
        let its : EventDoes g start (MovesCall session Steps) answer old new = subst (λ (s : ℕ). EventDoes g start (MovesCall s Steps) answer old new) e does in
        let acts = same_acts (MovesCall session Steps) answer its in
        subst (λ (s : ℕ). spends session (MovesCall s Steps) answer ready + left ≤ was) (sym e)
        (own_step answer (its.also.always.less honest) (owes before (g.state old.store) (g.state new.store) acts) (its.also.followed.no_more acts)))
    | inr n ↦ (
        let most = elsewhere (MovesCall of Steps) answer does of refl (λ e. n (sym e)) in
        let none_goes = none_spent session of answer ready n in
        omega (arith, most, none_goes))
  ]

-- a device that has kept its model has kept it before
honest_before : {S : Type 0} (g : Ghosts S) (start : Entry → Bool) (told : List Answer) (events : List Event) (answers : List Answer) (first last : Moment S)
    → IsRun g start told events answers first last → (g.backing last.store).honest ≡ true → (g.backing first.store).honest ≡ true
honest_before {S} g start told [] [] first last run h = subst (λ (m : Moment S). (g.backing m.store).honest ≡ true) (sym run) h
honest_before g start told (event ∷ events) (answer ∷ answers) first last run h =
    run.1.1.also.later.honest (honest_before g start (told ++ answer ∷ []) events answers run.1.0 last run.1.2 h)
honest_before g start told [] (answer ∷ answers) first last run h = absurd run
honest_before g start told (event ∷ events) [] first last run h = absurd run

pub work_is_spent : {S : Type 0} (g : Ghosts S) → WorkIsSpent g
work_is_spent {S} g start told [] [] first last fits run session honest same none =
    subst (λ (m : Moment S). 0 + work_in (g.state m.store) (slot_of m.slots session) ≤ work_in (g.state first.store) (slot_of first.slots session)) run (omega arith)
work_is_spent g start told (event ∷ events) (answer ∷ answers) first last fits run session honest same none =
    let quiet = first_quiet g start told event events answer answers first last run same in
    let mid = honest_before g start (told ++ answer ∷ []) events answers run.1.0 last run.1.2 honest in
    let one = event_spends g start session first run.1.0 fits quiet mid (kind_of event) answer (goes_does run.1.1) none.0 in
    let rest = work_is_spent g start (told ++ answer ∷ []) events answers run.1.0 last (fits_after (goes_does run.1.1)) run.1.2 session honest (same ∙ sym quiet) none.1 in
    omega (arith, one, rest)
work_is_spent g start told [] (answer ∷ answers) first last fits run session honest same none = absurd run
work_is_spent g start told (event ∷ events) [] first last fits run session honest same none = absurd run
