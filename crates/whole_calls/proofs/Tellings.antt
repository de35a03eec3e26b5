-- What each event of a session tells of its running call.
use Rattle.std.proofs.Common.{◌≡◌, ◌≢◌, ℕ, ◌<◌, Bool, true, false, true≢false, Option, Some, None, List, [], ◌∷◌, ◌++◌, length, slice_get, slice_set, refl, sym, ap, subst, arith, inl, inr, ◌∙◌, unwrap_or}
use Rattle.whole_calls.proofs.Gone.{silent_then}
use Rattle.whole_calls.proofs.Imports.{append-nil, Exists, KeyExists, causes_of_forced, Inserts, Scans, Bulks, Cleanups, Row, Range, call_kind, ToInsert, ToScan, ToBulk, ToCleanup, get_some}
use Rattle.whole_calls.proofs.Imports.{get_within, get_append_new, get_append_some, same_some, Effect, Action, contents_after, Ask, AskInsert, AskScan, AskBulkDelete, Entry, asked_by, op_before}
use Rattle.whole_calls.proofs.Imports.{set_at, RunsOn, GivenUp, Call, Circumstances, HasCause, Fault, Backing, Ghosts, DeadSets, acts_of, asked_of, IsCaused, AnswerMeans, IsAsked, ended}
use Rattle.whole_calls.proofs.Imports.{AnswersStep, AnswersNext, AnswersEnd, Answer, Going, Added, Ready, Done, Finished, Gave, Ended, Refused, Op, Request, Moment, IsRunningCall, EventDoes, Fits}
use Rattle.whole_calls.proofs.Imports.{slot_of, SlotRuns, SlotMatches, has_call, one_vacuums, Move, Steps, Takes, Upkeep, MaintainsStore, BeginsCall, MovesCall, GivesUp, CallMoves, CallBegins}
use Rattle.whole_calls.proofs.Imports.{Stays, MovesOn, MayBegin, causes_of_begun_at, AnswersMove, IsSameHistory, MayAnswer, MayComeTo, IsOwnEffect, CallAnswers, StepMeans, SessionStepMeans}
use Rattle.whole_calls.proofs.Imports.{HasNone, HasBegun, begun_of, BeginMeans, EndMeans, with_one_call, first_call, NextMeans, running_of}

module _ {S : Type 0} (g : Ghosts S) (start : Entry → Bool) (now : Moment S) (fits : Fits g start now) (session : ℕ) where
  -- a session with a running call has it in its slot
  pub runs_in_slot : (number : ℕ) (call : Call) → IsRunningCall now.calls session number call → (op : Op) × (slice_get now.slots session ≡ Some (Some op)) × SlotRuns g start now session op
  runs_in_slot number call is =
      let within : session < length now.slots = (let k : call.session < length now.slots = fits.explains.known number call is.found in let e : call.session ≡ session = is.session_is in omega arith) in
      let at = get_some now.slots session within in
      of at.0 at.1 (running_of fits session at.0 at.1)
    where
      of : (o : Option Op) → slice_get now.slots session ≡ Some o → SlotMatches g start now session o → (op : Op) × (slice_get now.slots session ≡ Some (Some op)) × SlotRuns g start now session op
      of None at m = absurd (m.none number call is)
      of (Some op) at m = (op, at, m)

  pub runs_has_call : (number : ℕ) (call : Call) → IsRunningCall now.calls session number call → has_call now.slots session ≡ true
  runs_has_call number call is = let r = runs_in_slot number call is in rw (r.1) refl

  -- a session without a running call has an empty slot
  pub is_empty : HasNone session now → slot_of now.slots session ≡ None
  is_empty none = of (slice_get now.slots session) refl
    where
      of : (o : Option (Option Op)) → slice_get now.slots session ≡ o → unwrap_or o None ≡ None
      of None at = refl
      of (Some None) at = refl
      of (Some (Some op)) at = let m : SlotRuns g start now session op = running_of fits session (Some op) at in absurd (none m.number m.call m.is)

  -- there is one running call of a session at most
  pub one_runs : (number other : ℕ) (call c : Call) → IsRunningCall now.calls session number call → IsRunningCall now.calls session other c → (other ≡ number) × (c ≡ call)
  one_runs number other call c is also =
      let r = (runs_in_slot number call is).2 in
      let e : other ≡ number = r.only other c also ∙ sym (r.only number call is) in
      (e, same_some (slice_get now.calls number) c call (subst (λ (n : ℕ). slice_get now.calls n ≡ Some c) e also.found) is.found)

-- a step of what was asked may answer this, and so may asking it for its next entry
step_may : (sets : DeadSets) (op : Op) (after : Option Op) (answer : Answer) → AnswersStep (Some op) after answer → MayAnswer (asked_of sets op) answer
step_may sets (Inserts op) after (Added a u) h = tt
step_may sets (Scans op) after (Ready r) h = tt
step_may sets (Scans op) after Done h = tt
step_may sets (Bulks set op) after (Finished s) h = tt
step_may sets (Cleanups op) after (Finished s) h = tt
step_may sets op after Going h = tt
step_may sets op after (Refused f) h = tt
step_may sets op after answer h = absurd h

next_may : (sets : DeadSets) (op : Op) (answer : Answer) → AnswersNext (Some op) answer → MayAnswer (asked_of sets op) answer
next_may sets (Scans op) (Gave e) h = tt
next_may sets (Scans op) answer h = absurd h
next_may sets op (Refused f) h = tt
next_may sets op answer h = absurd h

-- an answer that is no refusal was told by a step
pub was_told : {S : Type 0} (number : ℕ) (call : Call) (answer : Answer) (x y : Moment S) → ((fault : Fault) → answer ≡ Refused fault → ⊥)
    → StepMeans number call answer x y → CallAnswers number call answer x y
was_told number call answer x y apart (inl t) = t
was_told number call answer x y apart (inr h) = absurd (apart h.fault h.refused)

pub refused_may : (ask : Ask) (fault : Fault) → MayAnswer ask (Refused fault)
refused_may (AskInsert e) fault = tt
refused_may ask fault = tt

-- what is asked for is asked by what it begins with
pub asked_before : (sets : DeadSets) (session : ℕ) (request : Request) → asked_of sets (op_before session request) ≡ asked_by sets request
asked_before sets session (ToInsert e) = refl
asked_before sets session (ToScan range) = refl
asked_before sets session (ToBulk set) = refl
asked_before sets session ToCleanup = refl

-- a step answers what its call may
pub step_comes : (sets : DeadSets) (slot after : Option Op) (answer : Answer) → AnswersStep slot after answer → MayComeTo sets slot answer
step_comes sets None after (Refused f) h = tt
step_comes sets None after answer h = absurd h
step_comes sets (Some op) after answer h = step_may sets op after answer h

-- and may be refused
pub refused_comes : (sets : DeadSets) (slot : Option Op) (fault : Fault) → MayComeTo sets slot (Refused fault)
refused_comes sets None fault = tt
refused_comes sets (Some op) fault = refused_may (asked_of sets op) fault

-- what a call may answer is so by its kind
insert_any : (e f : Entry) (answer : Answer) → MayAnswer (AskInsert e) answer → MayAnswer (AskInsert f) answer
insert_any e f Going h = tt
insert_any e f (Refused x) h = tt
insert_any e f (Added a u) h = tt
insert_any e f answer h = absurd h

scan_any : (p q : Range) (answer : Answer) → MayAnswer (AskScan p) answer → MayAnswer (AskScan q) answer
scan_any p q Going h = tt
scan_any p q (Refused x) h = tt
scan_any p q (Ready count) h = tt
scan_any p q (Gave e) h = tt
scan_any p q Done h = tt
scan_any p q answer h = absurd h

bulk_any : (p q : Row → Bool) (answer : Answer) → MayAnswer (AskBulkDelete p) answer → MayAnswer (AskBulkDelete q) answer
bulk_any p q Going h = tt
bulk_any p q (Refused x) h = tt
bulk_any p q (Finished s) h = tt
bulk_any p q answer h = absurd h

kind_may : (sets : DeadSets) (first mid : Op) (answer : Answer) → call_kind mid ≡ call_kind first → MayAnswer (asked_of sets mid) answer → MayAnswer (asked_of sets first) answer
kind_may sets (Inserts p) (Inserts q) answer same h = insert_any q.entry p.entry answer h
kind_may sets (Scans p) (Scans q) answer same h = scan_any q.range p.range answer h
kind_may sets (Bulks s p) (Bulks t q) answer same h = bulk_any (set_at sets t) (set_at sets s) answer h
kind_may sets (Cleanups p) (Cleanups q) answer same h = h
kind_may sets first mid answer same h = absurd cc

-- what runs on comes to what it could come to before
pub comes_on : (sets : DeadSets) (first mid : Option Op) (answer : Answer) → RunsOn first mid → MayComeTo sets mid answer → MayComeTo sets first answer
comes_on sets first None (Refused f) on h = refused_comes sets first f
comes_on sets first None answer on h = absurd h
comes_on sets None (Some op) answer on h = absurd on
comes_on sets (Some p) (Some q) answer on h = kind_may sets p q answer on h

-- what a call came to it may answer
pub came_may : {S : Type 0} (number : ℕ) (call : Call) (answer : Answer) (x y : Moment S) → StepMeans number call answer x y → MayAnswer call.ask answer
came_may number call answer x y (inl t) = t.may
came_may number call answer x y (inr h) = subst (λ (a : Answer). MayAnswer call.ask a) (sym h.refused) (refused_may call.ask h.fault)

-- a step, or asking for the next entry
abbrev pub GoesOnBy : Move → Type 0
GoesOnBy Steps = Unit {0}
GoesOnBy Takes = Unit {0}
GoesOnBy GivesUp = ⊥

may_of : (sets : DeadSets) (move : Move) → GoesOnBy move → (op : Op) (after : Option Op) (answer : Answer) → AnswersMove move (Some op) after answer → MayAnswer (asked_of sets op) answer
may_of sets Steps of op after answer h = step_may sets op after answer h
may_of sets Takes of op after answer h = next_may sets op answer h
may_of sets GivesUp of op after answer h = absurd of

-- an event of a session that has a running call
pub moves_tells : {S : Type 0} (g : Ghosts S) (start : Entry → Bool) (x y : Moment S) (session : ℕ) (move : Move) (answer : Answer) → GoesOnBy move
    → Fits g start x → EventDoes g start (MovesCall session move) answer x y
    → (number : ℕ) (call : Call) → IsRunningCall x.calls session number call → CallAnswers number call answer x y
moves_tells g start x y session move answer of fits does number call is =
    let goes : CallMoves g start session answer x y = subst (λ (b : Bool). MovesOn g start b session answer x y) (runs_has_call g start x fits session number call is) does.also.happens in
    let same = one_runs g start x fits session number goes.number call goes.call is goes.is in
    let r = runs_in_slot g start x fits session number call is in
    let asks = one_runs g start x fits session number r.2.number call r.2.call is r.2.is in
    let was : slot_of x.slots session ≡ Some r.0 = ap (λ (o : Option (Option Op)). unwrap_or o None) r.1 in
    let kind = subst (λ (o : Option Op). AnswersMove move o (slot_of y.slots session) answer) was does.also.always.answers in
    record {
      before = [];
      last = goes.effect;
      after = goes.after;
      may = subst (λ (a : Ask). MayAnswer a answer) (sym (ap (λ (c : Call). c.ask) (sym asks.1) ∙ r.2.runs.ask)) (may_of x.sets move of r.0 (slot_of y.slots session) answer kind);
      own = tt;
      own_last = subst (λ (c : Call). IsOwnEffect c goes.effect) same.1 (own_of goes.call goes.effect goes.asked);
      told = subst (λ (l : List Action). AnswerMeans answer (length l) goes.effect call goes.after) (sym (append-nil x.history))
          (subst (λ (c : Call). AnswerMeans answer (length x.history) goes.effect c goes.after) same.1 goes.told);
      history_is = subst (λ (n : ℕ). y.history ≡ x.history ++ acts_of n goes.effect) same.0 goes.history_is ∙ ap (λ (l : List Action). l ++ acts_of number goes.effect) (sym (append-nil x.history));
      calls_is = subst (λ (n : ℕ). y.calls ≡ slice_set x.calls n goes.after) same.0 goes.calls_is;
    }
  where
    own_of : (c : Call) (effect : Option Effect) → IsAsked (contents_after start x.history) c.ask c.added effect → IsOwnEffect c effect
    own_of c None h = tt
    own_of c (Some e) h = h.0

-- a fault that isn't one of an entry that was there, or of its key
abbrev pub IsNotOfEntry : Fault → Type 0
IsNotOfEntry fault = (fault ≢ Exists) × ((row : Row) → fault ≢ KeyExists row)

not_of_entry : (at : Circumstances) → (at.entry_was_there ≡ true → ⊥) → ((row : Row) → at.key_was_there row ≡ true → ⊥) → (fault : Fault) → HasCause at fault → IsNotOfEntry fault
not_of_entry at entry key fault cause = (
  (λ is. entry (subst (HasCause at) is cause)),
  λ row is. key row (subst (HasCause at) is cause),
)

-- a beginning is not refused because an entry or its key was there
begin_not_exists : {S : Type 0} (g : Ghosts S) (store : S) (vacuums : Bool) (sets : DeadSets) (request : Request) (o : Option (Option Op))
    (fault : Fault) → HasCause (causes_of_begun_at g store vacuums sets request o) fault → IsNotOfEntry fault
begin_not_exists g store vacuums sets request None fault cause =
    not_of_entry (causes_of_begun_at g store vacuums sets request None) (λ h. true≢false (sym h)) (λ row h. true≢false (sym h)) fault cause
begin_not_exists g store vacuums sets request (Some slot) fault cause =
    not_of_entry (causes_of_begun_at g store vacuums sets request (Some slot)) (λ h. true≢false (sym h)) (λ row h. true≢false (sym h)) fault cause

-- nor is a checkpoint
pub kept_not_exists : (old new : Backing) (fault : Fault) → HasCause (causes_of_forced old new) fault → IsNotOfEntry fault
kept_not_exists old new fault cause = not_of_entry (causes_of_forced old new) (λ h. true≢false (sym h)) (λ row h. true≢false (sym h)) fault cause

-- the circumstances of a beginning
abbrev begins_at : {S : Type 0} → Ghosts S → ℕ → Request → Moment S → Circumstances
begins_at g session request x = causes_of_begun_at g x.store (one_vacuums x.slots) x.sets request (slice_get x.slots session)

-- a beginning
pub begins_told : {S : Type 0} (g : Ghosts S) (start : Entry → Bool) (session : ℕ) (request : Request) (answer : Answer) (x y : Moment S)
    → EventDoes g start (BeginsCall session request) answer x y → BeginMeans session request (begun_of answer) x y
begins_told {S} g start session request answer x y does = of (slice_get x.slots session) does.also.happens (begin_not_exists g x.store (one_vacuums x.slots) x.sets request (slice_get x.slots session))
  where
    stays : ((fault : Fault) → HasCause (begins_at g session request x) fault → IsNotOfEntry fault) → Stays g answer x y → BeginMeans session request (begun_of answer) x y
    stays why s = subst (λ (a : Answer). BeginMeans session request (begun_of a) x y) (sym s.refused) (record {
      silent = record { history_is = s.still.history_is; calls_is = s.still.calls_is };
      not_exists = (why s.fault (subst (λ (a : Answer). IsCaused (begins_at g session request x) a) s.refused does.also.caused)).0;
      not_key_exists = (why s.fault (subst (λ (a : Answer). IsCaused (begins_at g session request x) a) s.refused does.also.caused)).1;
    })

    begun : CallBegins g session request answer x y → BeginMeans session request (begun_of answer) x y
    begun b = subst (λ (a : Answer). BeginMeans session request (begun_of a) x y) (sym b.told) (record { history_is = b.history_is; calls_is = b.calls_is })

    of : (p : Option (Option Op)) → MayBegin g p session request answer x y
        → ((fault : Fault) → HasCause (begins_at g session request x) fault → IsNotOfEntry fault) → BeginMeans session request (begun_of answer) x y
    of None h why = stays why h
    of (Some None) h why = elim h [ inl b ↦ begun b | inr s ↦ stays why s ]
    of (Some (Some op)) h why = stays why h

-- what is done for the store tells nothing
pub keeps_silent : {S : Type 0} (g : Ghosts S) (start : Entry → Bool) (upkeep : Upkeep) (answer : Answer) (x y : Moment S) → EventDoes g start (MaintainsStore upkeep) answer x y → IsSameHistory x y
keeps_silent g start upkeep answer x y does = elim does.also.happens [
  | inl kept ↦ record { history_is = kept.still.history_is; calls_is = kept.still.calls_is }
  | inr stays ↦ record { history_is = stays.still.history_is; calls_is = stays.still.calls_is }
]

-- an end
pub ends_tells : {S : Type 0} {g : Ghosts S} {start : Entry → Bool} {x y : Moment S} (session : ℕ) (answer : Answer) → Fits g start x
    → EventDoes g start (MovesCall session GivesUp) answer x y → EndMeans session x y
ends_tells {g = g} {start} {x} {y} session answer fits does = of (has_call x.slots session) refl does.also.happens
  where
    given_up : (number : ℕ) (call : Call) → IsRunningCall x.calls session number call → answer ≡ Ended
    given_up number call is =
        let r = runs_in_slot g start x fits session number call is in
        let was : slot_of x.slots session ≡ Some r.0 = ap (λ (o : Option (Option Op)). unwrap_or o None) r.1 in
        subst (λ (o : Option Op). AnswersEnd o answer) was does.also.always.answers

    of : (b : Bool) → has_call x.slots session ≡ b → MovesOn g start b session answer x y → EndMeans session x y
    of true is goes =
        let told = subst (λ (b : Answer). AnswerMeans b (length x.history) goes.effect goes.call goes.after) (given_up goes.number goes.call goes.is) goes.told in
        record {
          history_is = goes.history_is ∙ ap (λ (o : Option Effect). x.history ++ acts_of goes.number o) told.none ∙ append-nil x.history;
          calls_is = λ free. absurd (free goes.number goes.call goes.is);
          ended_is = λ number call runs. (
              let same = one_runs g start x fits session number goes.number call goes.call runs goes.is in
              goes.calls_is ∙ ap (λ (n : ℕ). slice_set x.calls n goes.after) same.0
              ∙ ap (λ (c : Call). slice_set x.calls number c) (told.after_is ∙ ap (λ (c : Call). ended c GivenUp (length x.history)) same.1));
        }
    of false is stays = record {
      history_is = stays.still.history_is;
      calls_is = λ free. stays.still.calls_is;
      ended_is = λ number call runs. absurd (true≢false (sym (runs_has_call g start x fits session number call runs) ∙ is));
    }

pub set_new : {X : Type 0} (xs : List X) (x y : X) → slice_set (xs ++ x ∷ []) (length xs) y ≡ xs ++ y ∷ []
set_new [] x y = refl
set_new (z ∷ xs) x y = ap (λ l. z ∷ l) (set_new xs x y)

-- a call that has just begun, and then came so far
module _ {S : Type 0} (session : ℕ) (request : Request) (x y z : Moment S) (began : HasBegun session request x y) where
  abbrev first : Call
  first = first_call session request x

  next_runs : IsRunningCall (with_one_call x first).calls session (length x.calls) first
  next_runs = record { found = get_append_new x.calls first; session_is = refl; running = refl }

  pub begun_next : (answer : Answer) → SessionStepMeans session answer y z → NextMeans session request answer x z
  begun_next answer tells = silent_then session answer (with_one_call x first) y z (record { history_is = began.history_is; calls_is = began.calls_is }) tells (length x.calls) first next_runs

  pub begun_runs : IsRunningCall y.calls session (length x.calls) first
  begun_runs = record { found = ap (λ (l : List Call). slice_get l (length x.calls)) began.calls_is ∙ next_runs.found; session_is = refl; running = refl }

  -- a session that has begun a call had none
  pub begun_free : (g : Ghosts S) (start : Entry → Bool) → Fits g start y → HasNone session x
  begun_free g start fits number call is =
      let now = begun_runs in
      let old : IsRunningCall y.calls session number call =
      record { found = ap (λ (l : List Call). slice_get l number) began.calls_is ∙ get_append_some x.calls (first ∷ []) number call is.found; session_is = is.session_is; running = is.running } in
      let e : number ≡ length x.calls = (one_runs g start y fits session (length x.calls) number first call now old).0 in
      let within : number < length x.calls = get_within x.calls number call is.found in
      omega (arith, e, within)
