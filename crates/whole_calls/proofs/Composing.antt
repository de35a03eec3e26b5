-- Runs of one session's events, one after the other.
use Rattle.std.proofs.Common.{◌≡◌, ℕ, Bool, true, Option, Some, None, List, [], ◌∷◌, ◌++◌, refl, subst, inl, inr}
use Rattle.schedule.proofs.Running.{none_ran, makes_runs}
use Rattle.whole_calls.proofs.Imports.{Event, ran_then, are_of_both, Action, Call, Entry, IsLater, Continues, Ghosts, Answer, StoreAndSlots, Moment, snapshot_of, EventDoes, EventEffect, Fits}
use Rattle.whole_calls.proofs.Imports.{here_at, kind_of, IsOf, EventIsRun, ForEachHistory, Runs, Laws, IsAmong, IsOutcomeOf, CallRuns, CallIsRun, CallIsRunFrom, goes_does}

pub among_left : (xs ys : List Answer) (answer : Answer) → IsAmong xs answer → IsAmong (xs ++ ys) answer
among_left [] ys answer h = absurd h
among_left (x ∷ xs) ys answer (inl h) = inl h
among_left (x ∷ xs) ys answer (inr h) = inr (among_left xs ys answer h)

pub among_right : (xs ys : List Answer) (answer : Answer) → IsAmong ys answer → IsAmong (xs ++ ys) answer
among_right [] ys answer h = h
among_right (x ∷ xs) ys answer h = inr (among_right xs ys answer h)

-- what may be told of two moments, from the contents at the start
abbrev Meanings : Type 0 → Type 1
Meanings S = (Entry → Bool) → Moment S → Moment S → Type 0

-- one store that comes after another
pub is_later : {S : Type 0} (g : Ghosts S) → Laws g → {a b : S} → Continues g.follows a b → IsLater (g.backing a) (g.backing b)
is_later g laws {a} {b} steps = laws.follows_later a b (steps a (laws.follows_same a))

-- the same run, told otherwise
pub goes_told : {S : Type 0} {g : Ghosts S} {session : ℕ} {One : Meanings S} (Two : Meanings S) {came also : Option Answer} {a b : StoreAndSlots S} → CallIsRunFrom g session One came a b
    → ((start : Entry → Bool) (h : List Action) (hc : List Call) (k : List Action) (kc : List Call) (answers : List Answer) → Fits g start (snapshot_of a h hc) → IsOutcomeOf answers came
    → One start (snapshot_of a h hc) (snapshot_of b k kc) → IsOutcomeOf answers also × Two start (snapshot_of a h hc) (snapshot_of b k kc))
    → CallIsRunFrom g session Two also a b
goes_told {g = g} {session = session} {One = One} Two {came = came} {a = a} {b = b} goes tells honest start history calls fits =
    let r : CallRuns g session (One start) came a b start history calls = goes honest start history calls fits in
    let t = tells start history calls r.then_history r.then_calls r.answers fits r.outcome_by r.tells in
    record {
      then_history = r.then_history;
      then_calls = r.then_calls;
      events = r.events;
      answers = r.answers;
      own = r.own;
      ran = r.ran;
      outcome_by = t.0;
      tells = t.1;
    }

-- what is told of one call and then of another, of three moments that fit
abbrev Joins : {S : Type 0} → Ghosts S → Meanings S → Meanings S → Meanings S → StoreAndSlots S → StoreAndSlots S → StoreAndSlots S → Type 0
Joins g One Two Both a b c = (start : Entry → Bool) (h : List Action) (hc : List Call) (k : List Action) (kc : List Call) (l : List Action) (lc : List Call)
    → Fits g start (snapshot_of a h hc) → Fits g start (snapshot_of b k kc) → Fits g start (snapshot_of c l lc)
    → One start (snapshot_of a h hc) (snapshot_of b k kc) → Two start (snapshot_of b k kc) (snapshot_of c l lc) → Both start (snapshot_of a h hc) (snapshot_of c l lc)

module _ {S : Type 0} {g : Ghosts S} (laws : Laws g) {session : ℕ} where
  -- one call after the other, which comes to what their answers say
  pub joined : (Both : Meanings S) {One Two : Meanings S} {first second came : Option Answer} {a b c : StoreAndSlots S} → Continues g.follows a.store b.store → Continues g.follows b.store c.store
      → CallIsRunFrom g session One first a b → CallIsRunFrom g session Two second b c
      → ((xs ys : List Answer) → IsOutcomeOf xs first → IsOutcomeOf ys second → IsOutcomeOf (xs ++ ys) came) → Joins g One Two Both a b c → CallIsRunFrom g session Both came a c
  joined Both {One} {Two} {first = first} {second = second} {a = a} {b = b} {c = c} step then_step one two comes joins honest start history calls fits =
      let r : CallRuns g session (One start) first a b start history calls = one ((is_later g laws then_step).honest honest) start history calls fits in
      let t : CallRuns g session (Two start) second b c start r.then_history r.then_calls = two honest start r.then_history r.then_calls r.ran.fits in
      record {
        then_history = t.then_history;
        then_calls = t.then_calls;
        events = r.events ++ t.events;
        answers = r.answers ++ t.answers;
        own = are_of_both session r.events t.events r.own t.own;
        ran = ran_then g laws start r.events t.events r.answers t.answers (snapshot_of a history calls) (snapshot_of b r.then_history r.then_calls) (snapshot_of c t.then_history t.then_calls)
            (then_step a.store (step a.store (laws.follows_same a.store))) r.ran t.ran;
        outcome_by = comes r.answers t.answers r.outcome_by t.outcome_by;
        tells = joins start history calls r.then_history r.then_calls t.then_history t.then_calls fits r.ran.fits t.ran.fits r.tells t.tells;
      }

  -- ... to what the first came to
  pub joined_first : (Both : Meanings S) {One Two : Meanings S} {came second : Option Answer} {a b c : StoreAndSlots S} → Continues g.follows a.store b.store → Continues g.follows b.store c.store
      → CallIsRunFrom g session One came a b → CallIsRunFrom g session Two second b c → Joins g One Two Both a b c → CallIsRunFrom g session Both came a c
  joined_first Both {came = came} step then_step one two = joined Both step then_step one two (λ xs ys h k. comes came xs ys h)
    where
      comes : (o : Option Answer) (xs ys : List Answer) → IsOutcomeOf xs o → IsOutcomeOf (xs ++ ys) o
      comes None xs ys h = tt
      comes (Some answer) xs ys h = among_left xs ys answer h

  -- ... to what the second came to
  pub joined_second : (Both : Meanings S) {One Two : Meanings S} {first came : Option Answer} {a b c : StoreAndSlots S} → Continues g.follows a.store b.store → Continues g.follows b.store c.store
      → CallIsRunFrom g session One first a b → CallIsRunFrom g session Two came b c → Joins g One Two Both a b c → CallIsRunFrom g session Both came a c
  joined_second Both {came = came} step then_step one two = joined Both step then_step one two (λ xs ys h. comes came xs ys)
    where
      comes : (o : Option Answer) (xs ys : List Answer) → IsOutcomeOf ys o → IsOutcomeOf (xs ++ ys) o
      comes None xs ys h = tt
      comes (Some answer) xs ys h = among_right xs ys answer h

  -- no event
  pub goes_nowhere : {Tells : Moment S → Moment S → Type 0} {a : StoreAndSlots S} → ((x : Moment S) → Tells x x) → CallIsRun g session Tells None a a
  goes_nowhere {a = a} same honest start history calls fits = record {
    then_history = history;
    then_calls = calls;
    events = [];
    answers = [];
    own = tt;
    ran = none_ran g laws start (snapshot_of a history calls) fits;
    outcome_by = tt;
    tells = same (snapshot_of a history calls);
  }

  -- one event, by the runs that it makes
  goes_run : {Tells : Moment S → Moment S → Type 0} (event : Event) {answer : Answer} {a b : StoreAndSlots S} → IsOf session event → ForEachHistory g a b (Runs g a b (event ∷ []) (answer ∷ []))
      → ((start : Entry → Bool) (h : List Action) (hc : List Call) (k : List Action) (kc : List Call) → (g.backing b.store).honest ≡ true → Fits g start (snapshot_of a h hc)
      → EventDoes g start (kind_of event) answer (snapshot_of a h hc) (snapshot_of b k kc) → Tells (snapshot_of a h hc) (snapshot_of b k kc))
      → CallIsRun g session Tells (Some answer) a b
  goes_run event {answer} {a} {b} of runs tells honest start history calls fits =
      let r : Runs g a b (event ∷ []) (answer ∷ []) start history calls = runs honest start history calls fits in
      let first = snapshot_of a history calls in
      let last = snapshot_of b r.then_history r.then_calls in
      let goes : EventIsRun g start event answer first last = subst (λ (m : Moment S). EventIsRun g start event answer first m) r.ran.run.1.2 r.ran.run.1.1 in
      record {
        then_history = r.then_history;
        then_calls = r.then_calls;
        events = event ∷ [];
        answers = answer ∷ [];
        own = (of, tt);
        ran = r.ran;
        outcome_by = inl refl;
        tells = tells start history calls r.then_history r.then_calls honest fits (goes_does goes);
      }

  -- one event, by what it does
  pub goes_once : {Tells : Moment S → Moment S → Type 0} (event : Event) {answer : Answer} {a b : StoreAndSlots S} → IsOf session event → EventEffect g (kind_of event) answer a b
      → ((start : Entry → Bool) (h : List Action) (hc : List Call) (k : List Action) (kc : List Call) → (g.backing b.store).honest ≡ true → Fits g start (snapshot_of a h hc)
      → EventDoes g start (kind_of event) answer (snapshot_of a h hc) (snapshot_of b k kc) → Tells (snapshot_of a h hc) (snapshot_of b k kc))
      → CallIsRun g session Tells (Some answer) a b
  goes_once event {answer} {a} {b} of makes = goes_run event of (makes_runs g laws event answer a b makes)

module _ {S : Type 0} (g : Ghosts S) (laws : Laws g) (session : ℕ) where
  -- one call after the other, which comes to what the second came to
  pub goes_then : (One Two Both : Moment S → Moment S → Type 0) (first came : Option Answer) (a b c : StoreAndSlots S)
      → Continues g.follows a.store b.store → Continues g.follows b.store c.store → CallIsRun g session One first a b → CallIsRun g session Two came b c
      → ((start : Entry → Bool) (x y z : Moment S) → x.slots ≡ a.slots → y.slots ≡ b.slots → Fits g start x → Fits g start y → Fits g start z → One x y → Two y z → Both x z)
      → CallIsRun g session Both came a c
  goes_then One Two Both first came a b c step then_step one two joins =
      joined_second laws (λ s. Both) step then_step one two (λ start h hc k kc l lc. joins start (snapshot_of a h hc) (snapshot_of b k kc) (snapshot_of c l lc) refl refl)

  -- one event, told of the moments before and after it
  pub goes_by : (Tells : Moment S → Moment S → Type 0) (event : Event) (answer : Answer) (a b : StoreAndSlots S) → IsOf session event
      → ForEachHistory g a b (Runs g a b (event ∷ []) (answer ∷ []))
      → ((start : Entry → Bool) (x y : Moment S) → here_at x ≡ a → here_at y ≡ b → Fits g start x → EventDoes g start (kind_of event) answer x y → Tells x y)
      → CallIsRun g session Tells (Some answer) a b
  goes_by Tells event answer a b of runs tells = goes_run laws event of runs (λ start h hc k kc honest. tells start (snapshot_of a h hc) (snapshot_of b k kc) refl refl)
