-- Events of scans over histories.
use Rattle.std.proofs.Common.{◌≡◌, ◌⊎◌, ℕ, suc, ◌≤◌, Bool, true, false, true≢false, ◌||◌, Option, Some, None, List, [], ◌∷◌, ◌++◌, length, refl, sym, ap, subst, inl, inr, ◌∙◌, arith, append_assoc}
use Rattle.std.specs.List.{AllByRecursion}
use Rattle.descent.specs.declared.position.Position.{Position}
use Rattle.session_calls.proofs.Imports.{append-nil, or_cases, cases_Bool, Action, Ask, AskScan, Ending, Running, EndsFinished, Call, IsReached, IsUpToLast, IsScanAnswer, IsScanAnswerSoFar}
use Rattle.session_calls.proofs.Imports.{AnswersRight, end_of, Meets, Circumstances, bound_of, same_entry, is_among, is_past, IsPast, AscendsPast, IsAscending, last_or, matches, Bound, Entry}
use Rattle.session_calls.proofs.Imports.{NoSession, Range, is_past-falls, same_entry-is, same_entry-self, three_ways, IsPast-trans, is_among-append, is_among-past, AscendsPast-append}
use Rattle.session_calls.proofs.Imports.{AscendsPast-front, AscendsPast-back, AscendsPast-from, last_or-append, there_now, entry_on_live_leaf, State, Page, IsLeafAt, waiting, moved_to}
use Rattle.session_calls.proofs.Imports.{ScanInvariant, IsNext, IsAfter, LeafIsRead, IsUnderway, IsMoving, IsReading, IsWaiting, IsDone, ScanAt, Start, At, Last, ScanOp, DeadSets, IsScanSoFar}
use Rattle.session_calls.proofs.Imports.{asked_of, causes_of_asked_next, is_last, Matches, OpRuns, CallFits, ended, given_one, SessionEvent, StandsOnLeaf, StandsByAnswer, OpEvent, Answer, Begun}
use Rattle.session_calls.proofs.Imports.{Going, Added, Ready, Done, Finished, Gave, Ended, Forced, Flushed, Checkpointed, Refused, Op, Insert, Scan, Bulk, Cleanup}
use Rattle.session_calls.proofs.Effects.{works_on, works_nothing}
use Rattle.session_calls.proofs.Going.{event_of_nothing, step_goes_on, step_is_ready}
use Rattle.session_calls.proofs.Meeting.{began_before, there_at_present}

or_left : (a b : Bool) → a ≡ true → (a || b) ≡ true
or_left true b h = refl
or_left false b h = absurd cc

or_right : (a b : Bool) → b ≡ true → (a || b) ≡ true
or_right true b h = refl
or_right false b h = h

all_past : (low : Option Bound) (xs : List Entry) → AscendsPast low xs → AllByRecursion (IsPast low) xs
all_past low [] h = tt
all_past low (x ∷ xs) h = (h.0, weaken xs (all_past (Some (bound_of x)) xs h.1))
  where
    weaken : (ys : List Entry) → AllByRecursion (IsPast (Some (bound_of x))) ys → AllByRecursion (IsPast low) ys
    weaken [] k = tt
    weaken (y ∷ ys) k = (IsPast-trans low x y h.0 k.0, weaken ys k.1)

all_by : (P Q : Entry → Type 0) (xs : List Entry) → ((x : Entry) → P x → Q x) → AllByRecursion P xs → AllByRecursion Q xs
all_by P Q [] f h = tt
all_by P Q (x ∷ xs) f h = (f x h.0, all_by P Q xs f h.1)

-- what isn't beyond an entry that isn't beyond a bound isn't beyond the bound
at_or_before : (b : Bound) (x e : Entry) → is_past (bound_of e) x ≡ false → is_past b e ≡ false → is_past b x ≡ false
at_or_before b x e up h =
    elim (three_ways x e) [
      | inl same ↦ subst (λ (y : Entry). is_past b y ≡ false) (sym (same_entry-is x e same)) h
      | inr (inl before) ↦ is_past-falls b x e h before
      | inr (inr beyond) ↦ absurd (true≢false (sym beyond ∙ up))
    ]

-- what isn't beyond an entry that the scan has read beyond, it has read beyond too
after_falls : (frontier : Bound) (at : ScanAt) (x e : Entry) → is_past (bound_of e) x ≡ false → IsAfter frontier at e → IsAfter frontier at x
after_falls frontier Start x e up h = at_or_before frontier x e up h
after_falls frontier (At block) x e up h = at_or_before frontier x e up h
after_falls frontier Last x e up h = tt

-- what lies beyond each of these entries lies beyond the last
last_past : (low : Option Bound) (xs : List Entry) (e : Entry) → IsPast low e → ((x : Entry) → is_among xs x ≡ true → is_past (bound_of x) e ≡ true) → IsPast (last_or low xs) e
last_past low [] e h all = h
last_past low (x ∷ xs) e h all =
    last_past (Some (bound_of x)) xs e (all x (or_left (same_entry x x) (is_among xs x) (same_entry-self x))) (λ y among. all y (or_right (same_entry x y) (is_among xs y) among))

-- a leaf brings a scan on
module _ (st : State) (start : Entry → Bool) (history : List Action) (began : ℕ) (given : List Entry) (before after : ScanOp) (m : Matches st start history) (le : began ≤ length history)
    (range : after.range ≡ before.range) (none : waiting before ≡ []) (position : Position) (from : before.at ≡ At position) (read : LeafIsRead st before after)
    (far : IsScanSoFar start history began given before) where
  was_given : given ++ waiting before ≡ given
  was_given = ap (λ (xs : List Entry). given ++ xs) none ∙ append-nil given

  -- what lies beyond the frontier lies beyond the last that was given
  beyond_last : (e : Entry) → is_past before.frontier e ≡ true → IsPast (last_or None given) e
  beyond_last e past = subst (λ (xs : List Entry). IsPast (last_or None xs) e) was_given
      (far.next_page e (λ is_after. true≢false (sym past ∙ subst (λ (a : ScanAt). IsAfter before.frontier a e) from is_after)))

  fresh_ascend : AscendsPast (last_or None given) (waiting after)
  fresh_ascend = AscendsPast-from (Some before.frontier) (last_or None given) (waiting after) read.ascends
      (all_by (IsPast (Some before.frontier)) (IsPast (last_or None given)) (waiting after) beyond_last (all_past (Some before.frontier) (waiting after) read.ascends))

  given_before : (e : Entry) → is_among given e ≡ true → is_among (given ++ waiting before) e ≡ true
  given_before e h = subst (λ (xs : List Entry). is_among xs e ≡ true) (sym was_given) h

  old_or_fresh : (e : Entry) → is_among (given ++ waiting after) e ≡ true → (is_among given e ≡ true) ⊎ (is_among (waiting after) e ≡ true)
  old_or_fresh e h = or_cases (is_among given e) (is_among (waiting after) e) (sym (is_among-append given (waiting after) e) ∙ h)

  -- it has read beyond all that it has given or holds ready
  all_reached : (e : Entry) → is_among (given ++ waiting after) e ≡ true → IsAfter after.frontier after.at e
  all_reached e h = elim (old_or_fresh e h) [ inl a ↦ read.forward e (far.reached e (given_before e a)) | inr b ↦ read.next_page e b ]

  -- so what it hasn't read beyond lies beyond each of that
  beyond_all : (e : Entry) → (IsAfter after.frontier after.at e → ⊥) → (x : Entry) → is_among (given ++ waiting after) x ≡ true → is_past (bound_of x) e ≡ true
  beyond_all e not x h = elim (cases_Bool (is_past (bound_of x) e)) [
    | inl past ↦ past
    | inr up ↦ absurd (not (after_falls after.frontier after.at e x up (all_reached x h)))
  ]

  pub so_far_read : IsScanSoFar start history began given after
  so_far_read = record {
    ascending = AscendsPast-append None given (waiting after) (subst IsAscending was_given far.ascending) fresh_ascend;
    matched = λ e h. rw range (elim (old_or_fresh e h) [ inl a ↦ far.matched e (given_before e a) | inr b ↦ read.matched e b ]);
    was_there = λ e h. elim (old_or_fresh e h) [ inl a ↦ far.was_there e (given_before e a) | inr b ↦ there_at_present st start history began e m le (read.there e b) ];
    complete = λ e within match through.
        let match_before : matches before.range e ≡ true = subst (λ (r : Range). matches r e ≡ true) range match in
        let now : entry_on_live_leaf st.pages e ≡ true = m.contents e ∙ sym (there_now start history e) ∙ through (length history) le (omega arith) in
        is_among-append given (waiting after) e ∙ elim (read.complete e within match_before now) [
          | inl is_after ↦ or_left (is_among given e) (is_among (waiting after) e) (subst (λ (xs : List Entry). is_among xs e ≡ true) was_given (far.complete e is_after match_before through))
          | inr fresh ↦ or_right (is_among given e) (is_among (waiting after) e) fresh
        ];
    reached = all_reached;
    next_page = λ e not. last_past None (given ++ waiting after) e tt (beyond_all e not);
  }

-- one entry more is given
module _ (start : Entry → Bool) (history : List Action) (began : ℕ) (given rest : List Entry) (e : Entry) (op : ScanOp)
    (far : IsScanSoFar start history began given op) (is : waiting op ≡ e ∷ rest) where
  pub joined : (given ++ e ∷ []) ++ rest ≡ given ++ waiting op
  joined = append_assoc given (e ∷ []) rest ∙ ap (λ (xs : List Entry). given ++ xs) (sym is)

  ascends : AscendsPast None ((given ++ e ∷ []) ++ rest)
  ascends = subst IsAscending (sym joined) far.ascending

  last_is : last_or None (given ++ e ∷ []) ≡ Some (bound_of e)
  last_is = last_or-append None given (e ∷ [])

  given_among : (x : Entry) → is_among (given ++ e ∷ []) x ≡ true → is_among (given ++ waiting op) x ≡ true
  given_among x h = subst (λ (xs : List Entry). is_among xs x ≡ true) joined (is_among-append (given ++ e ∷ []) rest x ∙ or_left (is_among (given ++ e ∷ []) x) (is_among rest x) h)

  e_among : is_among (given ++ e ∷ []) e ≡ true
  e_among = is_among-append given (e ∷ []) e ∙ or_right (is_among given e) (is_among (e ∷ []) e) (or_left (same_entry e e) false (same_entry-self e))

  rest_beyond : (x : Entry) → is_among rest x ≡ true → is_past (bound_of e) x ≡ true
  rest_beyond x h = is_among-past (Some (bound_of e)) rest x (subst (λ (low : Option Bound). AscendsPast low rest) last_is (AscendsPast-back None (given ++ e ∷ []) rest ascends)) h

  up_to_last : (x : Entry) → IsUpToLast (given ++ e ∷ []) x → is_past (bound_of e) x ≡ false
  up_to_last x h = subst (λ (last : Option Bound). IsReached last x) last_is h

  pub next_meets : IsScanAnswerSoFar start history op.range began (length history) (given ++ e ∷ [])
  next_meets = record {
    only = record {
      ascending = AscendsPast-front None (given ++ e ∷ []) rest ascends;
      matched = λ x h. far.matched x (given_among x h);
      was_there = λ x h. far.was_there x (given_among x h);
    };
    all = λ x within match through.
        let up : is_past (bound_of e) x ≡ false = up_to_last x within in
        let is_after : IsAfter op.frontier op.at x = after_falls op.frontier op.at x e up (far.reached e (given_among e e_among)) in
        let among : is_among ((given ++ e ∷ []) ++ rest) x ≡ true = subst (λ (xs : List Entry). is_among xs x ≡ true) (sym joined) (far.complete x is_after match through) in
        elim (or_cases (is_among (given ++ e ∷ []) x) (is_among rest x) (sym (is_among-append (given ++ e ∷ []) rest x) ∙ among)) [
          | inl a ↦ a
          | inr b ↦ absurd (true≢false (sym (rest_beyond x b) ∙ up))
        ];
  }

-- a scan that has given an entry knows the same of the pages
given_fits : (st : State) (op : ScanOp) → ScanInvariant st op → ScanInvariant st (record op { given = suc op.given })
given_fits st op f = record { session = f.session; start = f.start; running = f.running; held = f.held; live = f.live; stands = f.stands; started = f.started; few = f.few }

-- an entry is given
pub gave_goes : {sets : DeadSets} (at : Circumstances) (st : State) (start : Entry → Bool) (history : List Action) (number : ℕ) (call : Call) (before after : ScanOp) (e : Entry)
    → CallFits st sets start history number call (Scan before) → IsNext before (Some e) after → SessionEvent at st st sets start history number call (Some (Scan after)) (Gave (Some e))
gave_goes {sets} at st start history number call before after e fits next =
    let far = fits.runs.knows in
    let same : (call.given ++ e ∷ []) ++ waiting after ≡ call.given ++ waiting before = joined start history call.began call.given (waiting after) e before far next.0 in
    let session : after.session ≡ before.session = ap (λ (x : ScanOp). x.session) next.1 in
    let range : after.range ≡ before.range = ap (λ (x : ScanOp). x.range) next.1 in
    let frontier : after.frontier ≡ before.frontier = ap (λ (x : ScanOp). x.frontier) next.1 in
    let where_at : after.at ≡ before.at = ap (λ (x : ScanOp). x.at) next.1 in
    let answer = next_meets start history call.began call.given (waiting after) e before far next.0 in
    event_of_nothing at st st start history number call (given_one call e) (Scan after) (Gave (Some e)) fits.world refl (record { none = refl; after_is = refl }) tt
    (record {
      began = fits.meets.began;
      until = fits.meets.until;
      right = subst (λ (x : Ending). AnswersRight start history number call.began (end_of history x call.until) call.ask (call.given ++ e ∷ []) call.added x) (sym fits.running)
          (subst (λ (a : Ask). AnswersRight start history number call.began (length history) a (call.given ++ e ∷ []) call.added Running) (sym fits.runs.ask) answer);
    }) fits.running (record {
      ask = fits.runs.ask ∙ ap AskScan (sym range);
      session = session ∙ fits.runs.session;
      added = fits.runs.added;
      started = fits.runs.started;
      fits = subst (λ (op : ScanOp). ScanInvariant st op) (sym next.1) (given_fits st before fits.runs.fits);
      knows = record {
        ascending = rw same far.ascending;
        matched = rw (same, range) far.matched;
        was_there = rw same far.was_there;
        complete = rw (same, range, frontier, where_at) far.complete;
        reached = rw (same, frontier, where_at) far.reached;
        next_page = rw (same, frontier, where_at) far.next_page;
      };
    }) tt

-- what `next` answers
pub next_goes : {sets : DeadSets} (at : Circumstances) (st : State) (start : Entry → Bool) (history : List Action) (number : ℕ) (call : Call) (before after : ScanOp) (answer : Option Entry)
    → CallFits st sets start history number call (Scan before) → IsNext before answer after → SessionEvent at st st sets start history number call (Some (Scan after)) (Gave answer)
next_goes {sets} at st start history number call before after None fits next =
    event_of_nothing at st st start history number call call (Scan after) (Gave None) fits.world refl (record { none = refl; after_is = refl }) tt fits.meets fits.running
    (subst (λ (op : ScanOp). OpRuns st sets start history call (Scan op)) (sym next.1) fits.runs) tt
next_goes {sets} at st start history number call before after (Some e) fits next = gave_goes at st start history number call before after e fits next

-- on a way a scan has read beyond what isn't beyond its frontier
after_on : (frontier : Bound) (at : ScanAt) (e : Entry) → IsUnderway at → IsAfter frontier at e → is_past frontier e ≡ false
after_on frontier Start e under h = h
after_on frontier (At position) e under h = h
after_on frontier Last e under h = absurd under

on_after : (frontier : Bound) (at : ScanAt) (e : Entry) → IsUnderway at → is_past frontier e ≡ false → IsAfter frontier at e
on_after frontier Start e under h = h
on_after frontier (At position) e under h = h
on_after frontier Last e under h = absurd under

-- a scan that goes on to another page has read nothing more
goes_to : (start : Entry → Bool) (history : List Action) (began : ℕ) (given : List Entry) (op : ScanOp) (position : Position) → IsUnderway op.at
    → IsScanSoFar start history began given op → IsScanSoFar start history began given (moved_to op position)
goes_to start history began given op position under far = record {
  ascending = far.ascending;
  matched = far.matched;
  was_there = far.was_there;
  complete = λ e is_after. far.complete e (on_after op.frontier op.at e under is_after);
  reached = λ e h. after_on op.frontier op.at e under (far.reached e h);
  next_page = λ e not. far.next_page e (λ is_after. not (after_on op.frontier op.at e under is_after));
}

-- the steps of a scan
module _ {sets : DeadSets} (at : Circumstances) (old new : State) (start : Entry → Bool) (history : List Action) (number : ℕ) (call : Call) (before after : ScanOp)
    (fits : CallFits old sets start history number call (Scan before)) (session : after.session ≡ before.session) (range : after.range ≡ before.range) where
  pub reading_goes : (count : ℕ) → IsReading old new before after count → OpEvent at old new sets start history number call (Scan after) (Ready count)
  reading_goes count step =
      step_is_ready at old new start history number call (Scan before) (Scan after) fits session (ap AskScan range) count
      (works_on before.session (AskScan before.range) None old new refl step.does) refl step.fits
      (so_far_read old start history call.began call.given before after fits.world (began_before start history number call fits.meets fits.running)
      range step.none step.position step.from step.read fits.runs.knows) tt

  pub ready_goes : (count : ℕ) → IsWaiting old new before after count ⊎ IsReading old new before after count → OpEvent at old new sets start history number call (Scan after) (Ready count)
  ready_goes count (inr step) = reading_goes count step
  ready_goes count (inl step) = step_is_ready at old new start history number call (Scan before) (Scan after) fits session (ap AskScan range) count
      (works_nothing before.session (AskScan before.range) old new step.state fits.world.order) refl
      (subst (λ (st : State). ScanInvariant st after) (sym step.state) (subst (λ (op : ScanOp). ScanInvariant old op) (sym step.op) fits.runs.fits))
      (subst (λ (op : ScanOp). IsScanSoFar start history call.began call.given op) (sym step.op) fits.runs.knows) tt

  -- the step that finds all given
  pub done_goes : IsDone old new before after → OpEvent at old new sets start history number call (Scan after) Done
  done_goes step =
      let far = fits.runs.knows in
      let all : call.given ++ waiting before ≡ call.given = ap (λ (xs : List Entry). call.given ++ xs) step.none ∙ append-nil call.given in
      let answer : IsScanAnswer start history before.range call.began (length history) call.given = record {
        only = record {
          ascending = subst IsAscending all far.ascending;
          matched = λ e h. far.matched e (subst (λ (xs : List Entry). is_among xs e ≡ true) (sym all) h);
          was_there = λ e h. far.was_there e (subst (λ (xs : List Entry). is_among xs e ≡ true) (sym all) h);
        };
        all = λ e within match through. subst (λ (xs : List Entry). is_among xs e ≡ true) all (far.complete e (subst (λ (a : ScanAt). IsAfter before.frontier a e) (sym step.last) tt) match through);
      } in
      record {
        effect = None;
        then_call = ended call EndsFinished (length history);
        works = works_nothing call.session call.ask old new step.state fits.world.order;
        asked = tt;
        told = record { none = refl; after_is = refl };
        caused = tt;
        meets = subst (λ (l : List Action). Meets start l number (ended call EndsFinished (length history))) (sym (append-nil history)) (record {
          began = began_before start history number call fits.meets fits.running;
          until = omega arith;
          right = subst (λ (a : Ask). AnswersRight start history number call.began (length history) a call.given call.added EndsFinished) (sym fits.runs.ask) answer;
        });
        holds = λ h. cc;
        deletions = λ more. absurd (let k : true ≡ false = more in cc);
      }

  -- a step that goes on to another page
  pub moving_goes : IsMoving old new before after → OpEvent at old new sets start history number call (Scan after) Going
  moving_goes step = step_goes_on at old new start history number call (Scan before) (Scan after) fits session (ap AskScan range) None
      (works_on before.session (AskScan before.range) None old new refl step.does) tt refl step.fits
      (subst (λ (l : List Action). IsScanSoFar start l call.began call.given after) (sym (append-nil history))
      (subst (λ (op : ScanOp). IsScanSoFar start history call.began call.given op) (sym step.op) (goes_to start history call.began call.given before step.position step.from fits.runs.knows))) tt

-- a call that is no scan has no next entry
no_scan_next : (sets : DeadSets) (op : Op) → ((scan : ScanOp) → op ≡ Scan scan → ⊥) → (causes_of_asked_next (asked_of sets op)).no_such_session ≡ true
no_scan_next sets (Insert op) none = refl
no_scan_next sets (Scan op) none = absurd (none op refl)
no_scan_next sets (Bulk set op) none = refl
no_scan_next sets (Cleanup op) none = refl

pub next_refused : {sets : DeadSets} (st : State) (start : Entry → Bool) (history : List Action) (number : ℕ) (call : Call) (op : Op) → ((scan : ScanOp) → op ≡ Scan scan → ⊥)
    → CallFits st sets start history number call op → SessionEvent (causes_of_asked_next call.ask) st st sets start history number call (Some op) (Refused NoSession)
next_refused {sets} st start history number call op none fits =
    event_of_nothing (causes_of_asked_next call.ask) st st start history number call call op (Refused NoSession) fits.world refl (refl, refl)
    (ap (λ (a : Ask). (causes_of_asked_next a).no_such_session) fits.runs.ask ∙ no_scan_next sets op none) fits.meets fits.running fits.runs fits.deletions

-- a scan that goes on to another page stands on no leaf,
pub moving_stands : (old new : State) (before after : ScanOp) → IsMoving old new before after → after.leaf ≡ None
moving_stands old new before after step = ap (λ (op : ScanOp). op.leaf) step.op

-- and one that has read a leaf stands on it
pub ready_stands : (old new : State) (before after : ScanOp) (count : ℕ) → IsWaiting old new before after count ⊎ IsReading old new before after count → waiting before ≡ []
    → StandsOnLeaf new (Some (Scan after))
ready_stands old new before after count (inl step) none = absurd (let many : count ≡ 0 = step.count_is ∙ ap length none in let some = step.some in omega arith)
ready_stands old new before after count (inr step) none = record {
  block = step.position.block;
  page = step.page;
  leaf = step.leaf;
  live = subst (λ (ps : List Page). IsLeafAt ps step.position.block step.page) (sym (ap (λ (st : State). st.pages) step.does.changes)) step.live;
  of_leaf = step.of_leaf;
}

-- a call that is over stands nowhere
pub stands_over : (new : State) (before : Option Op) (answer : Answer) → is_last answer ≡ true → StandsByAnswer new before None answer
stands_over new None answer last = tt
stands_over new (Some (Insert op)) answer last = tt
stands_over new (Some (Bulk set op)) answer last = tt
stands_over new (Some (Cleanup op)) answer last = tt
stands_over new (Some (Scan op)) Going last = absurd cc
stands_over new (Some (Scan op)) (Ready count) last = absurd cc
stands_over new (Some (Scan op)) Begun last = tt
stands_over new (Some (Scan op)) (Added action unfinished) last = tt
stands_over new (Some (Scan op)) Done last = tt
stands_over new (Some (Scan op)) (Finished stats) last = tt
stands_over new (Some (Scan op)) (Gave entry) last = tt
stands_over new (Some (Scan op)) Ended last = tt
stands_over new (Some (Scan op)) (Forced count) last = tt
stands_over new (Some (Scan op)) (Flushed block) last = tt
stands_over new (Some (Scan op)) (Checkpointed count) last = tt
stands_over new (Some (Scan op)) (Refused fault) last = tt
