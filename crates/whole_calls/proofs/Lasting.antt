-- One moment after another, while a session's call goes on.
use Rattle.std.proofs.Common.{◌≡◌, ◌≤◌, ◌⊎◌, ℕ, Bool, true, false, Option, Some, None, Result, Ok, List, [], refl, sym, ap, subst, inl, inr, ◌∙◌, unwrap_or}
use Rattle.whole_calls.proofs.Composing.{is_later, goes_told, goes_once, joined_first}
use Rattle.whole_calls.proofs.Imports.{causes_of_forced, is_last, start_number, Ask, AskScan, Call, HasCause, Entry, Fault, State, IsLater, Continues, Ghosts, DeadSets, IsCaused, asked_of}
use Rattle.whole_calls.proofs.Imports.{AnswersNext, Answer, Going, Ready, Gave, Refused, Op, StoreAndSlots, Moment, snapshot_of, IsRunningCall, Fits, MovesCall, Steps, Takes, EventDoes}
use Rattle.whole_calls.proofs.Imports.{EventEffect, here_at, slot_of, Laws, CallIsRun, AnswersSeek, SessionScanMeans, ScanIsUnanswered, SessionGivenMeans, given_of, given_outcome, another_runs}
use Rattle.whole_calls.proofs.Imports.{is_full_vacuum, causes_of_asked, ScanIsCaused, RoomMeans, Lasts, StepIsRun, HasReached, ScanGivesNothing, ScanIsRun, Followed, IsCountedAs, SessionStepMeans}
use Rattle.whole_calls.proofs.Imports.{EndMeans, Next}
use Rattle.whole_calls.proofs.Counting.{step_counts}
use Rattle.whole_calls.proofs.Given.{give_comes, some_given, end_given, scan_told, scan_then, stays_then, going_stays, ready_stays, none_stays}
use Rattle.whole_calls.proofs.Gone.{far_nowhere, far_then, gone_nowhere, silent_then}
use Rattle.whole_calls.proofs.Refusing.{AsksToCount, cause_wider, gone_wider, asked_wider, forced_cause, next_caused, step_caused, others_before}
use Rattle.whole_calls.proofs.Spending.{takes_fewer}
use Rattle.whole_calls.proofs.Statistics.{finish_tells, finish_over}
use Rattle.whole_calls.proofs.Tellings.{runs_in_slot, one_runs, moves_tells, kept_not_exists}

module _ {S : Type 0} {g : Ghosts S} {session : ℕ} where
  pub lasts_then : {x y z : Moment S} → Lasts g session x y → Lasts g session y z → Lasts g session x z
  lasts_then one two = record { steps = λ f h. two.steps f (one.steps f h); others = λ other apart. two.others other apart ∙ one.others other apart }

  pub later_of : Laws g → {x y : Moment S} → Lasts g session x y → IsLater (g.backing x.store) (g.backing y.store)
  later_of laws lasts = is_later g laws lasts.steps

  pub busier_of : {x y : Moment S} → Lasts g session x y → another_runs y.slots session ≡ true → another_runs x.slots session ≡ true
  busier_of {x} {y} lasts = others_before x.slots y.slots session lasts.others

  -- before the first step
  pub reached_here : (x : Moment S) → HasReached g session x x
  reached_here x =
      record { lasts = record { steps = λ f h. h; others = λ other apart. refl }; sets_are = refl; format_is = refl; far = far_nowhere session x; counted = λ what so. so; numbers = refl }

  -- a step that goes on
  pub moved_beyond : {least_room : ℕ} {answer : Answer} {x y z : Moment S} → answer ≡ Going → HasReached g session x y → Lasts g session y z → z.sets ≡ y.sets
      → (g.state z.store).format ≡ (g.state y.store).format → StepIsRun g session least_room answer y z → HasReached g session x z
  moved_beyond {x = x} {y} {z} going gone lasts sets format step = record {
    lasts = lasts_then gone.lasts lasts;
    sets_are = sets ∙ gone.sets_are;
    format_is = format ∙ gone.format_is;
    numbers = step.numbers going ∙ gone.numbers;
    far = far_then session x y z gone.far (subst (λ (a : Answer). SessionStepMeans session a y z) going step.told);
    counted = λ what so. (
        let counts : IsCountedAs what y.sets (g.state y.store) (slot_of y.slots session) → IsCountedAs what y.sets (g.state z.store) (slot_of z.slots session) = rw going at (step.counts what) in
        in_sets what x.sets y.sets (g.state z.store) (slot_of z.slots session) (sym gone.sets_are)
        (counts (in_sets what y.sets x.sets (g.state y.store) (slot_of y.slots session) gone.sets_are (gone.counted what so))));
  }
    where
      in_sets : (what : Followed) (sets other : DeadSets) (st : State) (slot : Option Op) → sets ≡ other → IsCountedAs what other st slot → IsCountedAs what sets st slot
      in_sets what sets other st slot same h = subst (λ (l : DeadSets). IsCountedAs what l st slot) (sym same) h

  -- a step, by its event
  pub step_goes : (start : Entry → Bool) {least_room : ℕ} {answer : Answer} {x y : Moment S}
      → (g.backing y.store).honest ≡ true → Fits g start x → (5 ≤ least_room → 5 ≤ (g.backing x.store).promised)
      → EventDoes g start (MovesCall session Steps) answer x y → StepIsRun g session least_room answer x y
  step_goes start {least_room} {answer} {x} {y} honest fits room does = record {
    told = λ number call is. inl (moves_tells g start x y session Steps answer tt fits does number call is);
    caused = step_caused g start session least_room answer x y fits room does;
    counts = λ what. step_counts g start session x y fits what answer does;
    fewer = takes_fewer g start session answer x y honest fits does;
    numbers = λ going. does.also.always.tells.starts (ap is_last going);
    stats = finish_tells g start session answer x y fits does;
    over = finish_over g start session answer x y does;
  }

  -- after the making of room
  pub room_then : {least_room : ℕ} {answer : Answer} {x y z : Moment S} → IsLater (g.backing x.store) (g.backing y.store) → IsLater (g.backing y.store) (g.backing z.store)
      → RoomMeans g x y → StepIsRun g session least_room answer y z → StepIsRun g session least_room answer x z
  room_then {least_room} {answer} {x} {y} {z} first later room step = record {
    told = silent_then session answer x y z room.silent step.told;
    caused = λ number call is. (
        let runs = subst (λ (cs : List Call). IsRunningCall cs session number call) (sym room.silent.calls_is) is in
        let busy = λ (h : another_runs y.slots session ≡ true). subst (λ (l : List (Option Op)). another_runs l session ≡ true) room.slots_are h in
        let full = λ (counts : AsksToCount call.ask) (h : is_full_vacuum (slot_of y.slots session) ≡ true).
        subst (λ (l : List (Option Op)). is_full_vacuum (slot_of l session) ≡ true) room.slots_are h in
        subst (λ (st : State). IsCaused (causes_of_asked g session least_room (start_number st session) (is_full_vacuum (slot_of x.slots session)) call.ask (here_at x) z.store) answer) room.state_is
        (cause_wider _ _ (asked_wider g session least_room (here_at x) (here_at y) z.store first later.failures busy
        (start_number (g.state y.store) session) (is_full_vacuum (slot_of y.slots session)) (is_full_vacuum (slot_of x.slots session)) call.ask full) answer
        (step.caused number call runs)));
    counts = λ what. rw (room.sets_are, room.state_is, room.slots_are) at (step.counts what);
    fewer = rw (room.state_is, room.slots_are) at step.fewer;
    numbers = λ going. step.numbers going ∙ ap (λ (st : State). st.running) room.state_is;
    stats = λ number call is. step.stats number call (subst (λ (cs : List Call). IsRunningCall cs session number call) (sym room.silent.calls_is) is);
    over = step.over;
  }

  -- the room can't be made
  pub held_goes : {least_room : ℕ} {fault : Fault} {x y : Moment S} → RoomMeans g x y
      → HasCause (causes_of_forced (g.backing x.store) (g.backing y.store)) fault → StepIsRun g session least_room (Refused fault) x y
  held_goes {least_room} {fault} {x} {y} room cause = record {
    told = λ number call is. inr (record {
      fault = fault;
      refused = refl;
      before = [];
      gone = gone_nowhere session number call x y is room.silent;
      not_exists = (kept_not_exists (g.backing x.store) (g.backing y.store) fault cause).0;
      not_key_exists = (kept_not_exists (g.backing x.store) (g.backing y.store) fault cause).1;
    });
    caused = λ number call is. forced_cause g session least_room (start_number (g.state x.store) session) (is_full_vacuum (slot_of x.slots session)) call.ask (here_at x) y.store fault cause;
    counts = λ what runs so. rw (room.state_is, room.slots_are) so;
    fewer = λ low going. absurd cc;
    numbers = λ going. absurd cc;
    stats = λ number call is stats finished. absurd cc;
    over = λ stats finished. absurd cc;
  }

  -- a scan of which nothing is told goes on, or has its step
  pub waits_here : (x : Moment S) → ScanGivesNothing g session x x
  waits_here x = record { lasts = record { steps = λ f h. h; others = λ other apart. refl }; stays = λ number call range is ask. record { history_is = refl; calls_is = refl } }

  pub waits_then : {x y z : Moment S} → ScanGivesNothing g session x y → ScanGivesNothing g session y z → ScanGivesNothing g session x z
  waits_then {x} {y} {z} one two = record { lasts = lasts_then one.lasts two.lasts; stays = stays_then session x y z one.stays two.stays }

  pub waits_after : {least_room : ℕ} {answer : Answer} {x y z : Moment S} → ScanGivesNothing g session x y → ScanIsRun g session least_room answer y z → ScanIsRun g session least_room answer x z
  waits_after one two = record { last = two.last; waits = waits_then one two.waits; lasts = two.lasts; told = two.told; caused = two.caused }

  -- an answer with which it isn't at its end
  pub waits_on : {least_room : ℕ} {answer : Answer} {x y : Moment S} → (answer ≡ Going) ⊎ ((count : ℕ) × (answer ≡ Ready count))
      → ScanIsRun g session least_room answer x y → ScanGivesNothing g session x y
  waits_on {answer = answer} {y = y} on goes = waits_then goes.waits (record { lasts = goes.lasts; stays = by on })
    where
      by : (answer ≡ Going) ⊎ ((count : ℕ) × (answer ≡ Ready count)) → ScanIsUnanswered session goes.last y
      by (inl is) = going_stays session goes.last y (subst (λ (a : Answer). SessionScanMeans session a goes.last y) is goes.told)
      by (inr is) = ready_stays session is.0 goes.last y (subst (λ (a : Answer). SessionScanMeans session a goes.last y) is.1 goes.told)

  -- one that has no entry ready
  pub waits_none : {least_room : ℕ} {answer : Answer} {x y : Moment S} → answer ≡ Gave None → ScanIsRun g session least_room answer x y → ScanGivesNothing g session x y
  waits_none {y = y} is goes =
      waits_then goes.waits (record { lasts = goes.lasts; stays = none_stays session goes.last y (subst (λ (a : Answer). SessionScanMeans session a goes.last y) is goes.told) })

  -- what it tells, from the moment before it
  scan_tells : {least_room : ℕ} {answer : Answer} {x y : Moment S} → ScanIsRun g session least_room answer x y → SessionScanMeans session answer x y
  scan_tells {answer = answer} {x} {y} goes = scan_then session answer x goes.last y goes.waits.stays goes.told

  -- why it is refused, told from the moment before it
  pub scan_caused : Laws g → {least_room : ℕ} {answer : Answer} {x y : Moment S} → ScanIsRun g session least_room answer x y → ScanIsCaused g session least_room answer x y
  scan_caused laws {least_room} {answer} {x} {y} goes number call range is ask =
      let silent = goes.waits.stays number call range is ask in
      let runs = subst (λ (cs : List Call). IsRunningCall cs session number call) (sym silent.calls_is) is in
      cause_wider _ _ (gone_wider g session least_room (here_at x) (here_at goes.last) y.store (later_of laws goes.waits.lasts) (later_of laws goes.lasts).failures
      (busier_of goes.waits.lasts) false false (λ f. f)) answer (goes.caused number call range runs ask)

  -- what it gives that came to this
  pub scan_gives : {least_room : ℕ} (came : Answer) (entry : Entry) {a b : StoreAndSlots S} → AnswersSeek came → given_of came ≡ Ok (Some entry)
      → CallIsRun g session (ScanIsRun g session least_room came) (Some came) a b → CallIsRun g session (SessionGivenMeans session (Ok (Some entry))) (given_outcome (Ok (Some entry))) a b
  scan_gives came entry {a} {b} kind is goes =
      goes_told _ goes
      (λ start h hc k kc answers fits by t. (rw is at (give_comes came answers kind by), some_given session came entry (snapshot_of a h hc) (snapshot_of b k kc) kind is (scan_tells t)))

  -- one that has given no entry, and then is over
  pub scan_ends : Laws g → {least_room : ℕ} (came : Answer) (given : Result (Option Entry) Fault) {old mid new : StoreAndSlots S} → AnswersSeek came → given_of came ≡ given
      → ((entry : Entry) → given ≡ Ok (Some entry) → ⊥) → Continues g.follows old.store mid.store → Continues g.follows mid.store new.store
      → CallIsRun g session (ScanIsRun g session least_room came) (Some came) old mid → CallIsRun g session (EndMeans session) None mid new
      → CallIsRun g session (SessionGivenMeans session given) (given_outcome given) old new
  scan_ends laws {least_room} came given {old} {mid} {new} kind is none steps then_steps goes ends =
      joined_first laws (λ s. SessionGivenMeans session given) steps then_steps
      (goes_told (λ s. ScanIsRun g session least_room came) goes (λ start h hc k kc answers fits by t. (rw is at (give_comes came answers kind by), t))) ends
      (λ start h hc k kc l lc fx fy fz one two. subst (λ (r : Result (Option Entry) Fault). SessionGivenMeans session r (snapshot_of old h hc) (snapshot_of new l lc)) is
      (end_given g start session came (snapshot_of old h hc) (snapshot_of mid k kc) (snapshot_of new l lc) fx kind (λ entry some. none entry (sym is ∙ some)) (scan_tells one) two))

  -- a step of it
  pub scan_steps : {least_room : ℕ} {answer : Answer} {x y : Moment S} → Lasts g session x y → StepIsRun g session least_room answer x y → ScanIsRun g session least_room answer x y
  scan_steps {least_room} {answer} {x} {y} lasts step = record {
    last = x;
    waits = waits_here x;
    lasts = lasts;
    told = scan_told session answer x y step.told;
    caused = λ number call range is ask. (
        let full = is_full_vacuum (slot_of x.slots session) in
        subst (λ (a : Ask). IsCaused (causes_of_asked g session least_room (start_number (g.state x.store) session) full a (here_at x) y.store) answer) ask (step.caused number call is));
  }

  -- asking it for its next entry
  pub scan_nexts : Laws g → {least_room : ℕ} {answer : Answer} {a b : StoreAndSlots S} → Continues g.follows a.store b.store → EventEffect g (MovesCall session Takes) answer a b
      → CallIsRun g session (ScanIsRun g session least_room answer) (Some answer) a b
  scan_nexts laws {least_room} {answer} {a} {b} steps makes = goes_once laws (Next session) refl makes (λ start h hc k kc honest. by start (snapshot_of a h hc) (snapshot_of b k kc)
      (record { steps = steps; others = makes.always.others session refl }))
    where
      by : (start : Entry → Bool) (x y : Moment S) → Lasts g session x y → Fits g start x → EventDoes g start (MovesCall session Takes) answer x y → ScanIsRun g session least_room answer x y
      by start x y lasts fits does = record {
        last = x;
        waits = waits_here x;
        lasts = lasts;
        told = λ number call range is ask. inl (moves_tells g start x y session Takes answer tt fits does number call is);
        caused = λ number call range is ask. (
            let r = runs_in_slot g start x fits session number call is in
            let same : r.2.call ≡ call = (one_runs g start x fits session number r.2.number call r.2.call is r.2.is).1 in
            let asks : asked_of x.sets r.0 ≡ AskScan range = sym r.2.runs.ask ∙ ap (λ (k : Call). k.ask) same ∙ ask in
            let slot : slot_of x.slots session ≡ Some r.0 = ap (λ (o : Option (Option Op)). unwrap_or o None) r.1 in
            next_caused _ x.sets r.0 range answer asks (subst (λ (o : Option Op). AnswersNext o answer) slot does.also.always.answers));
      }
