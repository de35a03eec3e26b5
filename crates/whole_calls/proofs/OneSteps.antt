-- One step of a session's call after the making of room for it, and a call that is given up because the room
-- can't be made.
use Rattle.std.proofs.Common.{◌≡◌, ◌⊎◌, ℕ, ◌≤◌, zero, suc, Bool, true, false, true≢false, not, Option, Some, None, List, [], ◌∷◌, ◌++◌, length, slice_get, slice_set, refl, sym, ap, subst, arith, inl, inr, ◌∙◌, unwrap_or}
use Rattle.whole_calls.proofs.Composing.{is_later, joined_second, goes_once}
use Rattle.whole_calls.proofs.Made.{made_alone, made_last, made_once, made_then, made_told}
use Rattle.whole_calls.proofs.Imports.{Blocked, NoSession, VacuumStats, causes_of_forced, ends_call, is_last, start_number, after_slot, RefusalChangesNothing, RunsUntilLast, Inserts, Scans, Bulks}
use Rattle.whole_calls.proofs.Imports.{Cleanups, runs_over, DoesOneAct, same_some, Step, IsMadeOf, snapshot_of, Continues, Laws, Effect, contents_after, Ask, Call, Entry, Fault, HasCause, State}
use Rattle.whole_calls.proofs.Imports.{Backing, IsLater, Ghosts, DeadSets, acts_of, IsCaused, IsAsked, AnswerMeans, slot_add, AnswersStep, Answer, Going, Finished, Checkpointed, Refused, Op}
use Rattle.whole_calls.proofs.Imports.{StoreAndSlots, Moment, IsRunningCall, Fits, EventDoes, EventEffect, here_at, here_with, slot_of, has_call, MovesCall, Steps, CallMoves, MovesOn, OthersStay}
use Rattle.whole_calls.proofs.Imports.{IsAmong, CallIsRun, cut_short, HasStepped, IsGivenUpFor, OneStepIsRun, OneStepAlways, OneStepComesTo, IsStepMade, IsRoomTried, IsMadeAsStep, is_full_vacuum}
use Rattle.whole_calls.proofs.Imports.{Checkpoint, Checkpoints, MaintainsStore, StepComesTo, causes_of_asked, RoomMeans, StepIsRun, RoomIsMade, IsOwnEffect, IsSameHistory, HasNone, EndMeans}
use Rattle.whole_calls.proofs.Lasting.{step_goes, room_then}
use Rattle.whole_calls.proofs.Refusing.{cause_wider, forced_cause, asked_after}
use Rattle.whole_calls.proofs.Tellings.{moves_tells, one_runs, runs_has_call, runs_in_slot}
use Rattle.whole_calls.proofs.Blocks.{LeavesAll, leaves_state}
use Rattle.whole_calls.specs.Parts.{RunsUnlessLast}

-- what a step tells, by its event
pub record StepsOnce {S : Type 0} (g : Ghosts S) (session least_room : ℕ) (answer : Answer) (old new : Moment S) : Type 0 where
  pub once : (number : ℕ) (call : Call) → IsRunningCall old.calls session number call → HasStepped number call answer old new
  pub idle : HasNone session old → IsSameHistory old new
  pub goes : StepIsRun g session least_room answer old new

own_of : (was_there : Entry → Bool) (call : Call) (effect : Option Effect) → IsAsked was_there call.ask call.added effect → IsOwnEffect call effect
own_of was_there call None h = tt
own_of was_there call (Some e) h = h.0

module _ {S : Type 0} {g : Ghosts S} {start : Entry → Bool} {session : ℕ} (least_room : ℕ) {answer : Answer} {x y : Moment S} (fits : Fits g start x)
    (does : EventDoes g start (MovesCall session Steps) answer x y) where
  has_stepped : (number : ℕ) (call : Call) → IsRunningCall x.calls session number call → HasStepped number call answer x y
  has_stepped number call is =
      let goes : CallMoves g start session answer x y = subst (λ (b : Bool). MovesOn g start b session answer x y) (runs_has_call g start x fits session number call is) does.also.happens in
      let same = one_runs g start x fits session number goes.number call goes.call is goes.is in
      record {
        effect = goes.effect;
        after = goes.after;
        may = (moves_tells g start x y session Steps answer tt fits does number call is).may;
        own = subst (λ (c : Call). IsOwnEffect c goes.effect) same.1 (own_of (contents_after start x.history) goes.call goes.effect goes.asked);
        told = subst (λ (c : Call). AnswerMeans answer (length x.history) goes.effect c goes.after) same.1 goes.told;
        history_is = subst (λ (n : ℕ). y.history ≡ x.history ++ acts_of n goes.effect) same.0 goes.history_is;
        calls_is = subst (λ (n : ℕ). y.calls ≡ slice_set x.calls n goes.after) same.0 goes.calls_is;
      }

  -- without a running call it is refused
  has_waited : HasNone session x → (b : Bool) → MovesOn g start b session answer x y → IsSameHistory x y
  has_waited none true goes = absurd (none goes.number goes.call goes.is)
  has_waited none false stays = record { history_is = stays.still.history_is; calls_is = stays.still.calls_is }

  steps_once : (g.backing y.store).honest ≡ true → (5 ≤ least_room → 5 ≤ (g.backing x.store).promised) → StepsOnce g session least_room answer x y
  steps_once honest room = record {
    once = has_stepped;
    idle = λ none. has_waited none (has_call x.slots session) does.also.happens;
    goes = step_goes start honest fits room does;
  }

-- after the making of room
module _ {S : Type 0} {g : Ghosts S} (session least_room : ℕ) {x y : Moment S} (room : RoomMeans g x y) where
  runs_then : (number : ℕ) (call : Call) → IsRunningCall x.calls session number call → IsRunningCall y.calls session number call
  runs_then number call is = subst (λ (cs : List Call). IsRunningCall cs session number call) (sym room.silent.calls_is) is

  none_then : HasNone session x → HasNone session y
  none_then none number call is = none number call (subst (λ (cs : List Call). IsRunningCall cs session number call) room.silent.calls_is is)

  -- a step
  pub steps_after : {answer : Answer} {z : Moment S} → IsLater (g.backing x.store) (g.backing y.store)
      → IsLater (g.backing y.store) (g.backing z.store) → StepsOnce g session least_room answer y z → OneStepIsRun g session least_room answer x z
  steps_after {answer} {z} first later step =
      let goes = room_then first later room step.goes in
      record {
        told = λ number call is. inl (stepped number call (step.once number call (runs_then number call is)));
        idle = λ none. (
            let silent = step.idle (none_then none) in
            record { history_is = silent.history_is ∙ room.silent.history_is; calls_is = silent.calls_is ∙ room.silent.calls_is });
        caused = goes.caused;
        fewer = goes.fewer;
        stats = goes.stats;
      }
    where
      stepped : (number : ℕ) (call : Call) → HasStepped number call answer y z → HasStepped number call answer x z
      stepped number call h = record {
        effect = h.effect;
        after = h.after;
        may = h.may;
        own = h.own;
        told = rw (sym room.silent.history_is) h.told;
        history_is = rw (sym room.silent.history_is) h.history_is;
        calls_is = rw (sym room.silent.calls_is) h.calls_is;
      }

  -- a call that is given up because the room couldn't be made
  pub given_up_goes : {start : Entry → Bool} (fault : Fault) (added : Option ℕ) {z : Moment S} → Fits g start y
      → HasCause (causes_of_forced (g.backing x.store) (g.backing y.store)) fault → added ≡ slot_add (slot_of y.slots session)
      → LeavesAll g session y.store z.store → EndMeans session y z → OneStepIsRun g session least_room (cut_short added fault) x z
  given_up_goes {start} fault added {z} fits cause is leaves end = record {
    told = λ number call runs. inr (given_up number call (runs_then number call runs));
    idle = λ none. record { history_is = end.history_is ∙ room.silent.history_is; calls_is = end.calls_is (none_then none) ∙ room.silent.calls_is };
    caused = λ number call runs. caused call.ask;
    fewer = λ low going. absurd (not_going added going);
    stats = λ number call runs stats finished. absurd (not_finished added finished);
  }
    where
      -- the Add of the session's call is that of its slot
      added_is : (number : ℕ) (call : Call) → IsRunningCall y.calls session number call → call.added ≡ added
      added_is number call runs =
          let r = runs_in_slot g start y fits session number call runs in
          let same : r.2.call ≡ call = (one_runs g start y fits session number r.2.number call r.2.call runs r.2.is).1 in
          let slot : slot_of y.slots session ≡ Some r.0 = ap (λ (o : Option (Option Op)). unwrap_or o None) r.1 in
          ap (λ (c : Call). c.added) (sym same) ∙ r.2.runs.added ∙ sym (is ∙ ap slot_add slot)

      given_up : (number : ℕ) (call : Call) → IsRunningCall y.calls session number call → IsGivenUpFor g number call (cut_short added fault) x z
      given_up number call runs = record {
        fault = fault;
        cause = subst (λ (b : Backing). HasCause (causes_of_forced (g.backing x.store) b) fault) (sym leaves.backing) cause;
        answer_is = ap (λ (a : Option ℕ). cut_short a fault) (sym (added_is number call runs));
        history_is = end.history_is ∙ room.silent.history_is;
        calls_is = rw (sym room.silent.history_is, sym room.silent.calls_is) (end.ended_is number call runs);
      }

      forced : (a : Option ℕ) (f : Fault) → HasCause (causes_of_forced (g.backing x.store) (g.backing y.store)) f → IsCaused (causes_of_forced (g.backing x.store) (g.backing y.store)) (cut_short a f)
      forced None f h = h
      forced (Some action) f h = h

      caused : (ask : Ask)
          → IsCaused (causes_of_asked g session least_room (start_number (g.state x.store) session) (is_full_vacuum (slot_of x.slots session)) ask (here_at x) z.store) (cut_short added fault)
      caused ask =
          let full = is_full_vacuum (slot_of x.slots session) in
          let number = start_number (g.state x.store) session in
          rw (asked_after g session least_room number full ask (here_at x) y.store z.store leaves)
          (cause_wider _ _ (forced_cause g session least_room number full ask (here_at x) y.store) (cut_short added fault) (forced added fault cause))

      not_going : (a : Option ℕ) → cut_short a fault ≡ Going → ⊥
      not_going None e = cc
      not_going (Some action) e = cc

      not_finished : {stats : VacuumStats} (a : Option ℕ) → cut_short a fault ≡ Finished stats → ⊥
      not_finished None e = cc
      not_finished (Some action) e = cc

-- a step after the making of room for it
pub room_goes : {S : Type 0} {g : Ghosts S} (laws : Laws g) {session least_room : ℕ} {answer : Answer} {Both : Moment S → Moment S → Type 0} {first : Option Answer} {a b c : StoreAndSlots S}
    → Continues g.follows a.store b.store → Continues g.follows b.store c.store → CallIsRun g session (RoomMeans g) first a b
    → (5 ≤ least_room → 5 ≤ (g.backing b.store).promised) → EventEffect g (MovesCall session Steps) answer b c
    → ((x y z : Moment S) → IsLater (g.backing x.store) (g.backing y.store) → IsLater (g.backing y.store) (g.backing z.store)
    → RoomMeans g x y → StepsOnce g session least_room answer y z → Both x z)
    → CallIsRun g session Both (Some answer) a c
room_goes {g = g} laws {session} {least_room} {answer} {Both} {a = a} {b} {c} steps then_steps goes promise makes joins =
    joined_second laws (λ s. Both) steps then_steps goes
    (goes_once laws {Tells = StepsOnce g session least_room answer} (Step session) refl makes (λ start h hc k kc honest fits does. steps_once least_room fits does honest promise))
    (λ start h hc k kc l lc fx fy fz. joins (snapshot_of a h hc) (snapshot_of b k kc) (snapshot_of c l lc) (is_later g laws steps) (is_later g laws then_steps))

-- the step itself, if room is made for it
pub is_step_made : {S : Type 0} {g : Ghosts S} {session least_room : ℕ} {answer : Answer} {st : State} {mid new : StoreAndSlots S} → g.state mid.store ≡ st
    → RoomIsMade least_room st.format (g.backing mid.store) → EventEffect g (MovesCall session Steps) answer mid new → IsStepMade g session least_room answer mid new
is_step_made {g = g} {least_room = least_room} {mid = mid} is room makes =
    record { room = subst (λ (s : State). RoomIsMade least_room s.format (g.backing mid.store)) (sym is) room; makes = makes }

-- what makes room, and then the step
pub room_made : {S : Type 0} {g : Ghosts S} {session least_room : ℕ} {answer : Answer} {One : List Answer → Type 0} {a b c : StoreAndSlots S} → IsMadeOf g session least_room One a b
    → IsStepMade g session least_room answer b c → IsMadeOf g session least_room (λ answers. IsAmong answers answer) a c
room_made {session = session} one step = made_last one (made_once (Step session) (MovesCall session Steps) refl refl step.room step.makes)

-- ... as the events that they are
pub step_made : {S : Type 0} {g : Ghosts S} {session least_room : ℕ} {answer : Answer} {old here there : StoreAndSlots S}
    → (here ≡ old) ⊎ ((count : ℕ) × IsRoomTried g least_room (Checkpointed count) old here)
    → IsStepMade g session least_room answer here there → IsMadeOf g session least_room (StepComesTo answer) old there
step_made {S} {g} {session} {least_room} {answer} {there = there} (inl same) step =
    subst (λ (x : StoreAndSlots S). IsMadeOf g session least_room (StepComesTo answer) x there) same
    (made_told (made_alone (Step session) (MovesCall session Steps) refl refl step.room step.makes) (λ xs is. inl is))
step_made {session = session} {answer = answer} (inr tried) step =
    made_then (made_alone Checkpoint (MaintainsStore Checkpoints) refl tt tried.1.short tried.1.makes)
    (made_alone (Step session) (MovesCall session Steps) refl refl step.room step.makes)
    (λ xs ys one two. inr (tried.0, ap (λ (l : List Answer). l ++ ys) one ∙ ap (λ (l : List Answer). (Checkpointed tried.0 ∷ []) ++ l) two))

-- ... or the refusal of the room alone
pub step_short : {S : Type 0} {g : Ghosts S} {session least_room : ℕ} {fault : Fault} {old new : StoreAndSlots S} → IsRoomTried g least_room (Refused fault) old new
    → IsMadeOf g session least_room (StepComesTo (Refused fault)) old new
step_short tried = made_told (made_alone Checkpoint (MaintainsStore Checkpoints) refl tt tried.short tried.makes) (λ xs is. inl is)

-- a call goes on after an answer that isn't its last
pub runs_unless : (before after : Option Op) (answer : Answer) → RunsUntilLast before after answer → RunsUnlessLast before after answer
runs_unless None after answer until last runs = absurd (runs refl)
runs_unless (Some op) None answer until last runs = absurd (true≢false (sym (until ∙ ap not last)))
runs_unless (Some op) (Some then_op) answer until last runs = λ e. cc

-- a fault of a checkpoint ends a call
forced_ends : (old new : Backing) (fault : Fault) → HasCause (causes_of_forced old new) fault → ends_call fault ≡ true
forced_ends old new (Blocked block) h = absurd (true≢false (sym h))
forced_ends old new NoSession h = absurd (true≢false (sym h))
forced_ends old new fault h = refl

short_ends : (old new : Backing) (added : Option ℕ) (fault : Fault) → HasCause (causes_of_forced old new) fault → is_last (cut_short added fault) ≡ true
short_ends old new None fault h = forced_ends old new fault h
short_ends old new (Some action) fault h = refl

-- and its call may be told so
step_refused : (before after : Option Op) (fault : Fault) → AnswersStep before after (Refused fault)
step_refused None after fault = tt
step_refused (Some (Inserts op)) after fault = tt
step_refused (Some (Scans op)) after fault = tt
step_refused (Some (Bulks set op)) after fault = tt
step_refused (Some (Cleanups op)) after fault = tt

short_answers : (before after : Option Op) (fault : Fault) (added : Option ℕ) → added ≡ slot_add before → AnswersStep before after (cut_short added fault)
short_answers before after fault None is = step_refused before after fault
short_answers None after fault (Some action) is = absurd cc
short_answers (Some (Inserts op)) after fault (Some action) is = tt
short_answers (Some (Scans op)) after fault (Some action) is = absurd cc
short_answers (Some (Bulks set op)) after fault (Some action) is = absurd cc
short_answers (Some (Cleanups op)) after fault (Some action) is = absurd cc

-- a session that runs nothing after the last answer of its call
over_at_last : (before after : Option Op) (answer : Answer) → after ≡ None → is_last answer ≡ true → RunsUntilLast before after answer
over_at_last before after answer over last = rw over (by before)
  where
    by : (o : Option Op) → RunsUntilLast o None answer
    by None = refl
    by (Some op) = sym (ap not last)

-- a step that is blocked
blocked_keeps : (old new : State) (before after : Option Op) (block : ℕ) → RefusalChangesNothing old new before after (Refused (Blocked block)) → (new ≡ old) × (after ≡ before)
blocked_keeps old new None after block h = h
blocked_keeps old new (Some op) after block h = (h.state, h.slot_is)

-- lists with the same elements
same_list : (xs ys : List (Option Op)) → length xs ≡ length ys → ((i : ℕ) → slice_get xs i ≡ slice_get ys i) → xs ≡ ys
same_list [] [] long at = refl
same_list [] (y ∷ ys) long at = absurd (omega (arith, long))
same_list (x ∷ xs) [] long at = absurd (omega (arith, long))
same_list (x ∷ xs) (y ∷ ys) long at = ap (λ (o : Option Op). o ∷ xs) (same_some (Some x) x y refl (at 0))
    ∙ ap (λ (l : List (Option Op)). y ∷ l) (same_list xs ys (omega (arith, long)) (λ i. at (suc i)))

-- the slots are the same if one session's is, and all others
same_slots : (xs ys : List (Option Op)) (session : ℕ) → length xs ≡ length ys → OthersStay session ys xs → slot_of xs session ≡ slot_of ys session → xs ≡ ys
same_slots [] [] session long others own = refl
same_slots [] (y ∷ ys) session long others own = absurd (omega (arith, long))
same_slots (x ∷ xs) [] session long others own = absurd (omega (arith, long))
same_slots (x ∷ xs) (y ∷ ys) zero long others own =
    ap (λ (o : Option Op). o ∷ xs) own ∙ ap (λ (l : List (Option Op)). y ∷ l) (same_list xs ys (omega (arith, long)) (λ i. others (suc i) (λ e. omega (arith, e))))
same_slots (x ∷ xs) (y ∷ ys) (suc session) long others own =
    ap (λ (o : Option Op). o ∷ xs) (same_some (Some x) x y refl (others 0 (λ e. omega (arith, e))))
    ∙ ap (λ (l : List (Option Op)). y ∷ l) (same_slots xs ys session (omega (arith, long)) (λ i ne. others (suc i) (λ e. ne (omega (arith, e)))) own)

module _ {S : Type 0} (g : Ghosts S) (session : ℕ) {store mid : S} {slots : List (Option Op)} {sets : DeadSets} (same : g.state mid ≡ g.state store) where
  -- what always holds of a step after the making of room
  pub always_steps : {answer : Answer} {new : S} {then_slots : List (Option Op)} → EventEffect g (MovesCall session Steps) answer (here_with mid slots sets) (here_with new then_slots sets)
      → OneStepAlways g session answer (here_with store slots sets) (here_with new then_slots sets)
  always_steps {answer} {new} {then_slots} makes = record {
    answers = makes.always.answers;
    until_last = makes.always.until_last;
    runs_on = makes.always.runs_on;
    others = makes.always.others session refl;
    kept = subst (λ (st : State). DoesOneAct st (g.state new)) same makes.always.kept;
    blocked = λ block is. (
        let b = blocked_keeps (g.state mid) (g.state new) (slot_of slots session) (slot_of then_slots session) block
        (subst (λ (a : Answer). RefusalChangesNothing (g.state mid) (g.state new) (slot_of slots session) (slot_of then_slots session) a) is makes.always.refused) in
        record { state_is = b.0 ∙ same; slots_is = same_slots then_slots slots session makes.sessions (makes.always.others session refl) b.1 });
  }

  -- ... and of a call that is given up for a fault
  pub always_given_up : (fault : Fault) (added : Option ℕ) {new : S} {then_slots : List (Option Op)}
      → HasCause (causes_of_forced (g.backing store) (g.backing mid)) fault → added ≡ slot_add (slot_of slots session)
      → g.state new ≡ after_slot (slot_of slots session) (g.state mid) → OthersStay session slots then_slots
      → slot_of then_slots session ≡ None → OneStepAlways g session (cut_short added fault) (here_with store slots sets) (here_with new then_slots sets)
  always_given_up fault added {new} {then_slots} cause is ended others over =
      let left = leaves_state (slot_of slots session) (g.state mid) (g.state new) ended in
      let last = short_ends (g.backing store) (g.backing mid) added fault cause in
      record {
        answers = short_answers (slot_of slots session) (slot_of then_slots session) fault added is;
        until_last = over_at_last (slot_of slots session) (slot_of then_slots session) (cut_short added fault) over last;
        runs_on = runs_over (slot_of slots session) (slot_of then_slots session) over;
        others = others;
        kept = record {
          acts = inl (left.acts ∙ ap (λ (st : State). st.acts) same);
          quiet = λ e. left.pages ∙ ap (λ (st : State). st.pages) same;
          format = left.format ∙ ap (λ (st : State). st.format) same;
          frames = left.frames ∙ ap (λ (st : State). st.frames) same;
        };
        blocked = λ block e. absurd (true≢false (sym last ∙ ap is_last e));
      }

-- by which answers a call was given up
pub short_comes : (added : Option ℕ) (fault : Fault) (answers : List Answer) → IsAmong answers (Refused fault) → OneStepComesTo (cut_short added fault) answers
short_comes None fault answers h = inl h
short_comes (Some action) fault answers h = inr (action, fault, refl, h)

-- the step after the making of room
pub after_room : {S : Type 0} {g : Ghosts S} {session least_room : ℕ} {answer : Answer} {old here there : StoreAndSlots S} → (here ≡ old)
    ⊎ ((count : ℕ) × IsRoomTried g least_room (Checkpointed count) old here) → IsStepMade g session least_room answer here there
    → IsMadeAsStep g session least_room answer old there
after_room {S} {g} {session} {least_room} {answer} {there = there} (inl same) step = inl (subst (λ (x : StoreAndSlots S). IsStepMade g session least_room answer x there) same step)
after_room {here = here} (inr tried) step = inr (inl (record { count = tried.0; between = here; checkpoint = tried.1; step = step }))
