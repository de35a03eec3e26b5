-- What an event tells of a running call, as far as a record tells it.
use Rattle.std.proofs.Common.{◌≡◌, ℕ, zero, suc, ◌+◌, Bool, true, false, List, [], ◌++◌, length, Option, Some, None, slice_set, unwrap_or, refl, sym, ap, ◌∙◌, subst, inl, inr, arith, length-append}
use Rattle.page_action.specs.Causes.{causes_of_forced}
use Rattle.shared_world.proofs.Imports.{append-nil, Action, Effect, Call, Running, HasCause, Entry, Fault, Blocked, NoSession, Backing, Ghosts, ends_call, is_last, AnswerMeans, AnswersStep, act_count, slot_add, slot_of}
use Rattle.shared_world.proofs.Imports.{acts_of, Answer, Begun, Going, Added, Ready, Done, Finished, Gave, Ended, Forced, Flushed, Checkpointed, Refused, Op, Inserts, Scans, Bulks, Cleanups}
use Rattle.shared_world.proofs.Imports.{CallMoves, MovesOn, EventDoes, Move, MovesCall, Moment, IsRunningCall, Fits, cut_short, HasStepped, IsGivenUpFor, ending_by, HasEndedBy, IsBlocked, one_runs}
use Rattle.shared_world.proofs.Imports.{runs_has_call, runs_in_slot, given_after}
use Rattle.shared_world.proofs.Keeping.{AllBy}

-- the call is the same except for its Add and its end, and has given this
pub record IsStillOf (call : Call) (given : List Entry) (after : Call) : Type 0 where
  pub session_is : after.session ≡ call.session
  pub ask_is : after.ask ≡ call.ask
  pub began_is : after.began ≡ call.began
  pub given_is : after.given ≡ given

-- an answer that no step gives
abbrev pub IsOfStep : Answer → Type 0
IsOfStep (Gave entry) = ⊥
IsOfStep answer = Unit {0}

pub steps_no_gift : (before after : Option Op) (answer : Answer) → AnswersStep before after answer → IsOfStep answer
steps_no_gift None after (Gave entry) h = h
steps_no_gift (Some (Inserts op)) after (Gave entry) h = h
steps_no_gift (Some (Scans op)) after (Gave entry) h = h
steps_no_gift (Some (Bulks set op)) after (Gave entry) h = h
steps_no_gift (Some (Cleanups op)) after (Gave entry) h = h
steps_no_gift before after answer h = tt

-- the call goes on after an answer that isn't its last
pub told_on : (answer : Answer) (count : ℕ) (effect : Option Effect) (call after : Call) → IsOfStep answer → is_last answer ≡ false → AnswerMeans answer count effect call after
    → IsStillOf call call.given after × (after.ending ≡ call.ending)
told_on Going count effect call after of on h = rw h (record { session_is = refl; ask_is = refl; began_is = refl; given_is = refl }, refl)
told_on (Ready ready) count effect call after of on h = rw h.after_is (record { session_is = refl; ask_is = refl; began_is = refl; given_is = refl }, refl)
told_on (Refused fault) count effect call after of on h = rw (h.1, on) (record { session_is = refl; ask_is = refl; began_is = refl; given_is = refl }, refl)
told_on (Gave entry) count effect call after of on h = absurd of
told_on Begun count effect call after of on h = absurd h
told_on (Forced count') count effect call after of on h = absurd h
told_on (Flushed block) count effect call after of on h = absurd h
told_on (Checkpointed count') count effect call after of on h = absurd h
told_on answer count effect call after of on h = absurd cc

-- ... and has ended after its last
pub told_last : (answer : Answer) (count : ℕ) (effect : Option Effect) (call after : Call) → is_last answer ≡ true → AnswerMeans answer count effect call after
    → IsStillOf call call.given after × (after.ending ≡ ending_by answer) × (after.until ≡ act_count effect + count)
told_last (Added action unfinished) count effect call after last h = rw h.after_is (record { session_is = refl; ask_is = refl; began_is = refl; given_is = refl }, refl, refl)
told_last Done count effect call after last h = rw (h.after_is, h.none) (record { session_is = refl; ask_is = refl; began_is = refl; given_is = refl }, refl, omega arith)
told_last (Finished stats) count effect call after last h = rw (h.after_is, h.none) (record { session_is = refl; ask_is = refl; began_is = refl; given_is = refl }, refl, omega arith)
told_last Ended count effect call after last h = rw (h.after_is, h.none) (record { session_is = refl; ask_is = refl; began_is = refl; given_is = refl }, refl, omega arith)
told_last (Refused fault) count effect call after last h = rw (h.1, h.0, last) (record { session_is = refl; ask_is = refl; began_is = refl; given_is = refl }, refl, omega arith)
told_last answer count effect call after last h = absurd cc

-- the call goes on after an answer that isn't its last, and has given what that gives
told_moved : (answer : Answer) (count : ℕ) (effect : Option Effect) (call after : Call) → is_last answer ≡ false → AnswerMeans answer count effect call after
    → IsStillOf call (given_after answer call.given) after × (after.ending ≡ call.ending)
told_moved Going count effect call after on h = told_on Going count effect call after tt on h
told_moved (Ready ready) count effect call after on h = told_on (Ready ready) count effect call after tt on h
told_moved (Refused fault) count effect call after on h = told_on (Refused fault) count effect call after tt on h
told_moved (Gave None) count effect call after on h = rw h.after_is (record { session_is = refl; ask_is = refl; began_is = refl; given_is = refl }, refl)
told_moved (Gave (Some e)) count effect call after on h = rw h.after_is (record { session_is = refl; ask_is = refl; began_is = refl; given_is = refl }, refl)
told_moved Begun count effect call after on h = absurd h
told_moved (Forced count') count effect call after on h = absurd h
told_moved (Flushed block) count effect call after on h = absurd h
told_moved (Checkpointed count') count effect call after on h = absurd h
told_moved answer count effect call after on h = absurd cc

-- the actions of an event are its call's
pub by_call : (number : ℕ) (effect : Option Effect) → AllBy number (acts_of number effect)
by_call number None place action h = absurd cc
by_call number (Some effect) zero action h = cc
by_call number (Some effect) (suc place) action h = absurd cc

pub many_acts : (number : ℕ) (effect : Option Effect) → length (acts_of number effect) ≡ act_count effect
many_acts number None = refl
many_acts number (Some effect) = refl

-- the running call of this number has appended these actions and become this; no other call is changed
pub record MovesTo {S : Type 0} (number : ℕ) (call : Call) (given : List Entry) (old new : Moment S) : Type 0 where
  pub more : List Action
  pub own : AllBy number more
  pub after : Call
  pub history_is : new.history ≡ old.history ++ more
  pub calls_is : new.calls ≡ slice_set old.calls number after
  pub still : IsStillOf call given after

-- ... and still runs
pub record MovesOnTo {S : Type 0} (number : ℕ) (call : Call) (given : List Entry) (old new : Moment S) : Type 0 where
  pub to : MovesTo number call given old new
  pub runs : to.after.ending ≡ call.ending

-- the last answer of a call isn't that it is blocked
pub last_settled : (answer : Answer) → is_last answer ≡ true → IsBlocked answer → ⊥
last_settled (Refused (Blocked block)) last h = absurd cc
last_settled answer last h = h

-- a fault of a checkpoint ends a call, and so does the answer that tells it
fault_ends : (old new : Backing) (fault : Fault) → HasCause (causes_of_forced old new) fault → ends_call fault ≡ true
fault_ends old new (Blocked block) h = absurd (let no : false ≡ true = h in cc)
fault_ends old new NoSession h = absurd (let no : false ≡ true = h in cc)
fault_ends old new fault h = refl

pub short_ends : (old new : Backing) (added : Option ℕ) (fault : Fault) → HasCause (causes_of_forced old new) fault → is_last (cut_short added fault) ≡ true
short_ends old new None fault h = fault_ends old new fault h
short_ends old new (Some action) fault h = refl

-- ... and has ended with this answer
pub record EndsTo {S : Type 0} (number : ℕ) (call : Call) (answer : Answer) (old new : Moment S) : Type 0 where
  pub to : MovesTo number call call.given old new
  pub over : to.after.ending ≡ Running → ⊥
  pub ends : HasEndedBy answer to.after
  pub settled : IsBlocked answer → ⊥
  pub until_is : to.after.until ≡ length new.history
  -- its Add stays, if it was given up
  pub add_is : answer ≡ Ended → to.after.added ≡ call.added

-- the running call of this number has moved with an action of this effect or none, and is told so
pub record HasMoved {S : Type 0} (number : ℕ) (call : Call) (answer : Answer) (old new : Moment S) : Type 0 where
  pub effect : Option Effect
  pub after : Call
  pub told : AnswerMeans answer (length old.history) effect call after
  pub history_is : new.history ≡ old.history ++ acts_of number effect
  pub calls_is : new.calls ≡ slice_set old.calls number after

-- an event of a session's running call
pub moved : {S : Type 0} (g : Ghosts S) (start : Entry → Bool) (session : ℕ) (move : Move) (answer : Answer) (x y : Moment S) → Fits g start x → EventDoes g start (MovesCall session move) answer x y
    → (number : ℕ) (call : Call) → IsRunningCall x.calls session number call → HasMoved number call answer x y
moved g start session move answer x y fits does number call is =
    let goes : CallMoves g start session answer x y = subst (λ (b : Bool). MovesOn g start b session answer x y) (runs_has_call g start x fits session number call is) does.also.happens in
    let same = one_runs g start x fits session number goes.number call goes.call is goes.is in
    record {
      effect = goes.effect;
      after = goes.after;
      told = subst (λ (c : Call). AnswerMeans answer (length x.history) goes.effect c goes.after) same.1 goes.told;
      history_is = subst (λ (n : ℕ). y.history ≡ x.history ++ acts_of n goes.effect) same.0 goes.history_is;
      calls_is = subst (λ (n : ℕ). y.calls ≡ slice_set x.calls n goes.after) same.0 goes.calls_is;
    }

-- one that isn't its last
pub moved_on : {S : Type 0} (number : ℕ) (call : Call) (answer : Answer) (old new : Moment S) → is_last answer ≡ false → HasMoved number call answer old new
    → MovesOnTo number call (given_after answer call.given) old new
moved_on number call answer old new on h =
    let t = told_moved answer (length old.history) h.effect call h.after on h.told in
    record {
      to = record { more = acts_of number h.effect; own = by_call number h.effect; after = h.after; history_is = h.history_is; calls_is = h.calls_is; still = t.0 };
      runs = t.1;
    }

-- a step that isn't the last
pub step_on : {S : Type 0} (number : ℕ) (call : Call) (answer : Answer) (old new : Moment S) → IsOfStep answer → is_last answer ≡ false
    → HasStepped number call answer old new → MovesOnTo number call call.given old new
step_on number call answer old new of on h =
    let t = told_on answer (length old.history) h.effect call h.after of on h.told in
    record {
      to = record { more = acts_of number h.effect; own = by_call number h.effect; after = h.after; history_is = h.history_is; calls_is = h.calls_is; still = t.0 };
      runs = t.1;
    }

-- the Add of a call stays, if it is given up
added_still : (answer : Answer) (count : ℕ) (effect : Option Effect) (call after : Call) → answer ≡ Ended → AnswerMeans answer count effect call after → after.added ≡ call.added
added_still Ended count effect call after is h = ap (λ (c : Call). c.added) h.after_is
added_still answer count effect call after is h = absurd cc

-- its last
pub moved_last : {S : Type 0} (number : ℕ) (call : Call) (answer : Answer) (old new : Moment S) → is_last answer ≡ true → HasMoved number call answer old new → EndsTo number call answer old new
moved_last number call answer old new last h =
    let t = told_last answer (length old.history) h.effect call h.after last h.told in
    let long : length new.history ≡ act_count h.effect + length old.history =
    (let a = ap (λ (l : List Action). length l) h.history_is in let b = length-append old.history (acts_of number h.effect) in let c = many_acts number h.effect in omega (arith, a, b, c)) in
    record {
      to = record { more = acts_of number h.effect; own = by_call number h.effect; after = h.after; history_is = h.history_is; calls_is = h.calls_is; still = t.0 };
      over = λ runs. ends_last answer last (sym t.1 ∙ runs);
      ends = inl t.1;
      settled = last_settled answer last;
      until_is = t.2 ∙ sym long;
      add_is = λ is. added_still answer (length old.history) h.effect call h.after is h.told;
    }
  where
    ends_last : (a : Answer) → is_last a ≡ true → ending_by a ≡ Running → ⊥
    ends_last (Added action unfinished) l e = cc
    ends_last Done l e = cc
    ends_last (Finished stats) l e = cc
    ends_last Ended l e = cc
    ends_last (Refused fault) l e = cc
    ends_last a l e = absurd cc

-- the Add of a session's running call is that of its slot
pub added_in_slot : {S : Type 0} (g : Ghosts S) (start : Entry → Bool) (now : Moment S) (session : ℕ) → Fits g start now → (number : ℕ) (call : Call) → IsRunningCall now.calls session number call
    → call.added ≡ slot_add (slot_of now.slots session)
added_in_slot g start now session fits number call is =
    let r = runs_in_slot g start now fits session number call is in
    let same : r.2.call ≡ call = (one_runs g start now fits session number r.2.number call r.2.call is r.2.is).1 in
    let slot : slot_of now.slots session ≡ Some r.0 = ap (λ (o : Option (Option Op)). unwrap_or o None) r.1 in
    ap (λ (c : Call). c.added) (sym same) ∙ r.2.runs.added ∙ sym (ap slot_add slot)

-- a step that is
pub step_last : {S : Type 0} (number : ℕ) (call : Call) (answer : Answer) (old new : Moment S) → is_last answer ≡ true → HasStepped number call answer old new → EndsTo number call answer old new
step_last number call answer old new last h =
    moved_last number call answer old new last (record { effect = h.effect; after = h.after; told = h.told; history_is = h.history_is; calls_is = h.calls_is })

-- a call that is given up, since the checkpoint before a step was refused
pub step_cut : {S : Type 0} (g : Ghosts S) (number : ℕ) (call : Call) (answer : Answer) (old new : Moment S) → IsGivenUpFor g number call answer old new → EndsTo number call answer old new
step_cut g number call answer old new h = record {
  to = record {
    more = [];
    own = λ place action e. absurd cc;
    after = _;
    history_is = h.history_is ∙ sym (append-nil old.history);
    calls_is = h.calls_is;
    still = record { session_is = refl; ask_is = refl; began_is = refl; given_is = refl };
  };
  over = λ e. absurd cc;
  ends = inr (record { fault = h.fault; told = h.answer_is; ending = refl });
  settled = last_settled answer (ap is_last h.answer_is ∙ short_ends (g.backing old.store) (g.backing new.store) call.added h.fault h.cause);
  until_is = ap (λ (l : List Action). length l) (sym h.history_is);
  add_is = λ is. refl;
}
