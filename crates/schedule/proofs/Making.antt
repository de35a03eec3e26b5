-- What each kind of event makes, by what the call after it promises.
use Rattle.std.proofs.Common.{◌≡◌, ℕ, ◌&&◌, not, Bool, true, false, true≢false, Option, Some, None, Ok, Err, List, length, slice_get, slice_set, refl, sym, ap, subst, inl, inr, ◌∙◌}
use Rattle.session_calls.proofs.RunningOn.{runs_over, ends_with_last}
use Rattle.schedule.proofs.Imports.{unwrap_or, Action, Ask, Call, Circumstances, HasCause, Entry, Fault, Stopped, KeyTooLong, BadRow, VacuumRunning, BadSuper, BadVersion, LogDamaged, BadLimits, DeviceTooSmall, nothing_wrong, is_at_end, causes_of_forced, State, Backing, Ghosts, IsDueIn, HasSteps}
use Rattle.schedule.proofs.Imports.{StepAnswerMeans, StepAlways, IsFitted, StepFollows, DeadSets, op_before, asks_vacuum, asks_bulk_delete, is_bulk_delete, session_of, asked_of}
use Rattle.schedule.proofs.Imports.{causes_of_slot_stepped, causes_of_asked_next, no_call_begins, causes_of_requesting, causes_of_beginning, RunsOn, StoppedAnswersFirst, Matches, IsIdle, SlotFits}
use Rattle.schedule.proofs.Imports.{SessionEvent, SessionBegins, IsBegun, BeginsBy, op_after_call, after_slot, let_go, is_busy, slot_add, StepHasLessLeft, GivesLess, AnswersStep, AnswersNext}
use Rattle.schedule.proofs.Imports.{AnswersEnd, RefusalChangesNothing, RunsUntilLast, leaf_of, OnlyWritersAct, Answer, Begun, Going, Added, Ready, Done, Finished, Gave, Ended, Forced, Flushed}
use Rattle.schedule.proofs.Imports.{Checkpointed, Refused, Op, Request, snapshot_of, Fits, slot_of, one_vacuums, is_of_sets, session_to_begin, here_with, Steps, Takes, GivesUp, Upkeep, Forces}
use Rattle.schedule.proofs.Imports.{Flushes, Checkpoints, BeginsCall, MovesCall, MaintainsStore, kept_answer, causes_of_begun_at, DoesOneAct, EventAlways, CallIsFollowed, AnswersUpkeep, IsFlushed}
use Rattle.schedule.proofs.Imports.{UpkeepChanges, EventRuns, EventEffect}
use Rattle.schedule.proofs.Events.{at_slots, others_stay_set, moves_on, stays_on, refused_stay, keeps_on_store, flushes_on_store, begins_on, named_of, request_pages, request_format, request_frames, request_acts, not_begun, not_found_why, not_found_first, none_begins, set_same}
use Rattle.schedule.proofs.Keeping.{Laws}
use Rattle.schedule.proofs.Lists.{length_set, get_within, same_some}
use Rattle.schedule.proofs.Vacuums.{set_is, not_excluded}
use Rattle.schedule.proofs.Fitting.{matches_of, running_of}

-- what does no act
no_act : (old new : State) → new.acts ≡ old.acts → new.pages ≡ old.pages → new.format ≡ old.format → new.frames ≡ old.frames → DoesOneAct old new
no_act old new acts pages format frames = record { acts = inl acts; quiet = λ same. pages; format = format; frames = frames }

-- what changes no state
still : (old new : State) → new ≡ old → DoesOneAct old new
still old new same = no_act old new (ap (λ (st : State). st.acts) same) (ap (λ (st : State). st.pages) same) (ap (λ (st : State). st.format) same) (ap (λ (st : State). st.frames) same)

-- what a call lets go at its end is neither a page nor a count
over_acts : (v : Bool) (session : ℕ) (st : State) → (let_go v session st).acts ≡ st.acts
over_acts true session st = refl
over_acts false session st = refl

over_pages : (v : Bool) (session : ℕ) (st : State) → (let_go v session st).pages ≡ st.pages
over_pages true session st = refl
over_pages false session st = refl

over_format : (v : Bool) (session : ℕ) (st : State) → (let_go v session st).format ≡ st.format
over_format true session st = refl
over_format false session st = refl

over_frames : (v : Bool) (session : ℕ) (st : State) → (let_go v session st).frames ≡ st.frames
over_frames true session st = refl
over_frames false session st = refl

over_begun : (v : Bool) (session : ℕ) (st : State) → (let_go v session st).begun ≡ st.begun
over_begun true session st = refl
over_begun false session st = refl

-- a step of a session's running call
module _ {S : Type 0} (g : Ghosts S) (laws : Laws g) (old new : S) (follows_store : g.follows old new) (slots : List (Option Op)) (sets : DeadSets)
    (session : ℕ) (before slot : Option Op) (op : Op) (answer : Answer)
    (is : before ≡ Some op) (found_at : slice_get slots session ≡ Some before) where
  slot_was : slot_of slots session ≡ before
  slot_was = ap (λ (o : Option (Option Op)). unwrap_or o None) found_at

  found_op : slice_get slots session ≡ Some (Some op)
  found_op = found_at ∙ ap (λ (o : Option Op). Some o) is

  pub step_makes : StepAlways g old new before slot answer
      → ((g.backing new).honest ≡ true → (start : Entry → Bool) (history : List Action) (number : ℕ) (call : Call) → SlotFits (g.state old) sets start history number call before
      → SessionEvent (causes_of_slot_stepped sets before (g.state old) (g.backing old) (g.backing new)) (g.state old) (g.state new) sets start history number call slot answer)
      → ((g.backing new).honest ≡ true → StepFollows sets (g.state old) (g.state new) before slot answer)
      → EventEffect g (MovesCall session Steps) answer (here_with old slots sets) (here_with new (slice_set slots session slot) sets)
  step_makes made goes follows = record {
    sessions = length_set slots session slot;
    always = always;
    does = λ honest start history calls fits.
        moves_on g start (snapshot_of (here_with old slots sets) history calls) new session op slot Steps
        (causes_of_slot_stepped sets (Some op) (g.state old) (g.backing old) (g.backing new)) answer fits found_op follows_store (laws.follows_later old new follows_store)
        (λ number call runs.
        subst (λ (x : Option Op).
        SessionEvent (causes_of_slot_stepped sets x (g.state old) (g.backing old) (g.backing new)) (g.state old) (g.state new) sets start history number call slot answer) is
        (goes honest start history number call (subst (λ (x : Option Op). SlotFits (g.state old) sets start history number call x) (sym is) runs))) refl always
        (λ s l n c runs. subst (λ (x : Option Op). CallIsFollowed (MovesCall session Steps) sets answer (g.state old) (g.state new) x slot) is
        (followed honest (record { start = s; history = l; number = n; call = c; fits = subst (λ (x : Option Op). SlotFits (g.state old) sets s l n c x) (sym is) runs })));
  }
    where
      followed : (g.backing new).honest ≡ true → IsFitted (g.state old) sets before → CallIsFollowed (MovesCall session Steps) sets answer (g.state old) (g.state new) before slot
      followed honest fitted =
          record { fitted = (follows honest).fitted fitted; each = (follows honest).each; no_more = made.no_more honest }

      always : EventAlways g (MovesCall session Steps) answer (here_with old slots sets) (here_with new (slice_set slots session slot) sets)
      always = record {
        answers = at_slots slots session before slot (λ x y. AnswersStep x y answer) found_at made.kind;
        until_last = at_slots slots session before slot (λ x y. RunsUntilLast x y answer) found_at made.until_last;
        stands = tt;
        tells = at_slots slots session before slot (λ x y. StepAnswerMeans (g.backing old).stopped (g.state old) (g.state new) x y answer) found_at made.tells;
        refused = at_slots slots session before slot (λ x y. RefusalChangesNothing (g.state old) (g.state new) x y answer) found_at made.refused;
        stopped = λ h. subst (λ (x : Option Op). StoppedAnswersFirst (slot_add x) answer) (sym slot_was) (made.stopped h);
        less = λ honest. at_slots slots session before slot (λ x y. StepHasLessLeft (g.state old) (g.state new) x y answer) found_at (made.less honest);
        kept = record { acts = made.kept.acts; quiet = made.kept.quiet; format = made.kept.format; frames = made.kept.frames };
        calm = subst (λ (x : Option Op). OnlyWritersAct x (g.state old) (g.state new)) (sym slot_was) made.calm;
        others = others_stay_set slots session slot;
        left = tt;
        causes = tt;
        order = tt;
        fresh = tt;
        numbered = tt;
        upkept = tt;
        keeps_up = tt;
        runs_on = at_slots slots session before slot (λ x y. RunsOn x y) found_at made.runs_on;
      }

  pub end_makes : AnswersEnd before answer → slot ≡ None → g.backing new ≡ g.backing old → g.state new ≡ op_after_call op (g.state old)
      → ((start : Entry → Bool) (history : List Action) (number : ℕ) (call : Call) → SlotFits (g.state old) sets start history number call before
      → SessionEvent nothing_wrong (g.state old) (g.state new) sets start history number call slot answer)
      → EventEffect g (MovesCall session GivesUp) answer (here_with old slots sets) (here_with new (slice_set slots session slot) sets)
  end_makes kind over backing given_up goes = record {
    sessions = length_set slots session slot;
    always = always;
    does = λ honest start history calls fits.
        moves_on g start (snapshot_of (here_with old slots sets) history calls) new session op slot GivesUp nothing_wrong answer fits found_op follows_store (laws.follows_later old new follows_store)
        (λ number call runs. goes start history number call (subst (λ (x : Option Op). SlotFits (g.state old) sets start history number call x) (sym is) runs)) refl always
        (λ s l n c runs. tt);
  }
    where
      ended : answer ≡ Ended
      ended = subst (λ (x : Option Op). AnswersEnd x answer) is kind

      always : EventAlways g (MovesCall session GivesUp) answer (here_with old slots sets) (here_with new (slice_set slots session slot) sets)
      always = record {
        answers = at_slots slots session before slot (λ x y. AnswersEnd x answer) found_at kind;
        until_last = at_slots slots session before slot (λ x y. RunsUntilLast x y answer) found_at (ends_with_last before slot answer over ended);
        stands = tt;
        tells = tt;
        refused = λ fault h. absurd (let a : answer ≡ Ended = ended in cc);
        stopped = tt;
        less = tt;
        kept = no_act (g.state old) (g.state new) (ap (λ (st : State). st.acts) given_up ∙ over_acts (is_bulk_delete op) (session_of op) (g.state old))
            (ap (λ (st : State). st.pages) given_up ∙ over_pages (is_bulk_delete op) (session_of op) (g.state old))
            (ap (λ (st : State). st.format) given_up ∙ over_format (is_bulk_delete op) (session_of op) (g.state old))
            (ap (λ (st : State). st.frames) given_up ∙ over_frames (is_bulk_delete op) (session_of op) (g.state old));
        calm = ap (λ (st : State). st.acts) given_up ∙ over_acts (is_bulk_delete op) (session_of op) (g.state old);
        others = others_stay_set slots session slot;
        left = record {
          over = at_slots slots session before slot (λ x y. y ≡ None) found_at over;
          backing = backing;
          begun =
              ap (λ (st : State). st.begun) given_up ∙ over_begun (is_bulk_delete op) (session_of op) (g.state old);
          state_is = given_up
              ∙ sym (ap (λ (o : Option Op). after_slot o (g.state old)) (slot_was ∙ is));
        };
        causes = tt;
        order = tt;
        fresh = tt;
        numbered = tt;
        upkept = tt;
        keeps_up = tt;
        runs_on = at_slots slots session before slot (λ x y. RunsOn x y) found_at (runs_over before slot over);
      }

-- a `next` of a session's running call, which changes nothing of the store
module _ {S : Type 0} (g : Ghosts S) (laws : Laws g) (store : S) (slots : List (Option Op)) (sets : DeadSets) (session : ℕ) (before slot : Option Op) (op : Op) (answer : Answer)
    (is : before ≡ Some op) (found_at : slice_get slots session ≡ Some before) where
  refused_same : (a : Answer) → GivesLess before slot a → (fault : Fault) → a ≡ Refused fault → slot ≡ before
  refused_same Begun h fault e = absurd cc
  refused_same Going h fault e = absurd cc
  refused_same (Added x u) h fault e = absurd cc
  refused_same (Ready r) h fault e = absurd cc
  refused_same Done h fault e = absurd cc
  refused_same (Finished s) h fault e = absurd cc
  refused_same (Gave x) h fault e = absurd cc
  refused_same Ended h fault e = absurd cc
  refused_same (Forced n) h fault e = absurd cc
  refused_same (Flushed b) h fault e = absurd cc
  refused_same (Checkpointed n) h fault e = absurd cc
  refused_same (Refused f) h fault e = h.0

  pub next_makes : AnswersNext before answer → GivesLess before slot answer → RunsOn before slot → RunsUntilLast before slot answer
      → ((st : State) (start : Entry → Bool) (history : List Action) (number : ℕ) (call : Call) → SlotFits st sets start history number call before
      → SessionEvent (causes_of_asked_next call.ask) st st sets start history number call slot answer)
      → ((st : State) (steps : ℕ) → IsDueIn st before steps → IsDueIn st slot steps)
      → leaf_of slot ≡ leaf_of before → EventEffect g (MovesCall session Takes) answer (here_with store slots sets) (here_with store (slice_set slots session slot) sets)
  next_makes kind less runs_on until_last goes due stands = record {
    sessions = length_set slots session slot;
    always = always;
    does = λ honest start history calls fits.
        moves_on g start (snapshot_of (here_with store slots sets) history calls) store session op slot Takes
        (causes_of_asked_next (asked_of sets op)) answer fits (found_at ∙ ap (λ (o : Option Op). Some o) is) (laws.follows_same store)
        (laws.follows_later store store (laws.follows_same store))
        (λ number call runs. subst (λ (a : Ask). SessionEvent (causes_of_asked_next a) (g.state store) (g.state store) sets start history number call slot answer) runs.runs.ask
        (goes (g.state store) start history number call (subst (λ (x : Option Op). SlotFits (g.state store) sets start history number call x) (sym is) runs))) refl always
        (λ s l n c runs steps h. due (g.state store) steps (subst (λ (x : Option Op). IsDueIn (g.state store) x steps) (sym is) h));
  }
    where
      always : EventAlways g (MovesCall session Takes) answer (here_with store slots sets) (here_with store (slice_set slots session slot) sets)
      always = record {
        answers = at_slots slots session before slot (λ x y. AnswersNext x answer) found_at kind;
        until_last = at_slots slots session before slot (λ x y. RunsUntilLast x y answer) found_at until_last;
        stands = at_slots slots session before slot (λ x y. leaf_of y ≡ leaf_of x) found_at stands;
        tells = tt;
        refused = λ fault h. record {
          state_is = refl;
          slots_is = ap (λ (x : Option Op). slice_set slots session x) (refused_same answer less fault h) ∙ set_same slots session before found_at;
        };
        stopped = tt;
        less = at_slots slots session before slot (λ x y. GivesLess x y answer) found_at less;
        kept = still (g.state store) (g.state store) refl;
        calm = refl;
        others = others_stay_set slots session slot;
        left = refl;
        causes = tt;
        order = tt;
        fresh = tt;
        numbered = tt;
        upkept = tt;
        keeps_up = tt;
        runs_on = at_slots slots session before slot (λ x y. RunsOn x y) found_at runs_on;
      }

-- what is done for the store
module _ {S : Type 0} (g : Ghosts S) (laws : Laws g) (old new : S) (follows : g.follows old new) (slots : List (Option Op)) (sets : DeadSets)
    (upkeep : Upkeep) (answer : Answer) (same : g.state new ≡ g.state old) (leaves : UpkeepChanges g upkeep answer old new) where
  told_so : (u : Upkeep) (count : ℕ) (answer : Answer) → kept_answer u count ≡ Some answer → AnswersUpkeep u answer
  told_so Forces count answer is = subst (λ (a : Answer). AnswersUpkeep Forces a) (same_some (kept_answer Forces count) (Forced count) answer refl is) tt
  told_so Flushes count answer is = absurd (let none : kept_answer Flushes count ≡ Some answer = is in cc)
  told_so Checkpoints count answer is = subst (λ (a : Answer). AnswersUpkeep Checkpoints a) (same_some (kept_answer Checkpoints count) (Checkpointed count) answer refl is) tt

  not_refused : (u : Upkeep) (count : ℕ) (answer : Answer) (fault : Fault) → kept_answer u count ≡ Some answer → answer ≡ Refused fault → ⊥
  not_refused Forces count answer fault is h = (let e : Some (Forced count) ≡ Some answer = is in cc)
  not_refused Flushes count answer fault is h = (let e : kept_answer Flushes count ≡ Some answer = is in cc)
  not_refused Checkpoints count answer fault is h = (let e : Some (Checkpointed count) ≡ Some answer = is in cc)

  same_count : (u : Upkeep) (c d : ℕ) (answer : Answer) → kept_answer u c ≡ Some answer → kept_answer u d ≡ Some answer → c ≡ d
  same_count Forces c d answer h k = (let e : Some (Forced c) ≡ Some (Forced d) = h ∙ sym k in cc)
  same_count Flushes c d answer h k = (let e : kept_answer Flushes c ≡ Some answer = h in cc)
  same_count Checkpoints c d answer h k = (let e : Some (Checkpointed c) ≡ Some (Checkpointed d) = h ∙ sym k in cc)

  same_fault : (fault f : Fault) → Refused fault ≡ Refused f → fault ≡ f
  same_fault fault f h = cc

  refused_so : (u : Upkeep) (fault : Fault) → AnswersUpkeep u (Refused fault)
  refused_so Forces fault = tt
  refused_so Flushes fault = tt
  refused_so Checkpoints fault = tt

  pub kept_makes : (count : ℕ) → kept_answer upkeep count ≡ Some answer → count ≡ (g.state old).acts → (g.backing new).durable ≡ (g.state old).acts → ((g.backing old).stopped ≡ true → ⊥)
      → EventEffect g (MaintainsStore upkeep) answer (here_with old slots sets) (here_with new slots sets)
  kept_makes count told number durable alive = record {
    sessions = refl;
    always = always;
    does = λ honest start history calls fits.
        keeps_on_store g start (snapshot_of (here_with old slots sets) history calls) new upkeep fits same follows (laws.follows_later old new follows) count answer told number durable always;
  }
    where
      always : EventAlways g (MaintainsStore upkeep) answer (here_with old slots sets) (here_with new slots sets)
      always = record {
        answers = told_so upkeep count answer told;
        until_last = tt;
        stands = tt;
        tells = tt;
        refused = λ fault h. absurd (not_refused upkeep count answer fault told h);
        stopped = λ h. absurd (alive h);
        less = tt;
        kept = still (g.state old) (g.state new) same;
        calm = ap (λ (st : State). st.acts) same;
        others = λ s of other apart. refl;
        left = tt;
        causes = tt;
        order = tt;
        fresh = tt;
        numbered = tt;
        upkept = record {
          state_is = same;
          number = λ c h. same_count upkeep c count answer h told ∙ number;
          durable = λ c h. durable;
          caused = λ fault h. absurd (not_refused upkeep count answer fault told h);
        };
        keeps_up = leaves;
        runs_on = tt;
      }

  pub not_kept_makes : (fault : Fault) → answer ≡ Refused fault → ((g.backing old).stopped ≡ true → fault ≡ Stopped) → HasCause (causes_of_forced (g.backing old) (g.backing new)) fault
      → EventEffect g (MaintainsStore upkeep) (Refused fault) (here_with old slots sets) (here_with new slots sets)
  not_kept_makes fault is stopped cause = record {
    sessions = refl;
    always = always;
    does = λ honest start history calls fits.
        (let before = snapshot_of (here_with old slots sets) history calls in
        let later = laws.follows_later old new follows in
        stays_on g start before new fault fits same follows later (MaintainsStore upkeep) (inr (refused_stay g start before new fault fits same follows later)) always cause (λ s h. absurd cc));
  }
    where
      always : EventAlways g (MaintainsStore upkeep) (Refused fault) (here_with old slots sets) (here_with new slots sets)
      always = record {
        answers = refused_so upkeep fault;
        until_last = tt;
        stands = tt;
        tells = tt;
        refused = λ f h. record { state_is = same; slots_is = refl };
        stopped = λ h. ap Refused (stopped h);
        less = tt;
        kept = still (g.state old) (g.state new) same;
        calm = ap (λ (st : State). st.acts) same;
        others = λ s of other apart. refl;
        left = tt;
        causes = tt;
        order = tt;
        fresh = tt;
        numbered = tt;
        upkept = record {
          state_is = same;
          number = λ c h. absurd (not_refused upkeep c (Refused fault) fault h refl);
          durable = λ c h. absurd (not_refused upkeep c (Refused fault) fault h refl);
          caused = λ f h. subst (λ (x : Fault). HasCause (causes_of_forced (g.backing old) (g.backing new)) x) (same_fault fault f h) cause;
        };
        keeps_up = subst (λ (a : Answer). UpkeepChanges g upkeep a old new) is leaves;
        runs_on = tt;
      }

-- a changed page is written to its place
pub flush_makes : {S : Type 0} (g : Ghosts S) (laws : Laws g) (old new : S) (follows : g.follows old new) (slots : List (Option Op)) (sets : DeadSets)
    (same : g.state new ≡ g.state old) (block : Option ℕ)
    → IsFlushed g block old new → ((g.backing old).stopped ≡ true → ⊥) → EventEffect g (MaintainsStore Flushes) (Flushed block) (here_with old slots sets) (here_with new slots sets)
flush_makes g laws old new follows slots sets same block flushed alive = record {
  sessions = refl;
  always = always;
  does = λ honest start history calls fits.
      flushes_on_store g start (snapshot_of (here_with old slots sets) history calls) new fits same follows (laws.follows_later old new follows) block flushed.first always;
}
  where
    always : EventAlways g (MaintainsStore Flushes) (Flushed block) (here_with old slots sets) (here_with new slots sets)
    always = record {
      answers = tt;
      until_last = tt;
      stands = tt;
      tells = tt;
      refused = λ fault h. absurd cc;
      stopped = λ h. absurd (alive h);
      less = tt;
      kept = still (g.state old) (g.state new) same;
      calm = ap (λ (st : State). st.acts) same;
      others = λ s of other apart. refl;
      left = tt;
      causes = tt;
      order = tt;
      fresh = tt;
      numbered = tt;
      upkept = record { state_is = same; number = λ c h. absurd cc; durable = λ c h. absurd cc; caused = λ fault h. absurd cc };
      keeps_up = flushed;
      runs_on = tt;
    }

-- the cause of a beginning that is refused, if there is the set that it names
asked_why : (vacuums : Bool) (b : Bool) (c : Circumstances) (fault : Fault) → b ≡ true
    → HasCause (record c { no_such_session = false; vacuum_runs = vacuums }) fault → HasCause (record c { no_such_session = not b; vacuum_runs = vacuums }) fault
asked_why vacuums b c fault named h = subst (λ (x : Bool). HasCause (record c { no_such_session = not x; vacuum_runs = vacuums }) fault) (sym named) h

all_true : (a b : Bool) → a ≡ true → b ≡ true → (a && b) ≡ true
all_true true true one other = refl
all_true true false one other = other
all_true false b one other = one

-- if calls begin, and the session has none, a beginning is refused only while a vacuum runs that excludes
-- it
only_excluded : (st : State) (backing : Backing) → no_call_begins st backing ≡ false → (excluded : Bool) (fault : Fault) → HasCause (causes_of_requesting excluded st backing false) fault
    → fault ≡ VacuumRunning
only_excluded st backing alive excluded VacuumRunning h = refl
only_excluded st backing alive excluded Stopped h = absurd (let k : true ≡ false = sym h ∙ alive in cc)
only_excluded st backing alive excluded KeyTooLong h = absurd h
only_excluded st backing alive excluded BadRow h = absurd h
only_excluded st backing alive excluded BadSuper h = absurd h
only_excluded st backing alive excluded BadVersion h = absurd h
only_excluded st backing alive excluded LogDamaged h = absurd h
only_excluded st backing alive excluded BadLimits h = absurd h
only_excluded st backing alive excluded DeviceTooSmall h = absurd h
only_excluded st backing alive excluded fault h = absurd cc

-- a beginning in a session that was found
module _ {S : Type 0} (g : Ghosts S) (laws : Laws g) (old new : S) (follows : g.follows old new) (slots : List (Option Op)) (sets : DeadSets)
    (session : ℕ) (request : Request) (before slot : Option Op) (answer : Answer)
    (alive : no_call_begins (g.state old) (g.backing old) ≡ false) (named : is_of_sets sets request ≡ true) (free : slice_get slots session ≡ Some None) (before_is : before ≡ None) where
  abbrev excluded : Bool
  excluded = asks_vacuum request && one_vacuums slots

  -- no fault is the first of those for which no session is found
  found_one : (fault : Fault) → session_to_begin (no_call_begins (g.state old) (g.backing old)) (is_of_sets sets request) (slice_get slots session) session ≡ Err fault → ⊥
  found_one fault h =
      let found : session_to_begin (no_call_begins (g.state old) (g.backing old)) (is_of_sets sets request) (slice_get slots session) session ≡ Ok session =
      ap (λ (b : Bool). session_to_begin b (is_of_sets sets request) (slice_get slots session) session) alive
      ∙ ap (λ (b : Bool). session_to_begin false b (slice_get slots session) session) named
      ∙ ap (λ (o : Option (Option Op)). session_to_begin false true o session) free in
      cc

  -- the cause of a refusal
  cause_of : (fault : Fault) → HasCause (causes_of_requesting excluded (g.state old) (g.backing old) (is_busy before)) fault
      → HasCause (causes_of_begun_at g old (one_vacuums slots) sets request (slice_get slots session)) fault
  cause_of fault cause =
      subst (λ (o : Option (Option Op)). HasCause (causes_of_begun_at g old (one_vacuums slots) sets request o) fault) (sym free)
      (asked_why excluded (is_of_sets sets request) (causes_of_beginning (g.state old) (g.backing old) false) fault named
      (subst (λ (o : Option Op). HasCause (causes_of_requesting excluded (g.state old) (g.backing old) (is_busy o)) fault) before_is cause))

  always_of : (a : Answer) → BeginsBy (g.state old) (g.backing old) (g.state new) session request excluded before slot a
      → EventAlways g (BeginsCall session request) a (here_with old slots sets) (here_with new (slice_set slots session slot) sets)
  always_of Begun h = record {
    answers = tt;
    until_last = tt;
    stands = tt;
    tells = tt;
    refused = λ fault e. absurd cc;
    stopped = λ is. absurd (true≢false (sym (none_begins (g.backing old).stopped (is_at_end (g.state old).begun) is) ∙ alive));
    less = tt;
    kept = no_act (g.state old) (g.state new) (ap (λ (st : State). st.acts) h.state ∙ request_acts (asks_bulk_delete request) session (g.state old))
        (ap (λ (st : State). st.pages) h.state ∙ request_pages (asks_bulk_delete request) session (g.state old))
        (ap (λ (st : State). st.format) h.state ∙ request_format (asks_bulk_delete request) session (g.state old))
        (ap (λ (st : State). st.frames) h.state ∙ request_frames (asks_bulk_delete request) session (g.state old));
    calm = ap (λ (st : State). st.acts) h.state ∙ request_acts (asks_bulk_delete request) session (g.state old);
    others = others_stay_set slots session slot;
    left = tt;
    causes = tt;
    order = record {
      unfound = λ fault e. absurd (found_one fault e);
      excluded = λ known asks runs. absurd (true≢false (sym (all_true (asks_vacuum request) (one_vacuums slots) asks runs) ∙ h.alone));
    };
    fresh = λ begun. set_is slots session slot (get_within slots session None free) ∙ h.runs;
    numbered = λ begun. h.state;
    upkept = tt;
    keeps_up = tt;
    runs_on = tt;
  }
  always_of (Refused fault) h = record {
    answers = tt;
    until_last = tt;
    stands = tt;
    tells = tt;
    refused = λ f e. record { state_is = h.state; slots_is = ap (λ (x : Option Op). slice_set slots session x) (h.slot_is ∙ before_is) ∙ set_same slots session None free };
    stopped = λ is. absurd (true≢false (sym (none_begins (g.backing old).stopped (is_at_end (g.state old).begun) is) ∙ alive));
    less = tt;
    kept = still (g.state old) (g.state new) h.state;
    calm = ap (λ (st : State). st.acts) h.state;
    others = others_stay_set slots session slot;
    left = tt;
    causes = cause_of fault h.cause;
    order = record {
      unfound = λ f e. absurd (found_one f e);
      excluded = λ known asks runs. ap Refused (only_excluded (g.state old) (g.backing old) alive excluded fault
          (subst (λ (o : Option Op). HasCause (causes_of_requesting excluded (g.state old) (g.backing old) (is_busy o)) fault) before_is h.cause));
    };
    fresh = λ e. absurd cc;
    numbered = λ e. absurd cc;
    upkept = tt;
    keeps_up = tt;
    runs_on = tt;
  }
  always_of Going h = absurd h
  always_of (Added x u) h = absurd h
  always_of (Ready r) h = absurd h
  always_of Done h = absurd h
  always_of (Finished s) h = absurd h
  always_of (Gave x) h = absurd h
  always_of Ended h = absurd h
  always_of (Forced n) h = absurd h
  always_of (Flushed b) h = absurd h
  always_of (Checkpointed n) h = absurd h

  module _ (begins : (start : Entry → Bool) (history : List Action) (number : ℕ) → answer ≡ Begun → Matches (g.state old) start history
      → IsIdle (g.state old) session → SessionBegins (g.state old) (g.state new) sets start history number session request slot)
      (counts : answer ≡ Begun → HasSteps (g.state old) (g.state new) request slot) (start : Entry → Bool) (history : List Action) (calls : List Call)
      (fits : Fits g start (snapshot_of (here_with old slots sets) history calls)) where
    does_of : (a : Answer) → answer ≡ a → BeginsBy (g.state old) (g.backing old) (g.state new) session request excluded before slot a
        → EventRuns g (here_with old slots sets) (here_with new (slice_set slots session slot) sets) (BeginsCall session request) a start history calls
    does_of Begun is h =
        let idle : IsIdle (g.state old) session = (running_of fits session None free).idle in
        begun_with slot h (always_of Begun h) (begins start history (length calls) is (matches_of fits) idle) (counts is)
      where
        begun_with : (o : Option Op) → IsBegun (g.state old) (g.state new) session request excluded before o
            → EventAlways g (BeginsCall session request) Begun (here_with old slots sets) (here_with new (slice_set slots session o) sets)
            → SessionBegins (g.state old) (g.state new) sets start history (length calls) session request o → HasSteps (g.state old) (g.state new) request o
            → EventRuns g (here_with old slots sets) (here_with new (slice_set slots session o) sets) (BeginsCall session request) Begun start history calls
        begun_with None b always began steps = absurd (began.holds.0 refl)
        begun_with (Some op) b always began steps =
            begins_on g start (snapshot_of (here_with old slots sets) history calls) new session request op fits free began
            (named_of sets request named) (not_excluded (asks_vacuum request) (one_vacuums slots) b.alone) (let e : Some op ≡ Some (op_before session request) = b.runs in cc)
            b.state follows (laws.follows_later old new follows) steps always
    does_of (Refused fault) is h =
        let slots_is : slice_set slots session slot ≡ slots = ap (λ (x : Option Op). slice_set slots session x) (h.slot_is ∙ before_is) ∙ set_same slots session None free in
        let snap = snapshot_of (here_with old slots sets) history calls in
        let later = laws.follows_later old new follows in
        subst (λ (s : List (Option Op)). EventRuns g (here_with old slots sets) (here_with new s sets) (BeginsCall session request) (Refused fault) start history calls) (sym slots_is)
        (stays_on g start snap new fault fits h.state follows later (BeginsCall session request)
        (not_begun g (slice_get slots session) session request (Refused fault) snap _ (refused_stay g start snap new fault fits h.state follows later))
        (subst (λ (s : List (Option Op)). EventAlways g (BeginsCall session request) (Refused fault) (here_with old slots sets) (here_with new s sets)) slots_is (always_of (Refused fault) h))
        (cause_of fault h.cause)
        (λ s e. absurd cc))
    does_of Going is h = absurd h
    does_of (Added x u) is h = absurd h
    does_of (Ready r) is h = absurd h
    does_of Done is h = absurd h
    does_of (Finished s) is h = absurd h
    does_of (Gave x) is h = absurd h
    does_of Ended is h = absurd h
    does_of (Forced n) is h = absurd h
    does_of (Flushed b) is h = absurd h
    does_of (Checkpointed n) is h = absurd h

  pub begin_makes : BeginsBy (g.state old) (g.backing old) (g.state new) session request (asks_vacuum request && one_vacuums slots) before slot answer
      → ((start : Entry → Bool) (history : List Action) (number : ℕ) → answer ≡ Begun → Matches (g.state old) start history
      → IsIdle (g.state old) session → SessionBegins (g.state old) (g.state new) sets start history number session request slot)
      → (answer ≡ Begun → HasSteps (g.state old) (g.state new) request slot)
      → EventEffect g (BeginsCall session request) answer (here_with old slots sets) (here_with new (slice_set slots session slot) sets)
  begin_makes by begins counts = record {
    sessions = length_set slots session slot;
    always = always_of answer by;
    does = λ honest start history calls fits. does_of begins counts start history calls fits answer refl by;
  }

-- a beginning that finds no session
pub not_found_makes : {S : Type 0} (g : Ghosts S) (laws : Laws g) (store : S) (slots : List (Option Op)) (sets : DeadSets) (session : ℕ) (request : Request) (fault : Fault)
    → Err fault ≡ session_to_begin (no_call_begins (g.state store) (g.backing store)) (is_of_sets sets request) (slice_get slots session) session
    → EventEffect g (BeginsCall session request) (Refused fault) (here_with store slots sets) (here_with store slots sets)
not_found_makes g laws store slots sets session request fault none = record {
  sessions = refl;
  always = always;
  does = λ honest start history calls fits.
      (let snap = snapshot_of (here_with store slots sets) history calls in
      let follows = laws.follows_same store in
      let later = laws.follows_later store store follows in
      stays_on g start snap store fault fits refl follows later (BeginsCall session request)
      (not_begun g (slice_get slots session) session request (Refused fault) snap _ (refused_stay g start snap store fault fits refl follows later)) always
      (not_found_why g store (one_vacuums slots) sets request session (no_call_begins (g.state store) (g.backing store)) (is_of_sets sets request)
      (slice_get slots session) fault refl refl none) (λ s e. absurd cc));
}
  where
    always : EventAlways g (BeginsCall session request) (Refused fault) (here_with store slots sets) (here_with store slots sets)
    always = record {
      answers = tt;
      until_last = tt;
      stands = tt;
      tells = tt;
      refused = λ f h. record { state_is = refl; slots_is = refl };
      stopped = λ is. not_found_first (no_call_begins (g.state store) (g.backing store)) (is_of_sets sets request) (slice_get slots session) session fault none
          (none_begins (g.backing store).stopped (is_at_end (g.state store).begun) is);
      less = tt;
      kept = still (g.state store) (g.state store) refl;
      calm = refl;
      others = λ s of other apart. refl;
      left = tt;
      causes = not_found_why g store (one_vacuums slots) sets request session (no_call_begins (g.state store) (g.backing store))
          (is_of_sets sets request) (slice_get slots session) fault refl refl none;
      order = record {
        unfound = λ f e. ap Refused (let both : Err fault ≡ Err f = none ∙ e in cc);
        excluded = λ known asks runs. let both : Err fault ≡ Ok session = none ∙ known in absurd cc;
      };
      fresh = λ e. absurd cc;
      numbered = λ e. absurd cc;
      upkept = tt;
      keeps_up = tt;
      runs_on = tt;
    }
