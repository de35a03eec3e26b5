-- What a step under the lock leaves of what is kept.
use Rattle.std.proofs.Common.{◌≡◌, ◌⊎◌, true, false, ℕ, not, [], ◌∷◌, ◌++◌, Option, Some, None, slice_set, refl, ap, ◌∙◌, subst, inl, inr, length-set}
use Rattle.whole_calls.specs.Going.{CallIsRun}
use Rattle.shared_world.proofs.Imports.{Call, SetGhosts, Ghosts, is_last, AnswersStep, has_call, slot_of, Answer, Ended, Op, Inserts, Scans, Bulks, Cleanups, OneCallRuns, StoreAndSlots, Moment}
use Rattle.shared_world.proofs.Imports.{snapshot_of, HasStepped, IsGivenUpFor, IsMadeAsStep, OneStepAlways, OneStepIsRun, inside, World, OriginGhosts, OriginOnGhosts, GroupGhosts, Live, PendingCall, KeepsFitting, completed_of}
use Rattle.shared_world.proofs.Noting.{clash, set_same, last_of, others_run_on, matches_goes, matches_ends}
use Rattle.shared_world.proofs.Handing.{IsMadeByEvent}
use Rattle.shared_world.proofs.Sharing.{pending_in, log_in, RunsAt, KeepsWith, CarriesOn}
use Rattle.shared_world.proofs.Transiting.{step_acts_on, step_acts_last}
use Rattle.shared_world.proofs.Meanings.{IsOfStep, MovesOnTo, EndsTo, steps_no_gift, short_ends, step_on, step_last, step_cut}
use Rattle.shared_world.proofs.Happening.{keeps_going, keeps_ended}

-- a step gives no call up by itself
pub steps_no_end : (before after : Option Op) (answer : Answer) → AnswersStep before after answer → answer ≡ Ended → ⊥
steps_no_end before after answer h e = never before (subst (λ (a : Answer). AnswersStep before after a) e h)
  where
    never : (b : Option Op) → AnswersStep b after Ended → ⊥
    never None k = k
    never (Some (Inserts op)) k = k
    never (Some (Scans op)) k = k
    never (Some (Bulks set op)) k = k
    never (Some (Cleanups op)) k = k

-- a step under the lock, and what it leaves there
module _ {S T J : Type 0} {g : Ghosts S} {rows : SetGhosts T} {past : OriginOnGhosts J S} {j : OriginGhosts J} {group : GroupGhosts J} (self : Live S T J g rows past j group) (world : World S T)
    (one : OneCallRuns g) (next : IsMadeByEvent g (inside rows self.world) (inside rows world)) (s : ℕ) {p : PendingCall} (here : RunsAt self s p)
    (answer : Answer) (goes : CallIsRun g s (OneStepIsRun g s 5 answer) None (inside rows self.world) (inside rows world))
    (made : IsMadeAsStep g s 5 answer (inside rows self.world) (inside rows world)) (always : OneStepAlways g s answer (inside rows self.world) (inside rows world)) where
  abbrev w : StoreAndSlots S
  w = inside rows self.world

  abbrev v : StoreAndSlots S
  v = inside rows world

  -- one that isn't the last
  step_keeps_on : IsOfStep answer → is_last answer ≡ false → KeepsWith self w (pending_in self) (log_in self) → KeepsWith self v (pending_in self) (log_in self)
  step_keeps_on of on all honest contents acts calls so =
      let k = all (next.later.honest honest) contents acts calls so in
      let y = k.runs s p here.found in
      let r = goes honest contents k.history k.calls k.fit in
      let was = snapshot_of w k.history k.calls in
      let new = snapshot_of v r.then_history r.then_calls in
      subst (λ l. KeepsFitting g j.handed contents acts calls (j.kept_then contents acts calls) v self.start l (log_in self)) (set_same (pending_in self) s (Some p) here.found)
      (keeps_going g contents acts calls (j.kept_then contents acts calls) w v j.handed self.start (pending_in self) (log_in self) k next.later.durable s p one p here.found new
      (subst (λ l. MovesOnTo y.number y.call l was new) y.given_is (moves y.number y.call was new (r.tells.told y.number y.call y.is))) refl
      r.ran.fits (λ h. (r.ran.crash h).keeps) refl refl refl refl y.most)
    where
      moves : (number : ℕ) (call : Call) (x z : Moment S) → HasStepped number call answer x z ⊎ IsGivenUpFor g number call answer x z → MovesOnTo number call call.given x z
      moves number call x z (inl h) = step_on number call answer x z of on h
      moves number call x z (inr h) = absurd (clash (is_last answer) (ap is_last h.answer_is ∙ short_ends (g.backing x.store) (g.backing z.store) call.added h.fault h.cause) on)

  -- one that is
  step_keeps_last : (answer ≡ Ended → ⊥) → is_last answer ≡ true → (to : ℕ) → to ≡ (g.state v.store).acts → KeepsWith self w (pending_in self) (log_in self)
      → KeepsWith self v (slice_set (pending_in self) s None) ((log_in self) ++ completed_of s p answer to ∷ [])
  step_keeps_last never last to to_is all honest contents acts calls so =
      let k = all (next.later.honest honest) contents acts calls so in
      let y = k.runs s p here.found in
      let r = goes honest contents k.history k.calls k.fit in
      let was = snapshot_of w k.history k.calls in
      let new = snapshot_of v r.then_history r.then_calls in
      keeps_ended g contents acts calls (j.kept_then contents acts calls) w v j.handed self.start (pending_in self) (log_in self) k next.later.durable s p one here.found answer to new
      (ends y.number y.call was new (r.tells.told y.number y.call y.is)) refl r.ran.fits (λ h. (r.ran.crash h).keeps) (to_is ∙ r.ran.fits.explains.count) (λ e. absurd (never e))
    where
      ends : (number : ℕ) (call : Call) (x z : Moment S) → HasStepped number call answer x z ⊎ IsGivenUpFor g number call answer x z → EndsTo number call answer x z
      ends number call x z (inl h) = step_last number call answer x z last h
      ends number call x z (inr h) = step_cut g number call answer x z h

  -- the answer is the last exactly if the session has no call then
  last_is : is_last answer ≡ not (has_call v.slots s)
  last_is = last_of w.slots v.slots s answer always.until_last here.has

  -- it is one that a step may give
  of_step : IsOfStep answer
  of_step = steps_no_gift (slot_of w.slots s) (slot_of v.slots s) answer always.answers

  -- after it the job runs on
  pub step_leaves_on : has_call v.slots s ≡ true → CarriesOn self world (pending_in self) (log_in self)
  step_leaves_on now =
      let on = last_is ∙ ap not now in
      record {
        keeps = step_keeps_on of_step on;
        acts = step_acts_on g j.handed w v (pending_in self) (log_in self) s p here.found answer made of_step on now;
        matches = matches_goes w.slots v.slots (pending_in self) s p here.found now (others_run_on w.slots v.slots s always.others);
        long = refl;
        next = next;
      }

  -- ... or has ended
  pub step_leaves_last : has_call v.slots s ≡ false → (to : ℕ) → to ≡ (g.state v.store).acts
      → CarriesOn self world (slice_set (pending_in self) s None) ((log_in self) ++ completed_of s p answer to ∷ [])
  step_leaves_last now to to_is =
      let last = last_is ∙ ap not now in
      record {
        keeps = step_keeps_last (steps_no_end (slot_of w.slots s) (slot_of v.slots s) answer always.answers) last to to_is;
        acts = step_acts_last g j.handed w v (pending_in self) (log_in self) s p here.found answer made last to to_is;
        matches = matches_ends w.slots v.slots (pending_in self) s now (others_run_on w.slots v.slots s always.others);
        long = length-set (pending_in self) s None;
        next = next;
      }
