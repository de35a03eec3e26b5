-- The transitions of each event under the lock.
use Rattle.std.proofs.Common.{◌≡◌, true, false, ℕ, suc, List, [], ◌∷◌, ◌++◌, length, Option, Some, None, slice_get, slice_set, refl, sym, ap, ◌∙◌, subst, inl, inr, arith, length-append}
use Rattle.shared_world.proofs.Imports.{append-nil, Entry, Ghosts, is_last, is_busy, ready_count, slot_add, has_call, slot_of, Answer, Gave, Ended, Checkpointed, Refused, EventAlways, EventEffect, kind_of}
use Rattle.shared_world.proofs.Imports.{StoreAndSlots, ForEachHistory, EventFollows, Event, Step, Next, End, Checkpoint, IsMadeAsStep, HasActed, IsEventDone, MayBeLeft, Handed}
use Rattle.shared_world.proofs.Imports.{IsWithinRoom, completed_of, given_more, Transition, gift_of, CompletedCall, PendingCall}
use Rattle.shared_world.specs.Transitions.{StaysUntil}
use Rattle.shared_world.proofs.Acting.{moment_of, acts_on, acts_ended, stays}
use Rattle.shared_world.proofs.Noting.{clash, set_same, busy_is}
use Rattle.shared_world.proofs.Meanings.{IsOfStep}

-- an event of the world, as it promises it
pub makes_of : {S : Type 0} (g : Ghosts S) (event : Event) (answer : Answer) (w v : StoreAndSlots S) → length v.slots ≡ length w.slots
    → ForEachHistory g w v (EventFollows g w v event answer) → EventAlways g (kind_of event) answer w v
    → EventEffect g (kind_of event) answer w v
makes_of g event answer w v sessions goes always = record {
  sessions = sessions;
  always = always;
  does = λ honest start history calls fits.
      (let f = goes honest start history calls fits in record { then_history = f.then_history; then_calls = f.then_calls; does = record { means = f.goes.means; also = f.goes.also } });
}

-- a step gives no entry
no_gift : (answer : Answer) → IsOfStep answer → gift_of answer ≡ []
no_gift (Gave entry) h = absurd h
no_gift answer h = refl

module _ {S : Type 0} (g : Ghosts S) (handed : Handed) (w v : StoreAndSlots S) (pending : List (Option PendingCall))
    (records : List CompletedCall) (s : ℕ) (p : PendingCall) (at : slice_get pending s ≡ Some (Some p)) where
  abbrev n : ℕ
  n = length records

  abbrev one_of : Event → Answer → StoreAndSlots S → StoreAndSlots S → ℕ → Transition S
  one_of event answer x y m = record { event = event; answer = answer; before = moment_of x n; after = moment_of y m }

  still : (x : StoreAndSlots S) (m : ℕ) → StaysUntil handed.spare (moment_of x m) (moment_of x m)
  still x m = stays handed.spare (moment_of x m)

  -- a step that isn't the last
  pub step_acts_on : (answer : Answer) → IsMadeAsStep g s 5 answer w v → IsOfStep answer → is_last answer ≡ false → has_call v.slots s ≡ true
      → HasActed g handed w pending records → HasActed g handed v pending records
  step_acts_on answer step of on runs a = subst (λ (l : List (Option PendingCall)). HasActed g handed v l records) (set_same pending s (Some p) at) (by step)
    where
      nothing : (l : List Entry) → l ≡ l ++ (gift_of answer ++ [])
      nothing l = sym (ap (λ (k : List Entry). l ++ (k ++ [])) (no_gift answer of) ∙ append-nil l)

      by : IsMadeAsStep g s 5 answer w v → HasActed g handed v (slice_set pending s (Some p)) records
      by (inl h) = acts_on g handed w v pending records a s p p at (one_of (Step s) answer w v n ∷ [])
          (record { goes = (refl, on); room = h.room; unrecorded = refl }, tt) (still w n, h.makes, still v n) refl refl refl refl (a.running s p at).most (nothing p.given)
      by (inr (inl h)) =
          acts_on g handed w v pending records a s p p at (one_of Checkpoint (Checkpointed h.count) w h.between n ∷ one_of (Step s) answer h.between v n ∷ [])
          (record { goes = tt; room = h.checkpoint.short; unrecorded = refl }, (record { goes = (refl, on); room = h.step.room; unrecorded = refl }, tt))
          (still w n, h.checkpoint.makes, (still h.between n, h.step.makes, still v n)) refl refl refl refl (a.running s p at).most (nothing p.given)
      by (inr (inr h)) = absurd (clash (has_call v.slots s) runs (sym (busy_is v.slots s) ∙ ap is_busy h.makes.always.left.over))

  -- one that is
  pub step_acts_last : (answer : Answer) → IsMadeAsStep g s 5 answer w v → is_last answer ≡ true → (to : ℕ) → to ≡ (g.state v.store).acts → HasActed g handed w pending records
      → HasActed g handed v (slice_set pending s None) (records ++ completed_of s p answer to ∷ [])
  step_acts_last answer step last to is a = by step
    where
      r : CompletedCall
      r = completed_of s p answer to

      m : ℕ
      m = length (records ++ completed_of s p answer to ∷ [])

      longer : m ≡ suc n
      longer = (let x = length-append records (completed_of s p answer to ∷ []) in omega (arith, x))

      by : IsMadeAsStep g s 5 answer w v → HasActed g handed v (slice_set pending s None) (records ++ completed_of s p answer to ∷ [])
      by (inl h) =
          acts_ended g handed w v pending records a s p at answer to [] (one_of (Step s) answer w v m ∷ []) tt refl (still w n, h.makes, still v m)
          (inl (record { event_is = refl; answer_is = refl; last = last; room = h.room; makes = record { place_is = refl; next_is = longer; to_is = sym is } }))
      by (inr (inl h)) =
          acts_ended g handed w v pending records a s p at answer to (one_of Checkpoint (Checkpointed h.count) w h.between n ∷ []) (one_of (Step s) answer h.between v m ∷ [])
          (record { goes = tt; room = h.checkpoint.short; unrecorded = refl }, tt) refl (still w n, h.checkpoint.makes, (still h.between n, h.step.makes, still v m))
          (inl (record { event_is = refl; answer_is = refl; last = last; room = h.step.room; makes = record { place_is = refl; next_is = longer; to_is = sym is } }))
      by (inr (inr h)) =
          acts_ended g handed w v pending records a s p at answer to [] (one_of Checkpoint (Refused h.fault) w h.between n ∷ one_of (End s) h.gave_up h.between v m ∷ []) tt refl
          (still w n, h.checkpoint.makes, (still h.between n, h.makes, still v m))
          (record {
            fault = h.fault;
            checkpoint = refl;
            refused = refl;
            room = h.checkpoint.short;
            unrecorded = refl;
            event_is = refl;
            told = h.told;
            makes = record { place_is = refl; next_is = longer; to_is = sym is };
          })

  -- asking for the next entry
  pub next_acts : (answer : Answer) → length v.slots ≡ length w.slots → IsEventDone g (Next s) answer w v → IsWithinRoom p.asked (given_more p answer).given → is_last answer ≡ false
      → HasActed g handed w pending records → HasActed g handed v (slice_set pending s (Some (given_more p answer))) records
  next_acts answer sessions did most on a =
      acts_on g handed w v pending records a s p (given_more p answer) at (one_of (Next s) answer w v n ∷ []) (record { goes = (refl, on); room = tt; unrecorded = refl }, tt)
      (still w n, makes_of g (Next s) answer w v sessions did.goes did.always, still v n) refl refl refl refl most (ap (λ (l : List Entry). p.given ++ l) (sym (append-nil (gift_of answer))))

  -- giving a call up
  pub end_acts : (answer : Answer) → EventEffect g (kind_of (End s)) answer w v → answer ≡ Ended → MayBeLeft p.asked p.given (ready_count (slot_of w.slots s)) (slot_add (slot_of w.slots s)) → (to : ℕ) → to ≡ (g.state v.store).acts
      → HasActed g handed w pending records → HasActed g handed v (slice_set pending s None) (records ++ completed_of s p answer to ∷ [])
  end_acts answer makes ended may to to_is a =
      let m = length (records ++ completed_of s p answer to ∷ []) in
      let longer : m ≡ suc n = (let x = length-append records (completed_of s p answer to ∷ []) in omega (arith, x)) in
      acts_ended g handed w v pending records a s p at answer to [] (one_of (End s) answer w v m ∷ []) tt refl (still w n, makes, still v m)
      (inr (record { event_is = refl; answer_is = ended; told = ended; may = may; makes = record { place_is = refl; next_is = longer; to_is = sym to_is } }))
