-- Each action is owned by the call that asked for it.
use Rattle.std.proofs.Common.{◌≡◌, ℕ, zero, suc, ◌≤◌, Bool, Option, Some, None, List, [], ◌∷◌, ◌++◌, length, slice_get, refl, sym, ap, subst, arith, ◌∙◌}
use Rattle.tree_acts.specs.Steps.{IsApt}
use Rattle.schedule.proofs.Imports.{Effect, Add, Remove, Shape, Action, contents_after, is_there_after, Ask, AskInsert, AskScan, AskBulkDelete, AskCleanup, Call, MayAct, Entry, there_before}
use Rattle.schedule.proofs.Imports.{there_now, acts_of, IsAsked, add_after, AnswerMeans, Answer, Begun, Going, Added, Ready, Done, Finished, Gave, Ended, Forced, Flushed, Checkpointed, Refused}
use Rattle.schedule.proofs.Imports.{IsDurable}

-- no number of durable actions is told of a call
pub told_durable : (answer : Answer) (durable count : ℕ) (effect : Option Effect) (call after : Call) → AnswerMeans answer count effect call after → IsDurable durable answer
told_durable Begun d k x c after h = tt
told_durable Going d k x c after h = tt
told_durable (Added a u) d k x c after h = tt
told_durable (Ready r) d k x c after h = tt
told_durable Done d k x c after h = tt
told_durable (Finished s) d k x c after h = tt
told_durable (Gave g) d k x c after h = tt
told_durable Ended d k x c after h = tt
told_durable (Forced n) d k x c after h = absurd h
told_durable (Flushed b) d k x c after h = tt
told_durable (Checkpointed n) d k x c after h = absurd h
told_durable (Refused f) d k x c after h = tt

-- an event appends one action at most
pub acts_few : (number : ℕ) (effect : Option Effect) → length (acts_of number effect) ≤ 1
acts_few number None = omega arith
acts_few number (Some effect) = omega arith

-- a call that has an Add keeps it after what it was asked for
pub add_stays : (was_there : Entry → Bool) (ask : Ask) (added : Option ℕ) (count : ℕ) (effect : Option Effect) → IsAsked was_there ask added effect
    → (action : ℕ) → added ≡ Some action → add_after added count effect ≡ Some action
add_stays was_there ask added count None h action is = is
add_stays was_there (AskInsert x) added count (Some (Add e)) h action is = absurd (let none : added ≡ None = h.0.1 in cc)
add_stays was_there (AskScan r) added count (Some (Add e)) h action is = absurd h.0
add_stays was_there (AskBulkDelete d) added count (Some (Add e)) h action is = absurd h.0
add_stays was_there AskCleanup added count (Some (Add e)) h action is = absurd h.0
add_stays was_there ask added count (Some (Remove es)) h action is = is
add_stays was_there ask added count (Some Shape) h action is = is

-- what a call was asked for, it may do
may_act : (was_there : Entry → Bool) (ask : Ask) (added : Option ℕ) (action : ℕ) (effect : Effect) → IsAsked was_there ask added (Some effect)
    → MayAct was_there action effect ask (add_after added action (Some effect))
may_act was_there (AskInsert x) added action (Add e) h = (h.0.0, refl, h.1)
may_act was_there (AskScan r) added action (Add e) h = absurd h.0
may_act was_there (AskBulkDelete d) added action (Add e) h = absurd h.0
may_act was_there AskCleanup added action (Add e) h = absurd h.0
may_act was_there (AskInsert x) added action (Remove es) h = absurd h.0
may_act was_there (AskScan r) added action (Remove es) h = absurd h.0
may_act was_there (AskBulkDelete d) added action (Remove es) h = (h.1.0, h.1.1, λ e among. (h.0 e among, h.1.2 e among))
may_act was_there AskCleanup added action (Remove es) h = absurd h.0
may_act was_there (AskInsert x) added action Shape h = tt
may_act was_there (AskScan r) added action Shape h = absurd h.0
may_act was_there (AskBulkDelete d) added action Shape h = absurd h.0
may_act was_there AskCleanup added action Shape h = tt

-- ... by what was there before
apt_of : (was is : Entry → Bool) → ((e : Entry) → is e ≡ was e) → (effect : Effect) → IsApt was effect → IsApt is effect
apt_of was is same (Add e) h = same e ∙ h
apt_of was is same (Remove es) h = (h.0, h.1, λ e among. same e ∙ h.2 e among)
apt_of was is same Shape h = tt

pub asked_same : (was is : Entry → Bool) → ((e : Entry) → is e ≡ was e) → (ask : Ask) (added : Option ℕ) (effect : Option Effect) → IsAsked was ask added effect → IsAsked is ask added effect
asked_same was is same ask added None h = tt
asked_same was is same ask added (Some effect) h = (h.0, apt_of was is same effect h.1)

-- the one action that an event appends is its call's own
pub own_action : (start : Entry → Bool) (history : List Action) (number : ℕ) (ask : Ask) (added : Option ℕ) (effect : Option Effect) → IsAsked (contents_after start history) ask added effect
    → (k : ℕ) (a : Action) → slice_get (acts_of number effect) k ≡ Some a
    → (k ≡ 0) × (a.by ≡ number) × MayAct (is_there_after start (history ++ acts_of number effect) (length history)) (suc (length history)) a.effect ask (add_after added (suc (length history)) effect)
own_action start history number ask added None asked k a h = absurd (let none : slice_get {X = Action} [] k ≡ Some a = h in cc)
own_action start history number ask added (Some effect) asked k a h =
    let at = one_place k h in (
      at.0,
      sym (ap (λ (x : Action). x.by) at.1),
      subst (λ (x : Action). MayAct there_then (suc (length history)) x.effect ask (add_after added (suc (length history)) (Some effect))) at.1
          (may_act there_then ask added (suc (length history)) effect (asked_same (contents_after start history) there_then same_then ask added (Some effect) asked)),
    )
  where
    act : Action
    act = record { by = number; effect = effect }

    one_place : (j : ℕ) → slice_get (act ∷ []) j ≡ Some a → (j ≡ 0) × (act ≡ a)
    one_place zero is = (refl, cc)
    one_place (suc j) is = cc

    there_then : Entry → Bool
    there_then = is_there_after start (history ++ acts_of number (Some effect)) (length history)

    same_then : (e : Entry) → there_then e ≡ contents_after start history e
    same_then e = there_before start history (acts_of number (Some effect)) (length history) e (omega arith) ∙ there_now start history e
