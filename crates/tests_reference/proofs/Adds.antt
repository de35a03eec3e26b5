-- The Add of an insert.
use Rattle.std.proofs.Common.{◌≡◌, ℕ, suc, Bool, true, false, List, Some, sym, ap, subst, ◌∙◌, not, arith}
use Rattle.tests_reference.specs.declared.action.PlainEffect.TheVariants.{Adds}
use Rattle.tests_reference.proofs.Imports.{slice_get, IsTrue, ◌↔◌, None, same_Some, Add, Action, is_there_after, IsAdded, Entry, effect_of, action_of, PlainAction}

-- the Add of a call
abbrev pub add_by : ℕ → Entry → Action
add_by number e = record { by = number; effect = Add e }

pub is_add : (a : PlainAction) (number : ℕ) (x e : Entry) → a.by ≡ number → a.effect ≡ Adds x → x ≡ e → action_of a ≡ add_by number e
is_add a number x e by effect same =
    let meant : effect_of a.effect ≡ Add e = ap effect_of effect ∙ ap (λ (y : Entry). Add y) same in
    λ i. let action : Action = record { by = by i; effect = meant i } in action

pub adds_it : (a : PlainAction) (number : ℕ) (x e : Entry) → a.effect ≡ Adds x → action_of a ≡ add_by number e → x ≡ e
adds_it a number x e effect is =
    let meant : effect_of a.effect ≡ Add e = ap (λ (b : Action). b.effect) is in
    let own : effect_of a.effect ≡ Add x = ap effect_of effect in
    cc

-- what the Add of the number after `before` is
pub record IsAddAfter (start : Entry → Bool) (history : List Action) (number before : ℕ) (e : Entry) : Type 0 where
  pub action_is : slice_get history before ≡ Some (add_by number e)
  pub was_absent : is_there_after start history before e ≡ false

pub after_action : (start : Entry → Bool) (history : List Action) (number began ended : ℕ) (e : Entry) (action before : ℕ) → action ≡ suc before
    → IsAdded start history number began ended e action → IsAddAfter start history number before e
after_action start history number began ended e action before is added =
    let same : added.before ≡ before = omega (arith, added.number_is) in
    record {
      action_is = subst (λ (k : ℕ). slice_get history k ≡ Some (add_by number e)) same added.action_is;
      was_absent = subst (λ (k : ℕ). is_there_after start history k e ≡ false) same added.was_absent;
    }

pub not_there : (answer there : Bool) → answer ≡ there → not answer ≡ true → there ≡ false
not_there true there same is = absurd cc
not_there false there same _ = sym same

-- if the action at the place is the one found, asking of it is asking of the place
pub at_place : (history : List Action) (k : ℕ) (a b : Action) (answer : Bool) → slice_get history k ≡ Some a → (IsTrue answer ↔ (a ≡ b))
    → IsTrue answer ↔ (slice_get history k ≡ Some b)
at_place history k a b answer found test =
    (λ yes. found ∙ ap Some (test.0 yes), λ is. test.1 (same_Some a b (sym found ∙ is)))

pub at_no_place : (history : List Action) (k : ℕ) (b : Action) → slice_get history k ≡ None → IsTrue false ↔ (slice_get history k ≡ Some b)
at_no_place history k b none = (λ never. absurd cc, λ is. absurd cc)
