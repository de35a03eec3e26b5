-- The owners of actions.
use Rattle.std.proofs.Common.{◌≡◌, ℕ, zero, suc, ◌≤◌, ◌<◌, Bool, true, false, List, [], ◌∷◌, Some, None, length, get_or, refl, sym, ap, subst, ◌∙◌, arith, inl, inr, ◌⊎◌}
use Rattle.tests_reference.proofs.Imports.{slice_get, IsTrue, ◌↔◌, same_Some, Action, Call, IsOwned, ActionsAreOwned, Entry, call_of, meant_calls, HasRight, IsOwnedAt, cases_lt}
use Rattle.tests_reference.specs.declared.call.PlainCall.{PlainCall}

-- after the last call there is none
pub no_call : (k : ℕ) (calls : List PlainCall) → length calls ≤ k → slice_get (meant_calls calls) k ≡ None
no_call k [] le = refl
no_call zero (c ∷ calls) le = absurd (omega arith)
no_call (suc k) (c ∷ calls) le = no_call k calls (omega arith)

-- the call at a place means the call of this number
pub call_found : (k : ℕ) (calls : List PlainCall) (c : PlainCall) → k < length calls → c ≡ get_or calls k c → slice_get (meant_calls calls) k ≡ Some (call_of c)
call_found k [] c lt is = absurd (omega arith)
call_found zero (b ∷ calls) c lt is = ap (λ (x : PlainCall). Some (call_of x)) (sym is)
call_found (suc k) (b ∷ calls) c lt is = call_found k calls c (omega arith) is

module _ (start : Entry → Bool) (history : List Action) (calls : List Call) (before : ℕ) where
  -- asking of the call that is found is asking for the owner
  pub by_call : (action : Action) (c : Call) (answer : Bool) → slice_get calls action.by ≡ Some c → (IsTrue answer ↔ HasRight start history before action c)
      → IsTrue answer ↔ IsOwned start history calls before action
  by_call action c answer found test = (
    λ y. let right = test.0 y in record { call = c; found = found; since = right.since; until = right.until; may = right.may },
    λ o.
        let right : HasRight start history before action o.call = record { since = o.since; until = o.until; may = o.may } in
        test.1 (subst (λ (x : Call). HasRight start history before action x) (same_Some o.call c (sym o.found ∙ found)) right),
  )

  pub by_no_call : (action : Action) → slice_get calls action.by ≡ None → IsTrue false ↔ IsOwned start history calls before action
  by_no_call action none = (λ never. absurd cc, λ o. let found = o.found in absurd cc)

  pub of_action : (action : Action) (answer : Bool) → slice_get history before ≡ Some action → (IsTrue answer ↔ IsOwned start history calls before action)
      → IsTrue answer ↔ IsOwnedAt start history calls before
  of_action action answer found test = (
    λ y. record { owned = λ other is. subst (λ (x : Action). IsOwned start history calls before x) (same_Some action other (sym found ∙ is)) (test.0 y) },
    λ at. test.1 (at.owned action found),
  )

  pub of_no_action : slice_get history before ≡ None → IsTrue true ↔ IsOwnedAt start history calls before
  of_no_action none = (λ y. record { owned = λ other is. absurd cc }, λ at. refl)

next_side : (a b : ℕ) → (a < b) ⊎ (b ≤ a) → (suc a < suc b) ⊎ (suc b ≤ suc a)
next_side a b (inl l) = inl (omega arith)
next_side a b (inr l) = inr (omega arith)

-- if each action of the list is owned, all are
pub all_owned : (start : Entry → Bool) (history : List Action) (calls : List Call) (count : ℕ) → ((k : ℕ) → count ≤ k → slice_get history k ≡ None)
    → ((k : ℕ) → k < count → IsOwnedAt start history calls k) → ActionsAreOwned start history calls
all_owned start history calls count none_later owned before action is = by (cases_lt before count)
  where
    by : (before < count) ⊎ (count ≤ before) → IsOwned start history calls before action
    by (inl lt) = (owned before lt).owned action is
    by (inr le) = let none = none_later before le in absurd cc
