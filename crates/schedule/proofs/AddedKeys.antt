-- An entry that is added to a unique index has a key that no entry had just before.
use Rattle.std.proofs.Common.{◌≡◌, ℕ, zero, suc, Bool, true, false, ◌||◌, Option, Some, List, [], ◌∷◌, ◌++◌, take, slice_get, sym, ap, subst, inl, inr, ◌∙◌, arith, refl}
use Rattle.schedule.specs.Keys.{AddedKeysAreNew}
use Rattle.schedule.proofs.Imports.{cases_Bool, Action, Add, contents_after, is_there_after, same_entry, Ask, AskInsert, Call, AddIsRight, AnswersRight, IsAdded, IsInsertAnswer, end_of, Entry}
use Rattle.schedule.proofs.Imports.{same_entry-self, contents_after-add, Ghosts, Moment, Fits}

-- a prefix of one action more
take_one_more : (l : List Action) (n : ℕ) (a : Action) → slice_get l n ≡ Some a → take (suc n) l ≡ take n l ++ a ∷ []
take_one_more [] n a found = absurd cc
take_one_more (x ∷ l) zero a found = (let same : x ≡ a = cc in ap (λ (y : Action). y ∷ []) same)
take_one_more (x ∷ l) (suc n) a found = ap (λ (m : List Action). x ∷ m) (take_one_more l n a found)

or_true : (b : Bool) → (b || true) ≡ true
or_true true = refl
or_true false = refl

module _ {S : Type 0} (g : Ghosts S) (start : Entry → Bool) (now : Moment S) (number before : ℕ) (call : Call) (e x : Entry) (fits : Fits g start now)
    (asked : (g.state now.store).format.unique ≡ true) (found : slice_get now.calls number ≡ Some call) (ask : call.ask ≡ AskInsert e)
    (added : call.added ≡ Some (suc before)) (same : x.key ≡ e.key) where
  answer : IsInsertAnswer start now.history number call.began (end_of now.history call.ending call.until) e call.added call.ending
  answer = subst (λ (a : Ask). AnswersRight start now.history number call.began (end_of now.history call.ending call.until) a call.given call.added call.ending) ask
      (fits.explains.meets number call found).right

  is : IsAdded start now.history number call.began (end_of now.history call.ending call.until) e (suc before)
  is = subst (λ (o : Option ℕ). AddIsRight start now.history number call.began (end_of now.history call.ending call.until) e o) added answer.add

  here : is.before ≡ before
  here = (let n : suc before ≡ suc is.before = is.number_is in omega arith)

  there_or_added : (y : Entry) → is_there_after start now.history (suc before) y ≡ (same_entry e y || is_there_after start now.history before y)
  there_or_added y =
      ap (λ (l : List Action). contents_after start l y)
      (take_one_more now.history before (record { by = number; effect = Add e }) (subst (λ (n : ℕ). slice_get now.history n ≡ Some (record { by = number; effect = Add e })) here is.action_is))
      ∙ contents_after-add start (take before now.history) number e y

  absent : is_there_after start now.history before e ≡ false
  absent = subst (λ (n : ℕ). is_there_after start now.history n e ≡ false) here is.was_absent

  clash : is_there_after start now.history before x ≡ true → ⊥
  clash there =
      let x_after : is_there_after start now.history (suc before) x ≡ true = there_or_added x ∙ rw there (or_true (same_entry e x)) in
      let e_after : is_there_after start now.history (suc before) e ≡ true = there_or_added e ∙ rw (same_entry-self e) refl in
      let one : x ≡ e = fits.explains.unique asked (suc before) x e x_after e_after same in
      let e_there : is_there_after start now.history before e ≡ true = subst (λ (y : Entry). is_there_after start now.history before y ≡ true) one there in
      let false_true : false ≡ true = sym absent ∙ e_there in
      absurd cc

  pub added_key_is_new : is_there_after start now.history before x ≡ false
  added_key_is_new = elim (cases_Bool (is_there_after start now.history before x)) [
    | inl there ↦ absurd (clash there)
    | inr not ↦ not
  ]

pub added_keys_are_new : {S : Type 0} (g : Ghosts S) → AddedKeysAreNew g
added_keys_are_new g start now number before call e x fits asked found ask added same = added_key_is_new g start now number before call e x fits asked found ask added same
