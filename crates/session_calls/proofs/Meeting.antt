-- What a running call means still holds after an event of its own, and what it means when it ends.
use Rattle.std.proofs.Common.{◌≡◌, ◌≢◌, ℕ, suc, ◌+◌, ◌≤◌, Bool, true, false, not, ◌&&◌, Option, Some, None, List, [], ◌∷◌, ◌++◌, length, inl, inr, refl, sym, ap, subst, ◌∙◌, arith, length-append}
use Rattle.session_calls.proofs.Imports.{and_parts, cases_Bool, Effect, Add, Remove, Shape, Action, contents_after, ThereAtSomeMoment, Ask, AskInsert, AskScan, AskBulkDelete, AskCleanup, Ending}
use Rattle.session_calls.proofs.Imports.{Running, EndsAdded, GivenUp, Failed, Call, AnswersRight, InsertMayFail, IsAdded, IsInsertAnswer, end_of, Meets, same_entry, Row, Entry, Fault}
use Rattle.session_calls.proofs.Imports.{same_entry-is, same_entry-self, meets_later, there_before, there_now, with_row, other_row_is_there, entry_on_live_leaf, State, acts_of, Matches, act_count}
use Rattle.session_calls.proofs.Imports.{IsAsked, noted, ended}
use Rattle.session_calls.proofs.Lists.{get_append_new}

-- the history has as many actions more as the event has effects
pub grown : (history : List Action) (number : ℕ) (effect : Option Effect) → length (history ++ acts_of number effect) ≡ act_count effect + length history
grown history number None = omega (arith, length-append history (acts_of number None))
grown history number (Some effect) = omega (arith, length-append history (acts_of number (Some effect)))

module _ (start : Entry → Bool) (history : List Action) (number : ℕ) (call : Call) (meets : Meets start history number call) (running : call.ending ≡ Running) where
  pub began_before : call.began ≤ length history
  began_before = subst (λ (x : Ending). call.began ≤ end_of history x call.until) running meets.began

  pub right_now : AnswersRight start history number call.began (length history) call.ask call.given call.added Running
  right_now = subst (λ (x : Ending). AnswersRight start history number call.began (end_of history x call.until) call.ask call.given call.added x) running meets.right

  -- its Add is right
  module _ (e : Entry) (ask : call.ask ≡ AskInsert e) (absent : contents_after start history e ≡ false) where
    abbrev act : Action
    act = record { by = number; effect = Add e }

    longer : length (history ++ act ∷ []) ≡ suc (length history)
    longer = omega (arith, length-append history (act ∷ []))

    is_added : IsAdded start (history ++ act ∷ []) number call.began (length (history ++ act ∷ [])) e (suc (length history))
    is_added = record {
      before = length history;
      number_is = refl;
      since = began_before;
      until = omega (arith, longer);
      action_is = get_append_new history act;
      was_absent = there_before start history (act ∷ []) (length history) e (omega arith) ∙ there_now start history e ∙ absent;
    }

    meets_added : Meets start (history ++ act ∷ []) number (noted call (length history) (Some (Add e)))
    meets_added =
        let more : List Action = history ++ act ∷ [] in
        let answer : IsInsertAnswer start more number call.began (length more) e (Some (suc (length history))) Running = record { add = is_added; end = tt } in
        record {
          began = subst (λ (x : Ending). call.began ≤ end_of more x call.until) (sym running) (omega (arith, longer, began_before));
          until = subst (λ (x : Ending). end_of more x call.until ≤ length more) (sym running) (omega arith);
          right = subst (λ (x : Ending). AnswersRight start more number call.began (end_of more x call.until) call.ask call.given (Some (suc (length history))) x) (sym running)
              (subst (λ (a : Ask). AnswersRight start more number call.began (length more) a call.given (Some (suc (length history))) Running) (sym ask) answer);
        }

  only_inserts_add : (e : Entry) (ask : Ask) → call.ask ≡ ask → IsAsked (contents_after start history) ask call.added (Some (Add e)) → call.ask ≡ AskInsert e
  only_inserts_add e (AskInsert x) is h = is ∙ ap AskInsert h.0.0
  only_inserts_add e (AskScan r) is h = absurd h.0
  only_inserts_add e (AskBulkDelete dead) is h = absurd h.0
  only_inserts_add e AskCleanup is h = absurd h.0

  -- a call goes on meeting its definition after what it was asked to do
  pub meets_noted : (effect : Option Effect) → IsAsked (contents_after start history) call.ask call.added effect
      → Meets start (history ++ acts_of number effect) number (noted call (length history) effect)
  meets_noted None h = meets_later start history (acts_of number None) number call meets
  meets_noted (Some (Add e)) h = meets_added e (only_inserts_add e call.ask refl h) h.1
  meets_noted (Some (Remove es)) h = meets_later start history (acts_of number (Some (Remove es))) number call meets
  meets_noted (Some Shape) h = meets_later start history (acts_of number (Some Shape)) number call meets

  given_up_ask : (ask : Ask) → AnswersRight start history number call.began (length history) ask call.given call.added Running
      → AnswersRight start history number call.began (length history) ask call.given call.added GivenUp
  given_up_ask (AskInsert e) h = record { add = h.add; end = tt }
  given_up_ask (AskScan r) h = h
  given_up_ask (AskBulkDelete dead) h = tt
  given_up_ask AskCleanup h = tt

  -- a call that is given up meets its definition
  pub meets_given_up : Meets start history number (ended call GivenUp (length history))
  meets_given_up = record { began = began_before; until = omega arith; right = given_up_ask call.ask right_now }

  failed_ask : (f : Fault) (ask : Ask) → ((e : Entry) → ask ≡ AskInsert e → (call.added ≡ None) × InsertMayFail start history call.began (length history) e f)
      → AnswersRight start history number call.began (length history) ask call.given call.added Running
      → AnswersRight start history number call.began (length history) ask call.given call.added (Failed f)
  failed_ask f (AskInsert e) may h = record { add = h.add; end = may e refl }
  failed_ask f (AskScan r) may h = h
  failed_ask f (AskBulkDelete dead) may h = tt
  failed_ask f AskCleanup may h = tt

  -- so does one that a fault ends
  pub meets_failed : (f : Fault)
      → ((e : Entry) → call.ask ≡ AskInsert e → (call.added ≡ None) × InsertMayFail start history call.began (length history) e f) → Meets start history number (ended call (Failed f) (length history))
  meets_failed f may = record { began = began_before; until = omega arith; right = failed_ask f call.ask may right_now }

  -- an insert that ends with its Add meets its definition
  pub meets_ended_added : (e : Entry) (action : ℕ) (unfinished : Option Fault) → call.ask ≡ AskInsert e → call.added ≡ Some action
      → Meets start history number (ended call (EndsAdded action unfinished) (length history))
  meets_ended_added e action unfinished ask added =
      let right = subst (λ (a : Ask). AnswersRight start history number call.began (length history) a call.given call.added Running) ask right_now in
      let answer : IsInsertAnswer start history number call.began (length history) e call.added (EndsAdded action unfinished) = record { add = right.add; end = added } in
      record {
        began = began_before;
        until = omega arith;
        right = subst (λ (a : Ask). AnswersRight start history number call.began (length history) a call.given call.added (EndsAdded action unfinished)) (sym ask) answer;
      }

-- if another row of a key is there, the index is unique, the row is another, and its entry is there
pub other_row_is : (st : State) (e : Entry) (r : Row) → other_row_is_there st e r ≡ true
    → (st.format.unique ≡ true) × (r ≢ e.row) × (entry_on_live_leaf st.pages (with_row e r) ≡ true)
other_row_is st e r h =
    let both = and_parts st.format.unique (not (same_entry (with_row e r) e) && entry_on_live_leaf st.pages (with_row e r)) h in
    let parts = and_parts (not (same_entry (with_row e r) e)) (entry_on_live_leaf st.pages (with_row e r)) both.1 in
    (both.0, (λ same. itself same parts.0), parts.1)
  where
    itself : r ≡ e.row → not (same_entry (with_row e r) e) ≡ true → ⊥
    itself same apart =
        let is : same_entry (with_row e r) e ≡ true = subst (λ (w : Row). same_entry (with_row e w) e ≡ true) (sym same) (same_entry-self e) in
        let none : not true ≡ true = subst (λ (b : Bool). not b ≡ true) is apart in cc

-- the entry of another row of its key is another entry
apart_rows : (e : Entry) (r : Row) → r ≢ e.row → same_entry (with_row e r) e ≡ false
apart_rows e r differ = elim (cases_Bool (same_entry (with_row e r) e)) [
  | inl is ↦ absurd (differ (ap (λ (x : Entry). x.row) (same_entry-is (with_row e r) e is)))
  | inr is ↦ is
]

-- ... and the other way round
pub other_row_so : (st : State) (e : Entry) (r : Row) → st.format.unique ≡ true → r ≢ e.row → entry_on_live_leaf st.pages (with_row e r) ≡ true → other_row_is_there st e r ≡ true
other_row_so st e r unique differ there = rw unique (rw (apart_rows e r differ) there)

-- an entry that the pages hold now was there at some moment
pub there_at_present : (st : State) (start : Entry → Bool) (history : List Action) (began : ℕ) (e : Entry) → Matches st start history
    → began ≤ length history → entry_on_live_leaf st.pages e ≡ true → ThereAtSomeMoment start history began (length history) e
there_at_present st start history began e m le h = record { moment = length history; since = le; until = omega arith; there = there_now start history e ∙ sym (m.contents e) ∙ h }
