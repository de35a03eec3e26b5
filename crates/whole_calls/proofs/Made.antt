-- Calls as events, one after the other.
use Rattle.std.proofs.Common.{◌≡◌, ℕ, ◌+◌, ◌-◌, ◌≤◌, arith, Option, Some, None, List, [], ◌∷◌, ◌++◌, length, refl, sym, subst, inl, inr, length-append}
use Rattle.whole_calls.proofs.Imports.{Event, are_of_both, Ghosts, Answer, StoreAndSlots, Kind, kind_of, IsOfSession, EventEffect, IsAmong, IsOutcomeOf, HasItsRoom, AreMade, IsMadeOf, Answered}
use Rattle.whole_calls.proofs.Imports.{ComesTo, StepComesTo}
use Rattle.whole_calls.proofs.Composing.{among_left, among_right}

-- an answer that is among these is one of them
among_some : (xs : List Answer) (answer : Answer) → IsAmong xs answer → 1 ≤ length xs
among_some [] answer h = absurd h
among_some (x ∷ xs) answer h = omega arith

answered_left : (xs ys : List Answer) (answer : Answer) → Answered answer xs → Answered answer (xs ++ ys)
answered_left xs ys answer (inl h) = inl (among_left xs ys answer h)
answered_left xs ys answer (inr h) = (let a = length-append xs ys in let b = h.1 in inr (h.0, omega (arith, a, b)))

pub answered_right : (xs ys : List Answer) (answer : Answer) → Answered answer ys → Answered answer (xs ++ ys)
answered_right xs ys answer (inl h) = inl (among_right xs ys answer h)
answered_right xs ys answer (inr h) = (let a = length-append xs ys in let b = h.1 in inr (h.0, omega (arith, a, b)))

-- what was answered by one of them
pub comes_by : (xs : List Answer) (came : Option Answer) → IsOutcomeOf xs came → ComesTo came xs
comes_by xs None h = tt
comes_by xs (Some answer) h = inl h

-- what a step came to is among its answers
step_among : (answer : Answer) (xs : List Answer) → StepComesTo answer xs → IsAmong xs answer
step_among answer xs (inl is) = subst (λ (l : List Answer). IsAmong l answer) (sym is) (inl refl)
step_among answer xs (inr is) = subst (λ (l : List Answer). IsAmong l answer) (sym is.1) (inr (inl refl))

made_both : {S : Type 0} (g : Ghosts S) (least_room : ℕ) (xs ys : List Event) (ps qs : List Answer) (a b c : StoreAndSlots S)
    → AreMade g least_room xs ps a b → AreMade g least_room ys qs b c → AreMade g least_room (xs ++ ys) (ps ++ qs) a c
made_both {S} g least_room [] ys [] qs a b c one two = subst (λ (m : StoreAndSlots S). AreMade g least_room ys qs m c) (sym one) two
made_both g least_room (x ∷ xs) ys (p ∷ ps) qs a b c one two = (one.0, (one.1.0, one.1.1, made_both g least_room xs ys ps qs one.1.0 b c one.1.2 two))
made_both g least_room [] ys (p ∷ ps) qs a b c one two = absurd one
made_both g least_room (x ∷ xs) ys [] qs a b c one two = absurd one

module _ {S : Type 0} {g : Ghosts S} {session least_room : ℕ} where
  -- one call after the other
  pub made_then : {One Two Both : List Answer → Type 0} {a b c : StoreAndSlots S} → IsMadeOf g session least_room One a b → IsMadeOf g session least_room Two b c
      → ((xs ys : List Answer) → One xs → Two ys → Both (xs ++ ys)) → IsMadeOf g session least_room Both a c
  made_then {a = a} {b = b} {c = c} one two comes = record {
    events = one.events ++ two.events;
    answers = one.answers ++ two.answers;
    own = are_of_both session one.events two.events one.own two.own;
    made = made_both g least_room one.events two.events one.answers two.answers a b c one.made two.made;
    outcome_by = comes one.answers two.answers one.outcome_by two.outcome_by;
  }

  -- ... which comes to what the first came to
  pub made_first : (came : Option Answer) {Two : List Answer → Type 0} {a b c : StoreAndSlots S} → IsMadeOf g session least_room (ComesTo came) a b → IsMadeOf g session least_room Two b c
      → IsMadeOf g session least_room (ComesTo came) a c
  made_first came one two = made_then one two (λ xs ys so also. of came xs ys so)
    where
      of : (o : Option Answer) (xs ys : List Answer) → ComesTo o xs → ComesTo o (xs ++ ys)
      of None xs ys so = tt
      of (Some answer) xs ys so = answered_left xs ys answer so

  -- ... and whose last answer is this
  pub made_last : {One : List Answer → Type 0} {answer : Answer} {a b c : StoreAndSlots S} → IsMadeOf g session least_room One a b
      → IsMadeOf g session least_room (λ answers. IsAmong answers answer) b c → IsMadeOf g session least_room (λ answers. IsAmong answers answer) a c
  made_last {answer = answer} one two = made_then one two (λ xs ys h so. among_right xs ys answer so)

  -- ... in a loop that may go round so often still
  pub made_more : (most left : ℕ) {answer : Answer} {a b c : StoreAndSlots S} → IsMadeOf g session least_room (λ answers. most ≤ left + length answers) a b
      → IsMadeOf g session least_room (λ answers. IsAmong answers answer) b c → IsMadeOf g session least_room (λ answers. most ≤ left - 1 + length answers) a c
  made_more most left {answer} one two =
      made_then one two (λ xs ys many so. (let some = among_some ys answer so in let both = length-append xs ys in omega (arith, many, some, both)))

  -- the same events, told otherwise
  pub made_told : {One Two : List Answer → Type 0} {a b : StoreAndSlots S} → IsMadeOf g session least_room One a b → ((xs : List Answer) → One xs → Two xs) → IsMadeOf g session least_room Two a b
  made_told one tells = record { events = one.events; answers = one.answers; own = one.own; made = one.made; outcome_by = tells one.answers one.outcome_by }

  -- no event
  pub made_nowhere : {CallOutcome : List Answer → Type 0} {a : StoreAndSlots S} → CallOutcome [] → IsMadeOf g session least_room CallOutcome a a
  made_nowhere came = record { events = []; answers = []; own = tt; made = refl; outcome_by = came }

  -- one event, of this kind
  pub made_alone : (event : Event) (kind : Kind) {answer : Answer} {a b : StoreAndSlots S} → kind_of event ≡ kind → IsOfSession session kind
      → HasItsRoom least_room kind (g.state a.store).format (g.backing a.store) → EventEffect g kind answer a b → IsMadeOf g session least_room (λ answers. answers ≡ answer ∷ []) a b
  made_alone event kind {answer} {a} {b} is of room makes = record {
    events = event ∷ [];
    answers = answer ∷ [];
    own = (subst (λ (k : Kind). IsOfSession session k) (sym is) of, tt);
    made = (
      subst (λ (k : Kind). HasItsRoom least_room k (g.state a.store).format (g.backing a.store)) (sym is) room,
      (b, subst (λ (k : Kind). EventEffect g k answer a b) (sym is) makes, refl),
    );
    outcome_by = refl;
  }

  -- ... which answered this
  pub made_once : (event : Event) (kind : Kind) {answer : Answer} {a b : StoreAndSlots S} → kind_of event ≡ kind → IsOfSession session kind
      → HasItsRoom least_room kind (g.state a.store).format (g.backing a.store) → EventEffect g kind answer a b → IsMadeOf g session least_room (λ answers. IsAmong answers answer) a b
  made_once event kind {answer} is of room makes = made_told (made_alone event kind is of room makes) (λ xs alone. step_among answer xs (inl alone))

  -- one step, which answered this
  pub made_among : {answer : Answer} {a b : StoreAndSlots S} → IsMadeOf g session least_room (StepComesTo answer) a b → IsMadeOf g session least_room (λ answers. IsAmong answers answer) a b
  made_among {answer} one = made_told one (step_among answer)
