-- A call that goes on over several events: what is told of the one and then of the other is told of both.
use Rattle.std.proofs.Common.{◌≡◌, ℕ, zero, suc, ◌+◌, Option, Some, None, List, [], ◌∷◌, ◌++◌, length, slice_get, slice_set, refl, sym, ap, subst, arith, inl, inr, ◌∙◌, length-append, append_assoc}
use Rattle.whole_calls.proofs.Imports.{append-nil, get_set_same, get_within, Effect, Action, Ask, Call, acts_of, AnswerMeans, noted, Answer, Going, Moment, IsRunningCall, IsSameHistory, MayAnswer}
use Rattle.whole_calls.proofs.Imports.{acts_by, noted_after, AreOwnEffects, IsOwnEffect, HasContinued, HasRunSoFar, CallAnswers, StepMeans, SessionStepMeans}

pub set_same : {X : Type 0} (xs : List X) (i : ℕ) (x : X) → slice_get xs i ≡ Some x → slice_set xs i x ≡ xs
set_same [] i x h = refl
set_same (y ∷ ys) zero x h = cc
set_same (y ∷ ys) (suc n) x h = ap (λ l. y ∷ l) (set_same ys n x h)

set_twice : {X : Type 0} (xs : List X) (i : ℕ) (x y : X) → slice_set (slice_set xs i x) i y ≡ slice_set xs i y
set_twice [] i x y = refl
set_twice (z ∷ zs) zero x y = refl
set_twice (z ∷ zs) (suc n) x y = ap (λ l. z ∷ l) (set_twice zs n x y)

-- an effect, if there is one
abbrev pub listed : Option Effect → List Effect
listed None = []
listed (Some effect) = effect ∷ []

acts_append : (number : ℕ) (xs ys : List Effect) → acts_by number (xs ++ ys) ≡ acts_by number xs ++ acts_by number ys
acts_append number [] ys = refl
acts_append number (x ∷ xs) ys = ap (λ (l : List Action). (record { by = number; effect = x }) ∷ l) (acts_append number xs ys)

acts_many : (number : ℕ) (xs : List Effect) → length (acts_by number xs) ≡ length xs
acts_many number [] = refl
acts_many number (x ∷ xs) = ap suc (acts_many number xs)

acts_listed : (number : ℕ) (o : Option Effect) → acts_by number (listed o) ≡ acts_of number o
acts_listed number None = refl
acts_listed number (Some e) = refl

-- how many actions there are after these effects
pub many_after : (history : List Action) (number : ℕ) (xs : List Effect) → length (history ++ acts_by number xs) ≡ length xs + length history
many_after history number xs =
    let a : length (history ++ acts_by number xs) ≡ length history + length (acts_by number xs) = length-append history (acts_by number xs) in
    let b : length (acts_by number xs) ≡ length xs = acts_many number xs in
    omega (arith, a, b)

noted_append : (call : Call) (count : ℕ) (xs ys : List Effect) (n : ℕ) → n ≡ length xs + count → noted_after call count (xs ++ ys) ≡ noted_after (noted_after call count xs) n ys
noted_append call count [] ys n is = (let e : count ≡ n = omega (arith, is) in ap (λ (k : ℕ). noted_after call k ys) e)
noted_append call count (x ∷ xs) ys n is = noted_append (noted call count (Some x)) (suc count) xs ys n (omega (arith, is))

own_append : (call : Call) (count : ℕ) (xs ys : List Effect) (n : ℕ) → n ≡ length xs + count → AreOwnEffects call count xs
    → AreOwnEffects (noted_after call count xs) n ys → AreOwnEffects call count (xs ++ ys)
own_append call count [] ys n is own also = (let e : n ≡ count = omega (arith, is) in subst (λ (k : ℕ). AreOwnEffects call k ys) e also)
own_append call count (x ∷ xs) ys n is own also = (own.0, own_append (noted call count (Some x)) (suc count) xs ys n (omega (arith, is)) own.1 also)

noted_listed : (call : Call) (count : ℕ) (o : Option Effect) → noted_after call count (listed o) ≡ noted call count o
noted_listed call count None = refl
noted_listed call count (Some e) = refl

own_listed : (call : Call) (count : ℕ) (o : Option Effect) → IsOwnEffect call o → AreOwnEffects call count (listed o)
own_listed call count None h = tt
own_listed call count (Some e) h = (h, tt)

-- what its effects leave of a call
pub same_ask : (call : Call) (count : ℕ) (xs : List Effect) → (noted_after call count xs).ask ≡ call.ask
same_ask call count [] = refl
same_ask call count (x ∷ xs) = same_ask (noted call count (Some x)) (suc count) xs

pub same_session : (call : Call) (count : ℕ) (xs : List Effect) → (noted_after call count xs).session ≡ call.session
same_session call count [] = refl
same_session call count (x ∷ xs) = same_session (noted call count (Some x)) (suc count) xs

pub same_ending : (call : Call) (count : ℕ) (xs : List Effect) → (noted_after call count xs).ending ≡ call.ending
same_ending call count [] = refl
same_ending call count (x ∷ xs) = same_ending (noted call count (Some x)) (suc count) xs

-- no event
pub gone_nowhere : {S : Type 0} (session number : ℕ) (call : Call) (x y : Moment S) → IsRunningCall x.calls session number call → IsSameHistory x y → HasContinued number call [] x y
gone_nowhere session number call x y is s = record {
  own = tt;
  history_is = s.history_is ∙ sym (append-nil x.history);
  calls_is = s.calls_is ∙ sym (set_same x.calls number call is.found);
}

-- a call that has gone on so far, and then further
module _ {S : Type 0} (number : ℕ) (call : Call) (xs : List Effect) (x y z : Moment S) (gone : HasContinued number call xs x y) where
  abbrev mid_call : Call
  mid_call = noted_after call (length x.history) xs

  many : length y.history ≡ length xs + length x.history
  many = ap (λ (l : List Action). length l) gone.history_is ∙ many_after x.history number xs

  grown : (ys : List Effect) → y.history ++ acts_by number ys ≡ x.history ++ acts_by number (xs ++ ys)
  grown ys = ap (λ (l : List Action). l ++ acts_by number ys) gone.history_is ∙ append_assoc x.history (acts_by number xs) (acts_by number ys)
      ∙ ap (λ (l : List Action). x.history ++ l) (sym (acts_append number xs ys))

  changed : (after : Call) → slice_set y.calls number after ≡ slice_set x.calls number after
  changed after = ap (λ (l : List Call). slice_set l number after) gone.calls_is ∙ set_twice x.calls number mid_call after

  mid_noted : (ys : List Effect) → noted_after mid_call (length y.history) ys ≡ noted_after call (length x.history) (xs ++ ys)
  mid_noted ys = sym (noted_append call (length x.history) xs ys (length y.history) many)

  mid_own : (ys : List Effect) → AreOwnEffects mid_call (length y.history) ys → AreOwnEffects call (length x.history) (xs ++ ys)
  mid_own ys own = own_append call (length x.history) xs ys (length y.history) many gone.own own

  -- it runs
  pub gone_runs : (session : ℕ) → IsRunningCall x.calls session number call → IsRunningCall y.calls session number mid_call
  gone_runs session is = record {
    found = ap (λ (l : List Call). slice_get l number) gone.calls_is ∙ get_set_same x.calls number mid_call (get_within x.calls number call is.found);
    session_is = same_session call (length x.history) xs ∙ is.session_is;
    running = same_ending call (length x.history) xs ∙ is.running;
  }

  pub gone_further : (ys : List Effect) → HasContinued number mid_call ys y z → HasContinued number call (xs ++ ys) x z
  gone_further ys more = record {
    own = mid_own ys more.own;
    history_is = more.history_is ∙ grown ys;
    calls_is = more.calls_is ∙ ap (λ (c : Call). slice_set y.calls number c) (mid_noted ys) ∙ changed (noted_after call (length x.history) (xs ++ ys));
  }

  pub gone_told : (answer : Answer) → CallAnswers number mid_call answer y z → CallAnswers number call answer x z
  gone_told answer t = record {
    before = xs ++ t.before;
    last = t.last;
    after = t.after;
    may = subst (λ (a : Ask). MayAnswer a answer) (same_ask call (length x.history) xs) t.may;
    own = mid_own t.before t.own;
    own_last = subst (λ (c : Call). IsOwnEffect c t.last) (mid_noted t.before) t.own_last;
    told = subst (λ (c : Call). AnswerMeans answer (length (x.history ++ acts_by number (xs ++ t.before))) t.last c t.after) (mid_noted t.before)
        (subst (λ (l : List Action). AnswerMeans answer (length l) t.last (noted_after mid_call (length y.history) t.before) t.after) (grown t.before) t.told);
    history_is = t.history_is ∙ ap (λ (l : List Action). l ++ acts_of number t.last) (grown t.before);
    calls_is = t.calls_is ∙ changed t.after;
  }

  pub gone_then : (answer : Answer) → StepMeans number mid_call answer y z → StepMeans number call answer x z
  gone_then answer t = elim t [
    | inl told ↦ inl (gone_told answer told)
    | inr held ↦ inr (record {
      fault = held.fault;
      refused = held.refused;
      before = xs ++ held.before;
      gone = gone_further held.before held.gone;
      not_exists = held.not_exists;
      not_key_exists = held.not_key_exists;
    })
  ]

-- all effects of a call that is told so, with the last
pub record WholeTold {S : Type 0} (number : ℕ) (call : Call) (answer : Answer) (x y : Moment S) (t : CallAnswers number call answer x y) : Type 0 where
  pub effects : List Effect
  pub own : AreOwnEffects call (length x.history) effects
  pub history_is : y.history ≡ x.history ++ acts_by number effects
  pub noted_is : noted (noted_after call (length x.history) t.before) (length (x.history ++ acts_by number t.before)) t.last ≡ noted_after call (length x.history) effects
  pub none_is : t.last ≡ None → t.before ≡ effects

module _ {S : Type 0} (number : ℕ) (call : Call) (answer : Answer) (x y : Moment S) (t : CallAnswers number call answer x y) where
  abbrev count : ℕ
  count = length (x.history ++ acts_by number t.before)

  abbrev running : Call
  running = noted_after call (length x.history) t.before

  many_told : count ≡ length t.before + length x.history
  many_told = many_after x.history number t.before

  pub whole_told : WholeTold number call answer x y t
  whole_told = record {
    effects = t.before ++ listed t.last;
    own = own_append call (length x.history) t.before (listed t.last) count many_told t.own (own_listed running count t.last t.own_last);
    history_is = t.history_is ∙ ap (λ (l : List Action). (x.history ++ acts_by number t.before) ++ l) (sym (acts_listed number t.last))
        ∙ append_assoc x.history (acts_by number t.before) (acts_by number (listed t.last)) ∙ ap (λ (l : List Action). x.history ++ l) (sym (acts_append number t.before (listed t.last)));
    noted_is = sym (noted_append call (length x.history) t.before (listed t.last) count many_told ∙ noted_listed running count t.last);
    none_is = λ none. sym (ap (λ (o : Option Effect). t.before ++ listed o) none ∙ append-nil t.before);
  }

-- a call that is told to go on has gone on
told_gone : {S : Type 0} (number : ℕ) (call : Call) (x y : Moment S) → StepMeans number call Going x y → (effects : List Effect) × HasContinued number call effects x y
told_gone number call x y (inr held) = absurd (let e = held.refused in cc)
told_gone number call x y (inl t) =
    let w = whole_told number call Going x y t in (
      w.effects,
      record {
        own = w.own;
        history_is = w.history_is;
        calls_is = t.calls_is ∙ ap (λ (c : Call). slice_set x.calls number c) (t.told ∙ w.noted_is);
      },
    )

-- after what tells nothing, a step tells what it tells
pub silent_then : {S : Type 0} (session : ℕ) (answer : Answer) (x y z : Moment S) → IsSameHistory x y → SessionStepMeans session answer y z → SessionStepMeans session answer x z
silent_then session answer x y z s tells number call is =
    let gone = gone_nowhere session number call x y is s in
    gone_then number call [] x y z gone answer (tells number call (gone_runs number call [] x y z gone session is))

-- the session's running call, if it has one, goes on and on
pub far_nowhere : {S : Type 0} (session : ℕ) (x : Moment S) → HasRunSoFar session x x
far_nowhere session x number call is = ([], gone_nowhere session number call x x is (record { history_is = refl; calls_is = refl }))

pub far_then : {S : Type 0} (session : ℕ) (x y z : Moment S) → HasRunSoFar session x y → SessionStepMeans session Going y z → HasRunSoFar session x z
far_then session x y z far tells number call is =
    let f = far number call is in
    let t = told_gone number (noted_after call (length x.history) f.0) y z (tells number (noted_after call (length x.history) f.0) (gone_runs number call f.0 x y z f.1 session is)) in
    (f.0 ++ t.0, gone_further number call f.0 x y z f.1 t.0 t.1)

pub far_last : {S : Type 0} (session : ℕ) (answer : Answer) (x y z : Moment S) → HasRunSoFar session x y → SessionStepMeans session answer y z → SessionStepMeans session answer x z
far_last session answer x y z far tells number call is =
    let f = far number call is in
    gone_then number call f.0 x y z f.1 answer (tells number (noted_after call (length x.history) f.0) (gone_runs number call f.0 x y z f.1 session is))
