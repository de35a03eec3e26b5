-- What is told of a call leaves it the same call, with its Add noted, whose interval ends now.
use Rattle.std.proofs.Common.{◌≡◌, ℕ, suc, ◌+◌, Bool, true, false, if◌then◌else◌, Option, Some, None, List, ◌∷◌, [], ◌++◌, length, refl, sym, ap, subst, ◌∙◌, arith}
use Rattle.session_calls.proofs.Imports.{Effect, Action, Ending, Running, EndsAdded, EndsFinished, Vacuumed, GivenUp, Failed, Call, end_of, Entry, Fault, ends_call, act_count, add_after, noted}
use Rattle.session_calls.proofs.Imports.{ended, OnlyBecomes, AnswerMeans, Answer, Begun, Going, Added, Ready, Done, Finished, Gave, Ended, Forced, Flushed, Checkpointed, Refused}

-- the same call after an event of this effect, over this history, which has the event's action
pub record IsSameCall (history : List Action) (count : ℕ) (effect : Option Effect) (call after : Call) : Type 0 where
  pub session : after.session ≡ call.session
  pub ask : after.ask ≡ call.ask
  pub began : after.began ≡ call.began
  pub added : after.added ≡ add_after call.added (suc count) effect
  pub until : end_of history after.ending after.until ≡ length history

module _ (history : List Action) (count : ℕ) (effect : Option Effect) (call : Call) (running : call.ending ≡ Running) (many : length history ≡ act_count effect + count) where
  -- a call that runs on, whatever it has given
  runs_on : (given : List Entry) (after : Call) → after ≡ record (noted call count effect) { given = given } → IsSameCall history count effect call after
  runs_on given after is = subst (λ (c : Call). IsSameCall history count effect call c) (sym is) (record {
    session = refl;
    ask = refl;
    began = refl;
    added = refl;
    until = subst (λ (x : Ending). end_of history x call.until ≡ length history) (sym running) refl;
  })

  -- one that ends
  ends : (x : Ending) (after : Call) → after ≡ ended (noted call count effect) x (act_count effect + count) → end_of history x (act_count effect + count) ≡ length history
      → IsSameCall history count effect call after
  ends x after is until = subst (λ (c : Call). IsSameCall history count effect call c) (sym is) (record { session = refl; ask = refl; began = refl; added = refl; until = until })

-- with no effect, nothing is noted
none_noted : (call : Call) (count : ℕ) (effect : Option Effect) → effect ≡ None → noted call count effect ≡ call
none_noted call count effect none = subst (λ (x : Option Effect). noted call count x ≡ call) (sym none) refl

none_counted : (count : ℕ) (effect : Option Effect) → effect ≡ None → act_count effect + count ≡ count
none_counted count effect none = subst (λ (x : Option Effect). act_count x + count ≡ count) (sym none) (omega arith)

module _ (history : List Action) (count : ℕ) (effect : Option Effect) (call after : Call) (running : call.ending ≡ Running) (many : length history ≡ act_count effect + count) where
  only_on : (given : List Entry) → OnlyBecomes effect (record call { given = given }) after → IsSameCall history count effect call after
  only_on given h = runs_on history count effect call running many given after
      (h.after_is ∙ sym (ap (λ (c : Call). let d : Call = record c { given = given } in d) (none_noted call count effect h.none)))

  only_ends : (x : Ending) → effect ≡ None → after ≡ ended call x count → ((n : ℕ) → end_of history x n ≡ n) → IsSameCall history count effect call after
  only_ends x none is until = ends history count effect call running many x after
      (is ∙ sym (ap (λ (c : Call). ended c x (act_count effect + count)) (none_noted call count effect none) ∙ ap (λ (n : ℕ). ended call x n) (none_counted count effect none)))
      (until (act_count effect + count) ∙ sym many)

  refused : (fault : Fault) (b : Bool) → effect ≡ None → after ≡ (if b then ended call (Failed fault) count else call) → IsSameCall history count effect call after
  refused fault true none is = only_ends (Failed fault) none is (λ n. refl)
  refused fault false none is = only_on call.given (record { none = none; after_is = is })

  pub told_same : (answer : Answer) → AnswerMeans answer count effect call after → IsSameCall history count effect call after
  told_same Begun h = absurd h
  told_same Going h = runs_on history count effect call running many call.given after h
  told_same (Added action unfinished) h = ends history count effect call running many (EndsAdded action unfinished) after h.after_is (sym many)
  told_same (Ready ready) h = only_on call.given h
  told_same Done h = only_ends EndsFinished h.none h.after_is (λ n. refl)
  told_same (Finished stats) h = only_ends (Vacuumed stats) h.none h.after_is (λ n. refl)
  told_same (Gave None) h = only_on call.given h
  told_same (Gave (Some e)) h = only_on (call.given ++ e ∷ []) h
  told_same Ended h = only_ends GivenUp h.none h.after_is (λ n. refl)
  told_same (Forced n) h = absurd h
  told_same (Flushed block) h = absurd h
  told_same (Checkpointed n) h = absurd h
  told_same (Refused fault) h = refused fault (ends_call fault) h.0 h.1
