-- A scan gives the sorted matches, one after the other.
use Rattle.std.specs.Prelude.{◌≡◌, ◌≤◌, ℕ, zero, suc, Bool, true, Option, Some, None, Result, Ok, Err, List, [], ◌∷◌, ◌++◌, length, slice_get}
use Rattle.std.proofs.Common.{refl, sym, ap, subst, ◌∙◌, arith}
use Rattle.std.proofs.lemmas.List.{append_assoc, append-nil}
use Rattle.index_model.specs.Calls.{IsScanAnswer, IsScanAnswerSoFar, GivesOnly, GivesAll, IsUpToLast}
use Rattle.index_model.specs.Actions.{is_there_after, ThereAtSomeMoment, ThereThroughout, contents_after}
use Rattle.index_model.specs.Order.{is_among}
use Rattle.index_model.specs.Range.{matches}
use Rattle.index_model.proofs.Histories.{there_now}
use Rattle.page_action.specs.States.{Continues}
use Rattle.page_action.specs.declared.page_store.PageStore.{Ghosts}
use Rattle.schedule.proofs.Keeping.{Laws}
use Rattle.schedule.specs.TheoremMoments.{IsRunningCall}
use Rattle.whole_calls.specs.Giving.{GivenMeans, SessionGivenMeans, given_outcome}
use Rattle.whole_calls.specs.Meanings.{HasBegun}
use Rattle.session_calls.specs.Sessions.{given_one}
use Rattle.session_calls.specs.TheoremCalls.{begun_call}
use Rattle.access_method.proofs.Imports.{Action, Answer, AskScan, Begun, Call, CallRuns, Entry, Fault, Index, IndexFits, IndexKeeps, Moment, Range, Running, ToScan, get_append_new, get_set_same}
use Rattle.access_method.proofs.Imports.{has_entry, slots_within, snapshot_of, slice_get_within}
use Rattle.access_method.specs.Scans.{AreTheMatches, BeginTheMatches, NextIs, NextsAre, Rests, ScanBegins}

-- a run of events that appends no action leaves the index resting
abbrev pub rests_by : {S : Type 0} (g : Ghosts S) (session : ℕ) (Tells : Moment S → Moment S → Type 0) (came : Option Answer) (old new : Index S)
    (start : Entry → Bool) (history : List Action) (calls : List Call) → IndexFits g old start history calls
    → (run : CallRuns g session Tells came (slots_within old) (slots_within new) start history calls) → run.then_history ≡ history → Rests g old new start history calls
rests_by g session Tells came old new start history calls fits run same = record {
  then_calls = run.then_calls;
  fits = subst (λ (h : List Action). IndexFits g new start h run.then_calls) same run.ran.fits;
  keeps = λ kept. subst (λ (h : List Action). IndexKeeps g new start h run.then_calls) same (run.ran.crash kept).keeps;
  contents = λ e. run.ran.fits.explains.contents e ∙ ap (λ (h : List Action). contents_after start h e) same ∙ sym (fits.explains.contents e);
}

-- ... and twice so
abbrev pub rests_twice : {S : Type 0} (g : Ghosts S) (old mid new : Index S) (start : Entry → Bool) (history : List Action) (calls : List Call)
    → (a : Rests g old mid start history calls) → Rests g mid new start history a.then_calls → Rests g old new start history calls
rests_twice g old mid new start history calls a b = record {
  then_calls = b.then_calls;
  fits = b.fits;
  keeps = λ kept. b.keeps (a.keeps kept);
  contents = λ e. b.contents e ∙ a.contents e;
}

-- an index rests if nothing is done
abbrev pub rests_still : {S : Type 0} (g : Ghosts S) (now : Index S) (start : Entry → Bool) (history : List Action) (calls : List Call)
    → IndexFits g now start history calls → Rests g now now start history calls
rests_still g now start history calls fits = record { then_calls = calls; fits = fits; keeps = λ kept. kept; contents = λ e. refl }

-- whatever a request for the next entry answers, no action is appended
given_history : {S : Type 0} (result : Result (Option Entry) Fault) (number : ℕ) (call : Call) (old new : Moment S) → GivenMeans number call result old new → new.history ≡ old.history
given_history (Ok (Some entry)) number call old new means = means.history_is
given_history (Ok None) number call old new means = means.history_is
given_history (Err fault) number call old new means = means

-- what an index is between the calls for entries: at rest since before the scan's beginning, and its call has
-- given these
record ScanHasGiven {S : Type 0} (g : Ghosts S) (session : ℕ) (range : Range) (first : Index S) (start : Entry → Bool) (history : List Action) (calls : List Call)
    (given : List Entry) (now : Index S) : Type 0 where
  rests : Rests g first now start history calls
  number : ℕ
  call : Call
  is : IsRunningCall rests.then_calls session number call
  ask : call.ask ≡ AskScan range
  began : call.began ≡ length history
  given_is : call.given ≡ given
  right : IsScanAnswerSoFar start history range (length history) (length history) given

-- nothing was given: that is right
nothing_is_right : (start : Entry → Bool) (history : List Action) (range : Range) (n : ℕ) → IsScanAnswerSoFar start history range n n []
nothing_is_right start history range n = record {
  only = record { ascending = tt; matched = λ e among. absurd cc; was_there = λ e among. absurd cc };
  all = λ e reached. absurd reached;
}

module _ {S : Type 0} (g : Ghosts S) (laws : Laws g)
  where
    honest_before : (old new : Index S) → Continues g.follows old.store new.store → (g.backing new.store).honest ≡ true → (g.backing old.store).honest ≡ true
    honest_before old new steps honest = (laws.follows_later old.store new.store (steps old.store (laws.follows_same old.store))).honest honest

    honest_first : (session : ℕ) (given : List Entry) (old new : Index S) → NextsAre g session given old new → (g.backing new.store).honest ≡ true → (g.backing old.store).honest ≡ true
    honest_first session [] old new same honest = subst (λ (x : Index S). (g.backing x.store).honest ≡ true) same honest
    honest_first session (e ∷ es) old new (mid, next, rest) honest = honest_before old mid next.steps (honest_first session es mid new rest honest)

    stands_begun : (session : ℕ) (range : Range) (old new : Index S) (start : Entry → Bool) (history : List Action) (calls : List Call) → ScanBegins g session range old new
        → (g.backing new.store).honest ≡ true → IndexFits g old start history calls → ScanHasGiven g session range old start history calls [] new
    stands_begun session range old new start history calls begins honest fits =
        let run = begins.runs honest start history calls fits in
        let call = begun_call session (AskScan range) (length history) in
        record {
          rests = rests_by g session (HasBegun session (ToScan range)) (Some Begun) old new start history calls fits run run.tells.history_is;
          number = length calls;
          call = call;
          is = record { found = ap (λ (cs : List Call). slice_get cs (length calls)) run.tells.calls_is ∙ get_append_new calls call; session_is = refl; running = refl };
          ask = refl;
          began = refl;
          given_is = refl;
          right = nothing_is_right start history range (length history);
        }

    module _ (session : ℕ) (range : Range) (first : Index S) (start : Entry → Bool) (history : List Action) (calls : List Call)
      where
        -- one more was asked for, whatever it answered
        rests_next : (given : List Entry) (result : Result (Option Entry) Fault) (old new : Index S)
            → ScanHasGiven g session range first start history calls given old → NextIs g session result old new → (g.backing new.store).honest ≡ true
            → Rests g first new start history calls
        rests_next given result old new stands next honest =
            let run = next.runs honest start history stands.rests.then_calls stands.rests.fits in
            let means = run.tells stands.number stands.call range stands.is stands.ask in
            rests_twice g first old new start history calls stands.rests
            (rests_by g session (SessionGivenMeans session result) (given_outcome result) old new start history stands.rests.then_calls stands.rests.fits run
            (given_history result stands.number stands.call (snapshot_of (slots_within old) history stands.rests.then_calls) (snapshot_of (slots_within new) run.then_history run.then_calls) means))

        stands_next : (given : List Entry) (e : Entry) (old new : Index S)
            → ScanHasGiven g session range first start history calls given old → NextIs g session (Ok (Some e)) old new → (g.backing new.store).honest ≡ true
            → ScanHasGiven g session range first start history calls (given ++ e ∷ []) new
        stands_next given e old new stands next honest =
            let run = next.runs honest start history stands.rests.then_calls stands.rests.fits in
            let means = run.tells stands.number stands.call range stands.is stands.ask in
            record {
              rests = rests_twice g first old new start history calls stands.rests
                  (rests_by g session (SessionGivenMeans session (Ok (Some e))) (given_outcome (Ok (Some e))) old new start history stands.rests.then_calls stands.rests.fits run means.history_is);
              number = stands.number;
              call = given_one stands.call e;
              is = record {
                found = ap (λ (cs : List Call). slice_get cs stands.number) means.calls_is
                    ∙ get_set_same stands.rests.then_calls stands.number (given_one stands.call e) (slice_get_within stands.rests.then_calls stands.number stands.call stands.is.found);
                session_is = stands.is.session_is;
                running = stands.is.running;
              };
              ask = stands.ask;
              began = stands.began;
              given_is = ap (λ (es : List Entry). es ++ e ∷ []) stands.given_is;
              right = subst (λ (n : ℕ). IsScanAnswerSoFar start history range n (length history) (given ++ e ∷ [])) stands.began
                  (subst (λ (es : List Entry). IsScanAnswerSoFar start history range stands.call.began (length history) (es ++ e ∷ [])) stands.given_is
                  (next.answers honest start history stands.rests.then_calls stands.rests.fits stands.number stands.call range stands.is stands.ask));
            }

        -- after all of these
        stands_after : (before given : List Entry) (old new : Index S)
            → ScanHasGiven g session range first start history calls before old → NextsAre g session given old new → (g.backing new.store).honest ≡ true
            → ScanHasGiven g session range first start history calls (before ++ given) new
        stands_after before [] old new stands same honest =
            subst (λ (x : Index S). ScanHasGiven g session range first start history calls (before ++ []) x) (sym same)
            (subst (λ (es : List Entry). ScanHasGiven g session range first start history calls es old) (sym (append-nil before)) stands)
        stands_after before (e ∷ es) old new stands (mid, next, rest) honest =
            subst (λ (all : List Entry). ScanHasGiven g session range first start history calls all new) (append_assoc before (e ∷ []) es)
            (stands_after (before ++ e ∷ []) es mid new
            (stands_next before e old mid stands next (honest_first session es mid new rest honest)) rest honest)

    -- what is so at one moment alone
    module _ (start : Entry → Bool) (history : List Action)
      where
        there_then : (e : Entry) → ThereAtSomeMoment start history (length history) (length history) e → contents_after start history e ≡ true
        there_then e w =
            let since : length history ≤ w.moment = w.since in
            let until : w.moment ≤ length history = w.until in
            let now : w.moment ≡ length history = omega arith in
            sym (there_now start history e) ∙ sym (ap (λ (k : ℕ). is_there_after start history k e) now) ∙ w.there

        throughout_then : (e : Entry) → contents_after start history e ≡ true → ThereThroughout start history (length history) (length history) e
        throughout_then e there k since until =
            let now : k ≡ length history = omega arith in
            ap (λ (n : ℕ). is_there_after start history n e) now ∙ there_now start history e ∙ there

    -- so what a right answer has at one moment alone matches what is there
    only_right : (first : Index S) (range : Range) (start : Entry → Bool) (history : List Action) (calls : List Call) (given : List Entry) → IndexFits g first start history calls
        → GivesOnly start history range (length history) (length history) given → (e : Entry) → is_among given e ≡ true → (has_entry g first.store e ≡ true) × (matches range e ≡ true)
    only_right first range start history calls given fits only e among =
        (fits.explains.contents e ∙ there_then start history e (only.was_there e among), only.matched e among)

    -- after a beginning, and all of these
    stands : (session : ℕ) (range : Range) (given : List Entry) (first begun after : Index S) (start : Entry → Bool) (history : List Action) (calls : List Call)
        → ScanBegins g session range first begun → NextsAre g session given begun after → (g.backing after.store).honest ≡ true → IndexFits g first start history calls
        → ScanHasGiven g session range first start history calls given after
    stands session range given first begun after start history calls begins nexts honest fits =
        stands_after session range first start history calls [] given begun after
        (stands_begun session range first begun start history calls begins (honest_first session given begun after nexts honest) fits) nexts honest

    pub scan_rests : (session : ℕ) (range : Range) (given : List Entry) (first begun after : Index S) (start : Entry → Bool) (history : List Action) (calls : List Call)
        → ScanBegins g session range first begun → NextsAre g session given begun after → (g.backing after.store).honest ≡ true → IndexFits g first start history calls
        → Rests g first after start history calls
    scan_rests session range given first begun after start history calls begins nexts honest fits =
        (stands session range given first begun after start history calls begins nexts honest fits).rests

    pub scan_rests_then : (session : ℕ) (range : Range) (given : List Entry) (result : Result (Option Entry) Fault) (first begun last after : Index S) (start : Entry → Bool)
        (history : List Action) (calls : List Call) → ScanBegins g session range first begun → NextsAre g session given begun last → NextIs g session result last after
        → (g.backing after.store).honest ≡ true → IndexFits g first start history calls → Rests g first after start history calls
    scan_rests_then session range given result first begun last after start history calls begins nexts next honest fits =
        rests_next session range first start history calls given result last after
        (stands session range given first begun last start history calls begins nexts (honest_before last after next.steps honest) fits) next honest

    pub begin_the_matches : (session : ℕ) (range : Range) (given : List Entry) (first begun after : Index S) (start : Entry → Bool) (history : List Action) (calls : List Call)
        → ScanBegins g session range first begun → NextsAre g session given begun after → (g.backing after.store).honest ≡ true → IndexFits g first start history calls
        → BeginTheMatches (has_entry g first.store) range given
    begin_the_matches session range given first begun after start history calls begins nexts honest fits =
        let right = (stands session range given first begun after start history calls begins nexts honest fits).right in
        record {
          ascending = right.only.ascending;
          right = only_right first range start history calls given fits right.only;
          first = λ e reached there matched. right.all e reached matched (throughout_then start history e (sym (fits.explains.contents e) ∙ there));
        }

    pub are_the_matches : (session : ℕ) (range : Range) (given : List Entry) (first begun last after : Index S) (start : Entry → Bool) (history : List Action) (calls : List Call)
        → ScanBegins g session range first begun → NextsAre g session given begun last → NextIs g session (Ok None) last after
        → (g.backing after.store).honest ≡ true → IndexFits g first start history calls → AreTheMatches (has_entry g first.store) range given
    are_the_matches session range given first begun last after start history calls begins nexts next honest fits =
        let all = stands session range given first begun last start history calls begins nexts (honest_before last after next.steps honest) fits in
        let right = subst (λ (n : ℕ). IsScanAnswer start history range n (length history) given) all.began
        (subst (λ (es : List Entry). IsScanAnswer start history range all.call.began (length history) es) all.given_is
        (next.answers honest start history all.rests.then_calls all.rests.fits all.number all.call range all.is all.ask)) in
        record {
          ascending = right.only.ascending;
          right = only_right first range start history calls given fits right.only;
          all = λ e there matched. right.all e tt matched (throughout_then start history e (sym (fits.explains.contents e) ∙ there));
        }
