-- What an index is after some calls, one after the other.
use Rattle.std.proofs.Common.{◌≡◌, ℕ, Bool, true, ◌||◌, Option, Result, Ok, Err, List, sym, ap, subst, inl, inr, ◌∙◌, IfErr}
use Rattle.std.specs.Result.{IsErrAnd}
use Rattle.std.proofs.lemmas.Bool.{or_cases}
use Rattle.index_model.proofs.Ascending.{same_entry-self}
use Rattle.index_model.specs.Actions.{Action}
use Rattle.index_model.specs.Calls.{Call}
use Rattle.index_model.specs.Order.{same_entry}
use Rattle.index_model.specs.declared.entry.Entry.{Entry}
use Rattle.index_model.specs.declared.fault.Fault.{Fault}
use Rattle.page_action.specs.Causes.{with_row}
use Rattle.page_action.specs.States.{Continues}
use Rattle.page_action.specs.declared.page_store.PageStore.{Ghosts}
use Rattle.schedule.proofs.Keeping.{Laws}
use Rattle.schedule.specs.TheoremMoments.{Moment}
use Rattle.session_calls.specs.declared.answer.Answer.{Answer}
use Rattle.whole_calls.specs.Going.{CallRuns}
use Rattle.whole_calls.specs.declared.inserted.Inserted.{Inserted}
use Rattle.access_method.specs.Indexes.{ForEachIndexHistory, IndexInserts, InsertsOrKeeps, SameTokens, has_entry, slots_within}
use Rattle.access_method.specs.declared.index.Index.{Index}
use Rattle.index_copy.proofs.Entries.{or_left, or_right, or_turned}
use Rattle.index_copy.specs.Copying.{Gains, FitsOn, IsPutRefusedFor, WasRefused}

-- what holds of a fault holds of a result that is refused with it
pub err_as : {T : Type 0} (r : Result T Fault) (fault : Fault) (P : Fault → Type 0) → IsErrAnd r (λ e. e ≡ fault) → P fault → IfErr r P
err_as (Ok x) fault P is p = tt
err_as (Err e) fault P is p = subst P (sym is) p

-- one store continues another, and that one a third
pub steps_twice : {S : Type 0} (follows : S → S → Type 0) (old mid new : S) → Continues follows old mid → Continues follows mid new → Continues follows old new
steps_twice follows old mid new a b = λ first h. b first (a first h)

pub tokens_twice : {S : Type 0} (old mid new : Index S) → SameTokens old mid → SameTokens mid new → SameTokens old new
tokens_twice old mid new a b = record { seats_is = b.seats_is ∙ a.seats_is; given_is = b.given_is ∙ a.given_is }

-- it goes on if nothing is done
pub goes_still : {S : Type 0} (g : Ghosts S) (now : Index S) → ForEachIndexHistory g now now (FitsOn g now now)
goes_still g now honest start history calls fits = record { then_history = history; then_calls = calls; fits = fits; keeps = λ kept. kept }

-- a run of events goes on
goes_run : {S : Type 0} (g : Ghosts S) (session : ℕ) (Tells : Moment S → Moment S → Type 0) (came : Option Answer) (old new : Index S) (start : Entry → Bool) (history : List Action) (calls : List Call)
    → CallRuns g session Tells came (slots_within old) (slots_within new) start history calls → FitsOn g old new start history calls
goes_run g session Tells came old new start history calls run = record {
  then_history = run.then_history;
  then_calls = run.then_calls;
  fits = run.ran.fits;
  keeps = λ kept. (run.ran.crash kept).keeps;
}

-- ... and so does an insert
pub goes_inserted : {S : Type 0} (g : Ghosts S) (entry : Entry) (result : Result Inserted Fault) (old new : Index S)
    → IndexInserts g 63 entry result old new → ForEachIndexHistory g old new (FitsOn g old new)
goes_inserted g entry (Ok inserted) old new (inl goes) honest start history calls fits = goes_run g 63 _ _ old new start history calls (goes honest start history calls fits)
goes_inserted g entry (Ok inserted) old new (inr short) honest start history calls fits = goes_run g 63 _ _ old new start history calls (short.goes honest start history calls fits)
goes_inserted g entry (Err fault) old new goes honest start history calls fits = goes_run g 63 _ _ old new start history calls (goes honest start history calls fits)

module _ {S : Type 0} (g : Ghosts S) (laws : Laws g)
  where
    pub honest_before : (old new : Index S) → Continues g.follows old.store new.store → (g.backing new.store).honest ≡ true → (g.backing old.store).honest ≡ true
    honest_before old new steps honest = (laws.follows_later old.store new.store (steps old.store (laws.follows_same old.store))).honest honest

    pub goes_twice : (old mid new : Index S) → Continues g.follows mid.store new.store → ForEachIndexHistory g old mid (FitsOn g old mid)
        → ForEachIndexHistory g mid new (FitsOn g mid new) → ForEachIndexHistory g old new (FitsOn g old new)
    goes_twice old mid new steps a b honest start history calls fits =
        let first = a (honest_before mid new steps honest) start history calls fits in
        let then = b honest start first.then_history first.then_calls first.fits in
        record {
          then_history = then.then_history;
          then_calls = then.then_calls;
          fits = then.fits;
          keeps = λ kept. then.keeps (first.keeps kept);
        }

    -- an insert that was refused then, was refused later than before
    pub refused_later : (old mid new : Index S) (fault : Fault) → Continues g.follows old.store mid.store → ForEachIndexHistory g old mid (FitsOn g old mid)
        → WasRefused g fault mid new → WasRefused g fault old new
    refused_later old mid new fault steps goes was = record {
      entry = was.entry;
      last = was.last;
      steps = steps_twice g.follows old.store mid.store was.last.store steps was.steps;
      goes = goes_twice old mid was.last was.steps goes was.goes;
      cause = was.cause;
    }

    module _ (old mid new : Index S) (steps : Continues g.follows mid.store new.store) (goes : ForEachIndexHistory g old mid (FitsOn g old mid)) (came more all : Entry → Bool)
        (gained : ForEachIndexHistory g old mid (λ start history calls. Gains g came old.store mid.store))
      where
        -- what has come then and before
        pub gains_twice : ForEachIndexHistory g mid new (λ start history calls. Gains g more mid.store new.store)
            → ((e : Entry) → all e ≡ (came e || more e)) → ForEachIndexHistory g old new (λ start history calls. Gains g all old.store new.store)
        gains_twice gains joined honest start history calls fits e =
            let then = honest_before mid new steps honest in
            let first = goes then start history calls fits in
            gains honest start first.then_history first.then_calls first.fits e
            ∙ ap (λ (b : Bool). more e || b) (gained then start history calls fits e)
            ∙ or_turned (came e) (more e) (has_entry g old.store e)
            ∙ ap (λ (b : Bool). b || has_entry g old.store e) (sym (joined e))

        -- what was refused then, was refused for what has come before, too
        pub refused_then : (fault : Fault) → ForEachIndexHistory g mid new (λ start history calls. IsPutRefusedFor g more mid.store fault)
            → ((e : Entry) → came e ≡ true → all e ≡ true) → ((e : Entry) → more e ≡ true → all e ≡ true)
            → ForEachIndexHistory g old new (λ start history calls. IsPutRefusedFor g all old.store fault)
        refused_then fault refused came_is more_is honest start history calls fits row is =
            let then = honest_before mid new steps honest in
            let first = goes then start history calls fits in
            let twice = refused honest start first.then_history first.then_calls first.fits row is in
            let other : Entry = with_row twice.entry row in
            let there : Bool = has_entry g old.store other in
            record {
              entry = twice.entry;
              is_one = more_is twice.entry twice.is_one;
              apart = twice.apart;
              taken = elim (or_cases (more other) (has_entry g mid.store other) twice.taken) [
                | inl comes ↦ or_left (all other) there (more_is other comes)
                | inr was ↦ elim (or_cases (came other) there (sym (gained then start history calls fits other) ∙ was)) [
                  | inl came_then ↦ or_left (all other) there (came_is other came_then)
                  | inr still ↦ or_right (all other) there still
                ]
              ];
            }

-- an entry that is inserted comes
pub gains_one : {S : Type 0} (g : Ghosts S) (entry : Entry) (inserted : Inserted) (result : Result Inserted Fault) (old new : Index S) → result ≡ Ok inserted
    → ForEachIndexHistory g old new (λ start history calls. InsertsOrKeeps g entry result old.store new.store)
    → ForEachIndexHistory g old new (λ start history calls. Gains g (same_entry entry) old.store new.store)
gains_one g entry inserted result old new is inserts honest start history calls fits e =
    let told : InsertsOrKeeps g entry (Ok inserted) old.store new.store = rw is at (inserts honest start history calls fits) in
    told.contents e

-- ... and one that is refused is refused for its own key
pub refused_one : {S : Type 0} (g : Ghosts S) (entry : Entry) (fault : Fault) (result : Result Inserted Fault) (old new : Index S) → result ≡ Err fault
    → ForEachIndexHistory g old new (λ start history calls. InsertsOrKeeps g entry result old.store new.store)
    → ForEachIndexHistory g old new (λ start history calls. IsPutRefusedFor g (same_entry entry) old.store fault)
refused_one g entry fault result old new is inserts honest start history calls fits row key =
    let told : InsertsOrKeeps g entry (Err fault) old.store new.store = rw is at (inserts honest start history calls fits) in
    let was = told.key_was_there row key in
    let other : Entry = with_row entry row in
    record {
      entry = entry;
      is_one = same_entry-self entry;
      apart = was.0;
      taken = or_right (same_entry entry other) (has_entry g old.store other) was.1;
    }

-- what is refused for some entries, is refused for more
pub refused_more : {T : Type 0} (h : Ghosts T) (few all : Entry → Bool) (old : T) (fault : Fault) → ((e : Entry) → few e ≡ true → all e ≡ true) → IsPutRefusedFor h few old fault → IsPutRefusedFor h all old fault
refused_more h few all old fault within refused row is =
    let twice = refused row is in
    let other : Entry = with_row twice.entry row in
    record {
      entry = twice.entry;
      is_one = within twice.entry twice.is_one;
      apart = twice.apart;
      taken = elim (or_cases (few other) (has_entry h old other) twice.taken) [
        | inl comes ↦ or_left (all other) (has_entry h old other) (within other comes)
        | inr was ↦ or_right (all other) (has_entry h old other) was
      ];
    }
