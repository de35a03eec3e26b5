-- What the answers of an insert and of a scan say, read off the run.
use Rattle.schedule.specs.Making.{EventDoes}
use Rattle.schedule.proofs.Keeping.{Laws}
use Rattle.access_method.specs.Counted.{counted, upkeep_outcome}
use Rattle.std.proofs.Common.{◌≡◌, ◌||◌, ℕ, zero, suc, ◌+◌, ◌-◌, Bool, true, false, Option, Some, None, Result, Ok, Err, List, [], ◌∷◌, ◌++◌, length, take, slice_get, refl, sym, ap, subst, inl, inr, ◌∙◌, arith, length-append, append_assoc}
use Rattle.std.proofs.Math.Seq.{take-append-add}
use Rattle.index_model.proofs.Ascending.{same_entry-self}
use Rattle.whole_calls.specs.Giving.{Becomes, SessionGivenMeans, given_outcome}
use Rattle.access_method.proofs.Refusals.{format_stays}
use Rattle.access_method.proofs.Imports.{IfOk, IfErr, OnOk, unwrap_or, HasCause, causes_of_forced, with_row, Answer, Begun, Going, Added, Ready, Done, Finished, Gave, Ended, Forced, Flushed}
use Rattle.access_method.proofs.Imports.{Checkpointed, Refused, Kind, MaintainsStore, Upkeep, Forces, Flushes, Checkpoints, kind_of, kept_answer, IsOfSession, AnswersUpkeep, StoreIsKept, or_left, or_right}
use Rattle.access_method.proofs.Imports.{ForEachHistory, Runs, Fits, Event, IsSameHistory, CallIsRun, goes_by, keeps_silent, take_at, length-replicate, Add, ThereAtSomeMoment, Action, KeysDiffer}
use Rattle.access_method.proofs.Imports.{later_or, last_said, contents_after, Failed, Ask, AskInsert, AskScan, Call, Ending, Running, EndsFinished, Meets, AnswersRight, InsertMayFail, slice_get_within}
use Rattle.access_method.proofs.Imports.{IsScanAnswer, IsScanAnswerSoFar, end_of, same_entry, Row, Entry, Fault, Exists, KeyExists, Format, Range, contents_after-append, contents_after-add, get_append_new, get_set_same}
use Rattle.access_method.proofs.Imports.{Ghosts, begun_call, given_one, ended, StoreAndSlots, snapshot_of, same_some, InsertMeans, inserted_call, shapes}
use Rattle.access_method.proofs.Imports.{InsertIsRun, Moment, CallRuns, has_entry, InsertsOrKeeps, AnswersScan, Inserted}

-- changes of the shape say nothing of an entry, nor do the first of them
shapes_say : (n k m : ℕ) (e : Entry) → last_said (take m (shapes n k)) e ≡ None
shapes_say n zero zero e = refl
shapes_say n zero (suc m) e = refl
shapes_say n (suc k) zero e = refl
shapes_say n (suc k) (suc m) e = ap (λ (o : Option Bool). later_or o None) (shapes_say n k m e)

all_shapes_say : (n k : ℕ) (e : Entry) → last_said (shapes n k) e ≡ None
all_shapes_say n zero e = refl
all_shapes_say n (suc k) e = ap (λ (o : Option Bool). later_or o None) (all_shapes_say n k e)

-- what says nothing of an entry leaves the contents
after_nothing : (start : Entry → Bool) (l m : List Action) (e : Entry) → last_said m e ≡ None → contents_after start (l ++ m) e ≡ contents_after start l e
after_nothing start l m e none = contents_after-append start l m e ∙ ap (λ (o : Option Bool). unwrap_or o (contents_after start l e)) none

-- if no two entries share a key, no entry of the key of one that is inserted was there
key_was_free : (was is : Entry → Bool) (entry : Entry) → ((e : Entry) → is e ≡ (same_entry entry e || was e)) → was entry ≡ false → KeysDiffer is → (row : Row) → was (with_row entry row) ≡ false
key_was_free was is entry grown absent differ row = by (was (with_row entry row)) refl
  where
    by : (b : Bool) → was (with_row entry row) ≡ b → b ≡ false
    by false at = refl
    by true at =
        let here : is entry ≡ true = grown entry ∙ or_left (same_entry entry entry) (was entry) (same_entry-self entry) in
        let there : is (with_row entry row) ≡ true = grown (with_row entry row) ∙ or_right (same_entry entry (with_row entry row)) (was (with_row entry row)) at in
        let same : entry ≡ with_row entry row = differ entry (with_row entry row) here there refl in
        let both : false ≡ true = sym absent ∙ ap was same ∙ at in
        absurd cc

-- an insert's answer in words of the contents
told_or_kept : {S : Type 0} (g : Ghosts S) (entry : Entry) (result : Result Inserted Fault) (came : Option Answer) (old new : StoreAndSlots S)
    (start : Entry → Bool) (history : List Action) (calls : List Call)
    → Fits g start (snapshot_of old history calls) → CallRuns g 63 (InsertMeans 63 entry result) came old new start history calls → InsertsOrKeeps g entry result old.store new.store
told_or_kept g entry (Ok inserted) came old new start history calls fits r =
    let t = r.tells in
    let call : Call = inserted_call 63 entry (length history) inserted.action t.ending (length r.then_history) in
    let found : slice_get r.then_calls (length calls) ≡ Some call = ap (λ (l : List Call). slice_get l (length calls)) t.calls_is ∙ get_append_new calls call in
    let meets : Meets start r.then_history (length calls) call = r.ran.fits.explains.meets (length calls) call found in
    let added = meets.right.add in
    let front : List Action = history ++ shapes (length calls) t.before in
    let later_acts : List Action = shapes (length calls) t.shapes_after in
    let act : Action = record { by = length calls; effect = Add entry } in
    let many : length front ≡ t.before + length history = (
    let a = length-append history (shapes (length calls) t.before) in
    let b : length (shapes (length calls) t.before) ≡ t.before = length-replicate t.before _ in
    omega (arith, a, b)) in
    let before : added.before ≡ length front = (let a = added.number_is in let b = t.action_is in omega (arith, a, b, many)) in
    let first : take added.before r.then_history ≡ front = ap (λ (n : ℕ). take n r.then_history) before
    ∙ ap (λ (l : List Action). take (length front) l) t.history_is ∙ take_at front (act ∷ later_acts) (length front) refl in
    let kept : (e : Entry)
    → contents_after start front e ≡ contents_after start history e = λ e. after_nothing start history (shapes (length calls) t.before) e (all_shapes_say (length calls) t.before e) in
    let whole : r.then_history ≡ (front ++ act ∷ []) ++ later_acts = t.history_is ∙ sym (append_assoc front (act ∷ []) later_acts) in
    let absent : has_entry g old.store entry ≡ false =
    fits.explains.contents entry ∙ sym (kept entry) ∙ ap (λ (l : List Action). contents_after start l entry) (sym first) ∙ added.was_absent in
    let grown : (e : Entry) → has_entry g new.store e ≡ (same_entry entry e || has_entry g old.store e) = λ e. r.ran.fits.explains.contents e ∙ ap (λ (l : List Action). contents_after start l e) whole
    ∙ after_nothing start (front ++ act ∷ []) later_acts e (all_shapes_say (length calls) t.shapes_after e) ∙ contents_after-add start front (length calls) entry e
    ∙ ap (λ (b : Bool). same_entry entry e || b) (kept e ∙ sym (fits.explains.contents e)) in
    record {
      was_absent = absent;
      key_was_absent = λ unique. key_was_free (has_entry g old.store) (has_entry g new.store) entry grown absent
          (r.ran.fits.explains.keyed (ap (λ (f : Format). f.unique) (format_stays g 63 (InsertMeans 63 entry (Ok inserted)) came old new start history calls r) ∙ unique)).keys;
      contents = grown;
      since = (let a = t.action_is in let b : (g.state old.store).acts ≡ length history = fits.explains.count in omega (arith, a, b));
      until = (
          let a = t.action_is in
          let b : (g.state new.store).acts ≡ length r.then_history = r.ran.fits.explains.count in
          let c : length r.then_history ≡ length front + length (act ∷ later_acts) = ap (λ (l : List Action). length l) t.history_is ∙ length-append front (act ∷ later_acts) in
          let d : length (act ∷ later_acts) ≡ suc (length later_acts) = refl in
          omega (arith, a, b, c, d, many));
    }
told_or_kept g entry (Err fault) came old new start history calls fits r =
    let t = r.tells in
    record {
      contents = λ e. r.ran.fits.explains.contents e ∙ ap (λ (l : List Action). contents_after start l e) t.history_is
          ∙ after_nothing start history (shapes (length calls) t.shaped) e (all_shapes_say (length calls) t.shaped e) ∙ sym (fits.explains.contents e);
      was_there = λ exists. held entry ((refused Exists (t.exists_is exists)).0 refl);
      key_was_there = λ row is.
          let may = (refused (KeyExists row) (t.key_exists_is row is)).1 row refl in
          (may.0, held (with_row entry row) may.1);
    }
  where
    -- the call that has ended with this fault meets its definition
    refused : (of : Fault) → r.then_calls ≡ calls ++ ended (begun_call 63 (AskInsert entry) (length history)) (Failed of) (length r.then_history) ∷ []
        → InsertMayFail start r.then_history (length history) (length r.then_history) entry of
    refused of is =
        let failed : Call = ended (begun_call 63 (AskInsert entry) (length history)) (Failed of) (length r.then_history) in
        let found : slice_get r.then_calls (length calls) ≡ Some failed = ap (λ (l : List Call). slice_get l (length calls)) is ∙ get_append_new calls failed in
        let meets : Meets start r.then_history (length calls) failed = r.ran.fits.explains.meets (length calls) failed found in
        meets.right.end.1

    -- what was there since the call began was there before, since it has changed the shape of the pages only
    held : (e : Entry) → ThereAtSomeMoment start r.then_history (length history) (length r.then_history) e → has_entry g old.store e ≡ true
    held e at =
        let t = r.tells in
        let more : ℕ = at.moment - length history in
        let moment : at.moment ≡ length history + more = (let a = at.since in omega (arith, a)) in
        let first : take at.moment r.then_history ≡ history ++ take more (shapes (length calls) t.shaped) =
        ap (λ (n : ℕ). take n r.then_history) moment ∙ ap (λ (l : List Action). take (length history + more) l) t.history_is ∙ take-append-add history (shapes (length calls) t.shaped) more in
        fits.explains.contents e ∙ sym (after_nothing start history (take more (shapes (length calls) t.shaped)) e (shapes_say (length calls) t.shaped more e))
        ∙ ap (λ (l : List Action). contents_after start l e) (sym first) ∙ at.there

pub inserts_or_keeps : {S : Type 0} (g : Ghosts S) (entry : Entry) (result : Result Inserted Fault) (old new : StoreAndSlots S)
    → InsertIsRun g 63 entry result old new → ForEachHistory g old new (λ start history calls. InsertsOrKeeps g entry result old.store new.store)
inserts_or_keeps g entry (Ok inserted) old new (inl goes) honest start history calls fits =
    told_or_kept g entry (Ok inserted) (Some (Added inserted.action inserted.unfinished)) old new start history calls fits (goes honest start history calls fits)
inserts_or_keeps g entry (Ok inserted) old new (inr short) honest start history calls fits =
    told_or_kept g entry (Ok inserted) (Some (Refused short.fault)) old new start history calls fits (short.goes honest start history calls fits)
inserts_or_keeps g entry (Err fault) old new goes honest start history calls fits =
    told_or_kept g entry (Err fault) (Some (Refused fault)) old new start history calls fits (goes honest start history calls fits)

-- a running scan's answer so far
so_far : (start : Entry → Bool) (history : List Action) (number began until : ℕ) (ask : Ask) (range : Range) (given : List Entry) (added : Option ℕ)
    (ending : Ending) → ask ≡ AskScan range → ending ≡ Running
    → AnswersRight start history number began (end_of history ending until) ask given added ending → IsScanAnswerSoFar start history range began (length history) given
so_far start history number began until ask range given added ending is_ask is_running right =
    subst (λ (a : Ask). AnswersRight start history number began (length history) a given added Running) is_ask
    (subst (λ (e : Ending). AnswersRight start history number began (end_of history e until) ask given added e) is_running right)

-- ... as it gives
pub gives_right : {S : Type 0} (g : Ghosts S) (session : ℕ) (result : Result (Option Entry) Fault) (old new : StoreAndSlots S) (start : Entry → Bool) (history : List Action) (calls : List Call)
    → CallRuns g session (SessionGivenMeans session result) (given_outcome result) old new start history calls → AnswersScan session result start history calls
gives_right g session (Ok (Some entry)) old new start history calls r number call range running ask =
    let told : Becomes number (given_one call entry) (snapshot_of old history calls) (snapshot_of new r.then_history r.then_calls) = r.tells number call range running ask in
    let found : slice_get r.then_calls number ≡ Some (given_one call entry) = ap (λ (l : List Call). slice_get l number) told.calls_is
    ∙ get_set_same calls number (given_one call entry) (slice_get_within calls number call running.found) in
    let meets : Meets start r.then_history number (given_one call entry) = r.ran.fits.explains.meets number (given_one call entry) found in
    subst (λ (l : List Action). IsScanAnswerSoFar start l range call.began (length l) (call.given ++ entry ∷ [])) told.history_is
    (so_far start r.then_history number call.began call.until call.ask range (call.given ++ entry ∷ []) call.added call.ending ask running.running meets.right)
gives_right g session (Ok None) old new start history calls r number call range running ask =
    let after : Call = ended call EndsFinished (length history) in
    let told : Becomes number after (snapshot_of old history calls) (snapshot_of new r.then_history r.then_calls) = r.tells number call range running ask in
    let found : slice_get r.then_calls number ≡ Some after = ap (λ (l : List Call). slice_get l number) told.calls_is ∙ get_set_same calls number after (slice_get_within calls number call running.found) in
    let meets : Meets start r.then_history number after = r.ran.fits.explains.meets number after found in
    subst (λ (l : List Action). IsScanAnswer start l range call.began (length history) call.given) told.history_is
    (subst (λ (a : Ask). AnswersRight start r.then_history number call.began (length history) a call.given call.added EndsFinished) ask meets.right)
gives_right g session (Err fault) old new start history calls r number call range running ask = tt

-- it tells how many actions are durable
abbrev pub Counts : Upkeep → Type 0
Counts Forces = Unit {0}
Counts Flushes = ⊥
Counts Checkpoints = Unit {0}

-- what was done for the store was told by a number, or refused
data IsToldByNumber (upkeep : Upkeep) : Answer → Type 0 where
  number : {answer : Answer} (n : ℕ) → kept_answer upkeep n ≡ Some answer → counted answer ≡ Ok n → IsToldByNumber upkeep answer
  refusal : (fault : Fault) → IsToldByNumber upkeep (Refused fault)

is_counted : (upkeep : Upkeep) (answer : Answer) → Counts upkeep → AnswersUpkeep upkeep answer → IsToldByNumber upkeep answer
is_counted Flushes answer counts kind = absurd counts
is_counted Forces Begun counts kind = absurd kind
is_counted Forces Going counts kind = absurd kind
is_counted Forces (Added a u) counts kind = absurd kind
is_counted Forces (Ready r) counts kind = absurd kind
is_counted Forces Done counts kind = absurd kind
is_counted Forces (Finished s) counts kind = absurd kind
is_counted Forces (Gave e) counts kind = absurd kind
is_counted Forces Ended counts kind = absurd kind
is_counted Forces (Forced n) counts kind = number n refl refl
is_counted Forces (Flushed b) counts kind = absurd kind
is_counted Forces (Checkpointed n) counts kind = absurd kind
is_counted Forces (Refused f) counts kind = refusal f
is_counted Checkpoints Begun counts kind = absurd kind
is_counted Checkpoints Going counts kind = absurd kind
is_counted Checkpoints (Added a u) counts kind = absurd kind
is_counted Checkpoints (Ready r) counts kind = absurd kind
is_counted Checkpoints Done counts kind = absurd kind
is_counted Checkpoints (Finished s) counts kind = absurd kind
is_counted Checkpoints (Gave e) counts kind = absurd kind
is_counted Checkpoints Ended counts kind = absurd kind
is_counted Checkpoints (Forced n) counts kind = absurd kind
is_counted Checkpoints (Flushed b) counts kind = absurd kind
is_counted Checkpoints (Checkpointed n) counts kind = number n refl refl
is_counted Checkpoints (Refused f) counts kind = refusal f

-- what was told was answered
came_of : (upkeep : Upkeep) (answer : Answer) → IsToldByNumber upkeep answer → upkeep_outcome upkeep (counted answer) ≡ Some answer
came_of upkeep answer (number n is told) = ap (λ (r : Result ℕ Fault). upkeep_outcome upkeep r) told ∙ is
came_of upkeep answer (refusal fault) = refl

-- it is a run of one event, of which nothing is told
goes_kept : {S : Type 0} (g : Ghosts S) (laws : Laws g) (upkeep : Upkeep) (event : Event) (answer : Answer) (a b : StoreAndSlots S)
    → kind_of event ≡ MaintainsStore upkeep → IsToldByNumber upkeep answer
    → ForEachHistory g a b (Runs g a b (event ∷ []) (answer ∷ [])) → CallIsRun g 0 IsSameHistory (upkeep_outcome upkeep (counted answer)) a b
goes_kept {S} g laws upkeep event answer a b kind answers runs = subst (λ (came : Option Answer). CallIsRun g 0 IsSameHistory came a b) (sym (came_of upkeep answer answers))
    (goes_by g laws 0 IsSameHistory event answer a b (subst (λ (k : Kind). IsOfSession 0 k) (sym kind) tt) runs
    (λ start x y from to fits does. keeps_silent g start upkeep answer x y (subst (λ (k : Kind). EventDoes g start k answer x y) kind does)))

-- what was done for the store, as a result tells it: the number of actions, that they are durable, and why it
-- was refused
module _ {S : Type 0} (g : Ghosts S) (upkeep : Upkeep) (answer : Answer) (old new : S) (result : Result ℕ Fault) (is : result ≡ counted answer)
    (counts : Counts upkeep) (kind : AnswersUpkeep upkeep answer) (kept : StoreIsKept g upkeep answer old new) where
  number_of : (r : Result ℕ Fault) (a : Answer) → r ≡ counted a → a ≡ answer → IsToldByNumber upkeep a → IfOk r (λ n. n ≡ (g.state old).acts)
  number_of r a told same (number n was ok) = subst (λ (x : Result ℕ Fault). IfOk x (λ m. m ≡ (g.state old).acts)) (sym (told ∙ ok)) (kept.number n (was ∙ ap Some same))
  number_of r a told same (refusal fault) = subst (λ (x : Result ℕ Fault). IfOk x (λ m. m ≡ (g.state old).acts)) (sym told) tt

  durable_of : (r : Result ℕ Fault) (a : Answer) → r ≡ counted a → a ≡ answer → IsToldByNumber upkeep a → OnOk r ((g.backing new).durable ≡ (g.state old).acts)
  durable_of r a told same (number n was ok) = subst (λ (x : Result ℕ Fault). OnOk x ((g.backing new).durable ≡ (g.state old).acts)) (sym (told ∙ ok)) (kept.durable n (was ∙ ap Some same))
  durable_of r a told same (refusal fault) = subst (λ (x : Result ℕ Fault). OnOk x ((g.backing new).durable ≡ (g.state old).acts)) (sym told) tt

  cause_of : (r : Result ℕ Fault) (a : Answer) → r ≡ counted a → a ≡ answer → IsToldByNumber upkeep a
      → IfErr r (HasCause (causes_of_forced (g.backing old) (g.backing new)))
  cause_of r a told same (number n was ok) = subst (λ (x : Result ℕ Fault). IfErr x (HasCause (causes_of_forced (g.backing old) (g.backing new)))) (sym (told ∙ ok)) tt
  cause_of r a told same (refusal fault) = subst (λ (x : Result ℕ Fault). IfErr x (HasCause (causes_of_forced (g.backing old) (g.backing new)))) (sym told) (kept.caused fault (sym same))

  pub number_told : IfOk result (λ n. n ≡ (g.state old).acts)
  number_told = number_of result answer is refl (is_counted upkeep answer counts kind)

  pub durable_told : OnOk result ((g.backing new).durable ≡ (g.state old).acts)
  durable_told = durable_of result answer is refl (is_counted upkeep answer counts kind)

  pub cause_told : IfErr result (HasCause (causes_of_forced (g.backing old) (g.backing new)))
  cause_told = cause_of result answer is refl (is_counted upkeep answer counts kind)

-- a checkpoint leaves the whole room of the log
pub room_told : (Room : Type 0) (answer : Answer) (result : Result ℕ Fault) → result ≡ counted answer → AnswersUpkeep Checkpoints answer
    → ((count : ℕ) → answer ≡ Checkpointed count → Room) → OnOk result Room
room_told Room answer result is kind h = subst (λ (r : Result ℕ Fault). OnOk r Room) (sym is) (of answer (is_counted Checkpoints answer tt kind) h)
  where
    of : (a : Answer) → IsToldByNumber Checkpoints a → ((count : ℕ) → a ≡ Checkpointed count → Room) → OnOk (counted a) Room
    of a (number n was ok) room = subst (λ (r : Result ℕ Fault). OnOk r Room) (sym ok) (room n (sym (same_some (kept_answer Checkpoints n) (Checkpointed n) a refl was)))
    of a (refusal fault) room = tt

pub goes_told_kept : {S : Type 0} (g : Ghosts S) (laws : Laws g) (upkeep : Upkeep) (event : Event) (answer : Answer) (a b : StoreAndSlots S)
    (result : Result ℕ Fault) → result ≡ counted answer → kind_of event ≡ MaintainsStore upkeep
    → Counts upkeep → AnswersUpkeep upkeep answer → ForEachHistory g a b (Runs g a b (event ∷ []) (answer ∷ [])) → CallIsRun g 0 IsSameHistory (upkeep_outcome upkeep result) a b
goes_told_kept g laws upkeep event answer a b result is kind counts answers runs =
    subst (λ (r : Result ℕ Fault). CallIsRun g 0 IsSameHistory (upkeep_outcome upkeep r) a b) (sym is) (goes_kept g laws upkeep event answer a b kind (is_counted upkeep answer counts answers) runs)

-- after a run of events something fits
pub run_fits : {S : Type 0} {g : Ghosts S} {session : ℕ} {Tells : Moment S → Moment S → Type 0} {came : Option Answer} {old new : StoreAndSlots S} → CallIsRun g session Tells came old new
    → ForEachHistory g old new (λ start history calls. (then_history : List Action) × (then_calls : List Call) × Fits g start (snapshot_of new then_history then_calls))
run_fits goes honest start history calls fits = (let r = goes honest start history calls fits in (r.then_history, r.then_calls, r.ran.fits))

-- ... also after those of an insert, whatever it came to
pub insert_fits : {S : Type 0} (g : Ghosts S) (session : ℕ) (entry : Entry) (result : Result Inserted Fault) (old new : StoreAndSlots S) → InsertIsRun g session entry result old new
    → ForEachHistory g old new (λ start history calls. (then_history : List Action) × (then_calls : List Call) × Fits g start (snapshot_of new then_history then_calls))
insert_fits g session entry (Ok inserted) old new (inl goes) = run_fits goes
insert_fits g session entry (Ok inserted) old new (inr cut) = run_fits cut.goes
insert_fits g session entry (Err fault) old new goes = run_fits goes
