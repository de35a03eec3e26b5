-- A bulk delete or a cleanup that goes on in parts: what a part does, what it counts, and why it is refused.
use Rattle.std.proofs.Common.{◌≡◌, ◌≢◌, ◌||◌, ℕ, Bool, true, false, true≢false, Option, Some, None, unwrap_or, Result, Ok, Err, List, [], ◌∷◌, ◌++◌, length, slice_get, refl, sym, ap, subst, inl, inr, ◌∙◌, IfErr}
use Rattle.access_method.proofs.Imports.{Effect, Action, Ask, AskBulkDelete, AskCleanup, Call, Row, Entry, Fault, VacuumStats, Stopped, HasCause, contents_after, contents_after-append, last_said, Ghosts, Op, Insert, Scan, Bulk, Cleanup}
use Rattle.access_method.proofs.Imports.{Answer, State, Begun, one_vacuums, Going, Finished, Refused, DeadSets, StoreAndSlots, Moment, snapshot_of, here_with, Fits, AreOwnEffects, acts_by, slot_of, slot_vacuums, CallRuns, has_failed, is_at_end}
use Rattle.access_method.proofs.Imports.{causes_of_run, causes_of_gone, another_runs, or_cases, has_entry, slots_within, Index, or_left, or_right}
use Rattle.std.specs.Prelude.{nat_le}
use Rattle.schedule.proofs.Keeping.{Laws}
use Rattle.schedule.specs.MomentInvariants.{here_at}
use Rattle.schedule.specs.TheoremMoments.{IsRunningCall}
use Rattle.session_calls.specs.Ops.{IsCaused, asked_of, set_at}
use Rattle.session_calls.specs.Sessions.{start_number}
use Rattle.whole_calls.proofs.Gone.{gone_runs, same_ask, whole_told}
use Rattle.whole_calls.proofs.Lasting.{busier_of, later_of}
use Rattle.whole_calls.proofs.Refusing.{asked_wider, cause_wider}
use Rattle.whole_calls.proofs.Tellings.{one_runs, runs_in_slot}
use Rattle.whole_calls.specs.Meanings.{HasBegun, HasContinued, MayComeTo, StepMeans, noted_after}
use Rattle.whole_calls.specs.Parts.{PartComesTo, PartEnds, PartIsRun, PartMeans, RunsUnlessLast, part_outcome}
use Rattle.whole_calls.specs.Refusing.{causes_of_asked, is_full_vacuum}
use Rattle.schedule.specs.TheoremRuns.{ForEachHistory}
use Rattle.session_calls.specs.Slots.{has_call, slot_has_call}
use Rattle.whole_calls.specs.Vacuuming.{CountsThrough, Followed, FollowsFrom, IsCountedAs, StatsCountFor}
use Rattle.access_method.specs.Rows.{is_row_in}
use Rattle.access_method.proofs.Refusals.{calm_slots}
use Rattle.access_method.specs.Tokens.{NoVacuumIsOpen, SeatsAgree}
use Rattle.access_method.specs.declared.token.Sitter.{Sitter}
use Rattle.session_calls.specs.declared.request.Request.{Request}
use Rattle.whole_calls.proofs.Composing.{goes_told}
use Rattle.whole_calls.specs.Going.{CallIsRun, CallIsRunFrom}
use Rattle.whole_calls.specs.Made.{IsMadeOf}
use Rattle.whole_calls.specs.Stepping.{BeginIsRun}
use Rattle.access_method.proofs.BulkDeletions.{says_none, says_nothing}
use Rattle.access_method.proofs.Cleanups.{cleans_nothing}
use Rattle.access_method.specs.Indexes.{LosesDeadRows}
use Rattle.access_method.specs.Parts.{IsPartAnswer, PartCounts, PartIsCaused, VacuumIsEnded, causes_of_part, part_answer}

-- where no vacuum is open none vacuums
pub calm_open : (slots : List (Option Op)) (seats : List (Option Sitter)) → SeatsAgree slots seats → NoVacuumIsOpen seats → one_vacuums slots ≡ false
calm_open slots seats agree none = calm_slots slots (λ session. of session (slot_vacuums (slot_of slots session)) refl)
  where
    of : (session : ℕ) (b : Bool) → slot_vacuums (slot_of slots session) ≡ b → b ≡ false
    of session false at = refl
    of session true at = absurd (none session (agree.vacuums session at))

-- what a beginning tells
pub begins_told : {S : Type 0} {g : Ghosts S} {session : ℕ} {request : Request} {a b : StoreAndSlots S} → CallIsRun g session (BeginIsRun g session request (Ok tt)) (Some Begun) a b
    → CallIsRun g session (HasBegun session request) (Some Begun) a b
begins_told goes = goes_told _ goes (λ start h hc k kc answers fits by t. (by, t.told))

-- ... and what it counts
pub follows_begun : {S : Type 0} {g : Ghosts S} {session : ℕ} {request : Request} {a b : StoreAndSlots S} → CallIsRun g session (BeginIsRun g session request (Ok tt)) (Some Begun) a b
    → ForEachHistory g a b (λ start history calls. (what : Followed) → FollowsFrom what request (g.state a.store) session → IsCountedAs what b.sets (g.state b.store) (slot_of b.slots session))
follows_begun goes honest start history calls fits what may = (goes honest start history calls fits).tells.counts what may

-- what a bulk delete or a cleanup may come to
pub part_may : (sets : DeadSets) (slot : Option Op) → slot_vacuums slot ≡ true → (answer : Answer) → (answer ≢ Going → MayComeTo sets slot answer) → IsPartAnswer answer
part_may sets None vacuums answer may = absurd (true≢false (sym vacuums))
part_may sets (Some (Insert op)) vacuums answer may = absurd (true≢false (sym vacuums))
part_may sets (Some (Scan op)) vacuums answer may = absurd (true≢false (sym vacuums))
part_may sets (Some op) vacuums Going may = tt
part_may sets (Some op) vacuums (Finished stats) may = tt
part_may sets (Some op) vacuums (Refused fault) may = tt
part_may sets (Some (Bulk set op)) vacuums answer may = absurd (may (λ e. cc))
part_may sets (Some (Cleanup op)) vacuums answer may = absurd (may (λ e. cc))

-- a session with a running call has it in its slot
pub busy_of : {S : Type 0} (g : Ghosts S) (start : Entry → Bool) (x : Moment S) → Fits g start x → (session number : ℕ) (call : Call) → IsRunningCall x.calls session number call
    → slot_of x.slots session ≢ None
busy_of g start x fits session number call is over =
    let r = runs_in_slot g start x fits session number call is in
    let some : Some r.0 ≡ None = sym (ap (λ (o : Option (Option Op)). unwrap_or o None) r.1) ∙ over in
    cc

-- what a part tells, and what it is made of, by what it answers; the session is the vacuum's
pub part_runs : {S : Type 0} {g : Ghosts S} (session at : ℕ) → session ≡ at → {answer : Answer} {a b : StoreAndSlots S} (result : Result (Option VacuumStats) Fault) → part_answer result ≡ answer
    → CallIsRunFrom g at (PartIsRun g at 5 answer) (part_outcome answer) a b → CallIsRun g session (PartMeans session (part_answer result)) (part_outcome (part_answer result)) a b
part_runs {g = g} session at there {answer} {a} {b} result same goes =
    subst (λ (n : ℕ). CallIsRun g n (PartMeans n (part_answer result)) (part_outcome (part_answer result)) a b) (sym there)
    (subst (λ (x : Answer). CallIsRun g at (PartMeans at x) (part_outcome x) a b) (sym same) (goes_told _ goes (λ start h hc k kc answers fits by t. (by, t.told))))

pub part_made : {S : Type 0} {g : Ghosts S} (count session at : ℕ) → session ≡ at → {answer : Answer} {a b : StoreAndSlots S} (result : Result (Option VacuumStats) Fault) → part_answer result ≡ answer
    → IsMadeOf g at 5 (PartComesTo count answer) a b → IsMadeOf g session 5 (PartComesTo count (part_answer result)) a b
part_made {g = g} count session at there {answer} {a} {b} result same made =
    subst (λ (n : ℕ). IsMadeOf g n 5 (PartComesTo count (part_answer result)) a b) (sym there) (subst (λ (x : Answer). IsMadeOf g at 5 (PartComesTo count x) a b) (sym same) made)

pub counts_on : (what : Followed) (sets : DeadSets) (old new : State) (session at : ℕ) → session ≡ at → (before after : ℕ → Option Op) (result : Result (Option VacuumStats) Fault) (answer : Answer)
    → part_answer result ≡ answer → CountsThrough what sets old new (before at) (after at) answer → CountsThrough what sets old new (before session) (after session) (part_answer result)
counts_on what sets old new session at there before after result answer same counts =
    subst (λ (n : ℕ). CountsThrough what sets old new (before n) (after n) (part_answer result)) (sym there)
    (subst (λ (a : Answer). CountsThrough what sets old new (before at) (after at) a) (sym same) counts)

-- ... and its call lasts
pub lasts_at : (session at : ℕ) → session ≡ at → (before after : ℕ → Option Op) (result : Result (Option VacuumStats) Fault) (answer : Answer) → part_answer result ≡ answer
    → RunsUnlessLast (before at) (after at) answer → RunsUnlessLast (before session) (after session) (part_answer result)
lasts_at session at there before after result answer same lasts =
    subst (λ (n : ℕ). RunsUnlessLast (before n) (after n) (part_answer result)) (sym there) (subst (λ (a : Answer). RunsUnlessLast (before at) (after at) a) (sym same) lasts)

-- a session that has a call runs something
pub runs_some : (slots : List (Option Op)) (session : ℕ) → has_call slots session ≡ true → slot_of slots session ≢ None
runs_some slots session has over = of (slice_get slots session) has over
  where
    of : (slot : Option (Option Op)) → slot_has_call slot ≡ true → unwrap_or slot None ≡ None → ⊥
    of None has over = true≢false (sym has)
    of (Some None) has over = true≢false (sym has)
    of (Some (Some op)) has over = (let same : Some op ≡ None = over in cc)

pub cause_at : {S : Type 0} (g : Ghosts S) (session at : ℕ) → session ≡ at → (result : Result (Option VacuumStats) Fault) (old : Index S) (new : S) (calls : List Call)
    → PartIsCaused g at result old new calls → PartIsCaused g session result old new calls
cause_at g session at there result old new calls h = subst (λ (n : ℕ). PartIsCaused g n result old new calls) (sym there) h

pub ended_at : {S : Type 0} (g : Ghosts S) (session at : ℕ) → session ≡ at → (old new : Index S) → VacuumIsEnded g at old new → VacuumIsEnded g session old new
ended_at g session at there old new h = subst (λ (n : ℕ). VacuumIsEnded g n old new) (sym there) h

-- the effects of a part
pub record PartEffects {S : Type 0} (number : ℕ) (call : Call) (old new : Moment S) : Type 0 where
  pub effects : List Effect
  pub own : AreOwnEffects call (length old.history) effects
  pub history_is : new.history ≡ old.history ++ acts_by number effects

step_effects : {S : Type 0} (number : ℕ) (call : Call) (answer : Answer) (x y : Moment S) → StepMeans number call answer x y → PartEffects number call x y
step_effects number call answer x y (inl t) = (let w = whole_told number call answer x y t in record { effects = w.effects; own = w.own; history_is = w.history_is })
step_effects number call answer x y (inr h) = record { effects = h.before; own = h.gone.own; history_is = h.gone.history_is }

pub part_effects : {S : Type 0} (session : ℕ) (answer : Answer) (x y : Moment S) → PartMeans session answer x y → (number : ℕ) (call : Call) → IsRunningCall x.calls session number call
    → PartEffects number call x y
part_effects session Going x y told number call is = (let f = told number call is in record { effects = f.0; own = f.1.own; history_is = f.1.history_is })
part_effects session answer x y told number call is = step_effects number call answer x y (told number call is)

-- what they leave of the contents
module _ {S : Type 0} (g : Ghosts S) (start : Entry → Bool) (x y : Moment S) (fits : Fits g start x) (then_fits : Fits g start y) (number : ℕ) (call : Call) (part : PartEffects number call x y) where
  abbrev said : Entry → Option Bool
  said e = last_said (acts_by number part.effects) e

  then_said : (e : Entry) → contents_after start y.history e ≡ unwrap_or (said e) (contents_after start x.history e)
  then_said e = ap (λ (l : List Action). contents_after start l e) part.history_is ∙ contents_after-append start x.history (acts_by number part.effects) e

  same_where : (e : Entry) → said e ≡ None → has_entry g y.store e ≡ has_entry g x.store e
  same_where e none = then_fits.explains.contents e ∙ then_said e ∙ ap (λ (o : Option Bool). unwrap_or o (contents_after start x.history e)) none ∙ sym (fits.explains.contents e)

  pub part_loses : (dead : Row → Bool) → call.ask ≡ AskBulkDelete dead → LosesDeadRows g dead x.store y.store
  part_loses dead ask = record {
    others = λ e alive. same_where e (says_nothing dead number call (length x.history) part.effects e ask part.own alive);
    came = λ e there. fits.explains.contents e ∙ was e (said e) refl (sym (then_said e) ∙ sym (then_fits.explains.contents e) ∙ there);
  }
    where
      was : (e : Entry) (o : Option Bool) → said e ≡ o → unwrap_or o (contents_after start x.history e) ≡ true → contents_after start x.history e ≡ true
      was e None at h = h
      was e (Some false) at h = cc
      was e (Some true) at h = absurd (says_none dead number call (length x.history) part.effects e ask part.own at)

  pub part_stays : call.ask ≡ AskCleanup → (e : Entry) → has_entry g y.store e ≡ has_entry g x.store e
  part_stays ask e = same_where e (cleans_nothing number call (length x.history) part.effects e ask part.own)

-- what a session is asked that runs a bulk delete or a cleanup
data AsksVacuum : Ask → Type 0 where
  deletes : (dead : Row → Bool) → AsksVacuum (AskBulkDelete dead)
  cleans : AsksVacuum AskCleanup

asks_vacuum_of : {S : Type 0} (g : Ghosts S) (start : Entry → Bool) (x : Moment S) → Fits g start x → (session : ℕ) → slot_vacuums (slot_of x.slots session) ≡ true
    → (number : ℕ) (call : Call) → IsRunningCall x.calls session number call → AsksVacuum call.ask
asks_vacuum_of g start x fits session vacuums number call is =
    let r = runs_in_slot g start x fits session number call is in
    let same : r.2.call ≡ call = (one_runs g start x fits session number r.2.number call r.2.call is r.2.is).1 in
    let ask : asked_of x.sets r.0 ≡ call.ask = sym r.2.runs.ask ∙ ap (λ (c : Call). c.ask) same in
    subst (λ (a : Ask). AsksVacuum a) ask (of r.0 (sym (ap (λ (o : Option (Option Op)). slot_vacuums (unwrap_or o None)) r.1) ∙ vacuums))
  where
    of : (op : Op) → slot_vacuums (Some op) ≡ true → AsksVacuum (asked_of x.sets op)
    of (Insert op) h = absurd (true≢false (sym h))
    of (Scan op) h = absurd (true≢false (sym h))
    of (Bulk set op) h = deletes (set_at x.sets set)
    of (Cleanup op) h = cleans

-- the last step of a part
module _ {S : Type 0} (g : Ghosts S) (laws : Laws g) (session : ℕ) (answer : Answer) (start : Entry → Bool) (x y : Moment S) (number : ℕ) (call : Call) (is : IsRunningCall x.calls session number call)
    (ends : PartEnds g session 5 answer start x y) where
  abbrev last : Moment S
  last = ends.finish.last

  abbrev effects : List Effect
  effects = (ends.finish.gone.far number call is).0

  far : HasContinued number call effects x last
  far = (ends.finish.gone.far number call is).1

  abbrev then_call : Call
  then_call = noted_after call (length x.history) effects

  then_runs : IsRunningCall last.calls session number then_call
  then_runs = gone_runs number call effects x last last far session is

  asked : then_call.ask ≡ call.ask
  asked = same_ask call (length x.history) effects

  step_counts : (stats : VacuumStats) → answer ≡ Finished stats → StatsCountFor call.ask (g.state y.store) stats
  step_counts stats finished = subst (λ (a : Ask). StatsCountFor a (g.state y.store) stats) asked (ends.finish.step.stats number then_call then_runs stats finished)

  -- why it is refused, told from the moment before the part
  step_caused : IsCaused (causes_of_asked g session 5 (start_number (g.state last.store) session) (is_full_vacuum (slot_of last.slots session)) call.ask (here_at x) y.store) answer
  step_caused =
      let full = is_full_vacuum (slot_of last.slots session) in
      let number_of = start_number (g.state last.store) session in
      let at_last = subst (λ (a : Ask). IsCaused (causes_of_asked g session 5 number_of full a (here_at last) y.store) answer) asked (ends.finish.step.caused number then_call then_runs) in
      cause_wider _ _ (asked_wider g session 5 (here_at x) (here_at last) y.store (later_of laws ends.finish.gone.lasts) (later_of laws ends.finish.lasts).failures
      (busier_of ends.finish.gone.lasts) number_of full full call.ask (λ asks f. f)) answer at_last

gone_of : {S : Type 0} (g : Ghosts S) (session : ℕ) (ask : Ask) → AsksVacuum ask → (number : Option ℕ) (full : Bool) (old : StoreAndSlots S) (new : S) (fault : Fault)
    → HasCause (causes_of_asked g session 5 number full ask old new) fault → HasCause (causes_of_gone g session 5 full old new) fault
gone_of g session ask (deletes dead) number full old new fault h = h
gone_of g session ask cleans number full old new fault h = h

-- a vacuum that is full, or what stops any call
module _ {S : Type 0} (g : Ghosts S) (session : ℕ) (full : Bool) (old : Index S) (new : S) where
  abbrev had : Bool
  had = (g.backing old.store).stopped

  abbrev failed : Bool
  failed = has_failed (g.backing old.store) (g.backing new)

  abbrev begun_all : Bool
  begun_all = is_at_end (g.state old.store).begun

  abbrev acted_all : Bool
  acted_all = nat_le 18446744073709551615 (g.state new).acts

  stopped_part : (had || (failed || (acted_all || full))) ≡ true → (((had || failed) || (begun_all || acted_all)) || full) ≡ true
  stopped_part h = elim (or_cases had (failed || (acted_all || full)) h) [
    | inl stopped ↦ or_left ((had || failed) || (begun_all || acted_all)) full (or_left (had || failed) (begun_all || acted_all) (or_left had failed stopped))
    | inr rest ↦ elim (or_cases failed (acted_all || full) rest) [
      | inl now ↦ or_left ((had || failed) || (begun_all || acted_all)) full (or_left (had || failed) (begun_all || acted_all) (or_right had failed now))
      | inr ended ↦ elim (or_cases acted_all full ended) [
        | inl all ↦ or_left ((had || failed) || (begun_all || acted_all)) full (or_right (had || failed) (begun_all || acted_all) (or_right begun_all acted_all all))
        | inr is_full ↦ or_right ((had || failed) || (begun_all || acted_all)) full is_full
      ]
    ]
  ]

  part_cause : (fault : Fault) → HasCause (causes_of_gone g session 5 full (slots_within old) new) fault → HasCause (causes_of_part g session full old new) fault
  part_cause Stopped h = stopped_part h
  part_cause fault h = h

-- what a part answers, by the answer of its last step
module _ {S : Type 0} (g : Ghosts S) (laws : Laws g) (session : ℕ) (start : Entry → Bool) (old : Index S) (new : StoreAndSlots S) (history then_history : List Action) (calls then_calls : List Call)
    (fits : Fits g start (snapshot_of (slots_within old) history calls)) (answer : Answer)
    (part : PartIsRun g session 5 answer start (snapshot_of (slots_within old) history calls) (snapshot_of new then_history then_calls)) where
  pub part_counts : (result : Result (Option VacuumStats) Fault) → part_answer result ≡ answer → PartCounts g session result new.store calls
  part_counts result same number call is stats finished =
      let told : answer ≡ Finished stats = sym same ∙ ap part_answer finished in
      step_counts g laws session answer start (snapshot_of (slots_within old) history calls) (snapshot_of new then_history then_calls) number call is
      (part.ends (λ going. absurd (finished_apart stats (sym told ∙ going)))) stats told
    where
      finished_apart : (stats : VacuumStats) → Finished stats ≡ Going → ⊥
      finished_apart stats e = cc

  pub part_caused : slot_vacuums (slot_of old.calls.slots.items session) ≡ true → (result : Result (Option VacuumStats) Fault) → part_answer result ≡ answer
      → PartIsCaused g session result old new.store calls
  part_caused vacuums (Ok told) same number call is = tt
  part_caused vacuums (Err fault) same number call is =
      let x = snapshot_of (slots_within old) history calls in
      let y = snapshot_of new then_history then_calls in
      let ends = part.ends (λ going. absurd (refused_apart (same ∙ going))) in
      let full = is_full_vacuum (slot_of ends.finish.last.slots session) in
      let number_of = start_number (g.state ends.finish.last.store) session in
      record {
        before = slot_of ends.finish.last.slots session;
        on = ends.on;
        cause = part_cause g session full old new.store fault
            (gone_of g session call.ask (asks_vacuum_of g start x fits session vacuums number call is) number_of full (slots_within old) new.store fault
            (subst (λ (a : Answer). IsCaused (causes_of_asked g session 5 number_of full call.ask (slots_within old) new.store) a) (sym same)
            (step_caused g laws session answer start x y number call is ends)));
      }
    where
      refused_apart : Refused fault ≡ Going → ⊥
      refused_apart e = cc
