-- Steps of a session's call, one after the other.
use Rattle.std.proofs.Common.{◌≡◌, ◌≢◌, ◌⊎◌, ℕ, ◌+◌, ◌≤◌, Bool, List, [], ◌∷◌, ◌++◌, refl, inl, inr, subst, arith}
use Rattle.index_model.specs.Actions.{Action}
use Rattle.index_model.specs.Calls.{Call}
use Rattle.schedule.specs.Events.{AnswersBeginning}
use Rattle.schedule.specs.declared.event.Event.{Event}
use Rattle.schedule.proofs.Fitting.{goes_does}
use Rattle.schedule.proofs.Joining.{ran_then}
use Rattle.schedule.proofs.Keeping.{Laws}
use Rattle.schedule.proofs.Running.{none_ran, follow_runs}
use Rattle.session_calls.specs.Slots.{slot_of}
use Rattle.session_calls.specs.declared.answer.Answer.TheVariants.{Begun, Going, Added, Ready, Done, Finished, Gave, Ended, Forced, Flushed, Checkpointed, Refused}
use Rattle.whole_calls.specs.Spending.{steps_left}
use Rattle.whole_calls.proofs.Spending.{steps_few, takes_fewer}
use Rattle.command_line.proofs.Imports.{replicate, replicate-append-replicate, SetGhosts, Entry, Fault, Continues, Ghosts, Insert, Step, Answer, ForEachWorldHistory, WorldIsRun, WorldRuns, inside}
use Rattle.command_line.proofs.Imports.{snapshot_in, World, steps_of, answers_to, IsStepped, IsSteppedInsert}

-- a beginning is answered with Begun, or with a refusal
pub begun_or_refused : (answer : Answer) → AnswersBeginning answer → (answer ≡ Begun) ⊎ ((fault : Fault) × (answer ≡ Refused fault))
begun_or_refused Begun may = inl refl
begun_or_refused Going may = absurd may
begun_or_refused (Added action unfinished) may = absurd may
begun_or_refused (Ready count) may = absurd may
begun_or_refused Done may = absurd may
begun_or_refused (Finished stats) may = absurd may
begun_or_refused (Gave entry) may = absurd may
begun_or_refused Ended may = absurd may
begun_or_refused (Forced count) may = absurd may
begun_or_refused (Flushed block) may = absurd may
begun_or_refused (Checkpointed count) may = absurd may
begun_or_refused (Refused fault) may = inr (fault, refl)

-- the session's call has gone on, by so many steps
pub record HasGoneOn {S T : Type 0} (g : Ghosts S) (rows : SetGhosts T) (session : ℕ) (old new : World S T) (start : Entry → Bool) (history : List Action) (calls : List Call) : Type 0 where
  pub count : ℕ
  pub runs : WorldRuns g rows old new (replicate count (Step session)) (replicate count Going) start history calls

-- as many steps as may still be made, of 2^64 - 1, and those that are left for the call, are no fewer than
-- were left at first
abbrev pub HasStepsLeft : {S T : Type 0} → Ghosts S → SetGhosts T → ℕ → ℕ → World S T → World S T → Type 0
HasStepsLeft g rows session left old new =
    18446744073709551615 + steps_left (g.state new.store) (slot_of new.calls.slots.items session) ≤ left + steps_left (g.state old.store) (slot_of old.calls.slots.items session)

module _ {S T : Type 0} (g : Ghosts S) (laws : Laws g) (rows : SetGhosts T) where
  -- a run after a run
  pub runs_then : (events more : List Event) (answers told : List Answer) (a b c : World S T) → Continues g.follows a.store b.store
      → Continues g.follows b.store c.store
      → (start : Entry → Bool) (history : List Action) (calls : List Call) (r : WorldRuns g rows a b events answers start history calls)
      → WorldRuns g rows b c more told start r.then_history r.then_calls
      → WorldRuns g rows a c (events ++ more) (answers ++ told) start history calls
  runs_then events more answers told a b c step next start history calls r t = record {
    then_history = t.then_history;
    then_calls = t.then_calls;
    ran = ran_then g laws start events more answers told (snapshot_in rows a history calls) (snapshot_in rows b r.then_history r.then_calls) (snapshot_in rows c t.then_history t.then_calls)
        (next a.store (step a.store (laws.follows_same a.store))) r.ran t.ran;
  }

  module _ (session : ℕ) where
    -- no step
    pub gone_nowhere : (a : World S T) → ForEachWorldHistory g rows a a (HasGoneOn g rows session a a)
    gone_nowhere a honest start history calls fits = record {
      count = 0;
      runs = record { then_history = history; then_calls = calls; ran = none_ran g laws start (snapshot_in rows a history calls) fits };
    }

    module _ (a b c : World S T) (step : Continues g.follows a.store b.store) (next : Continues g.follows b.store c.store)
        (gone : ForEachWorldHistory g rows a b (HasGoneOn g rows session a b)) (answer : Answer)
        (one : ForEachWorldHistory g rows b c (WorldIsRun g rows b c (Step session) answer)) where
      -- one step more, which answers this
      pub gone_then : ForEachWorldHistory g rows a c (IsStepped g rows [] [] session answer a c)
      gone_then honest start history calls fits =
          let later = laws.follows_later b.store c.store (next b.store (laws.follows_same b.store)) in
          let r = gone (later.honest honest) start history calls fits in
          let t = follow_runs g (Step session) answer (inside rows b) (inside rows c) one honest start r.runs.then_history r.runs.then_calls r.runs.ran.fits in
          record { count = r.count; runs = runs_then (replicate r.count (Step session)) (Step session ∷ []) (replicate r.count Going) (answer ∷ []) a b c step next start history calls r.runs t }

      -- ... and goes on
      pub gone_more : answer ≡ Going → ForEachWorldHistory g rows a c (HasGoneOn g rows session a c)
      gone_more going honest start history calls fits =
          let r = gone_then honest start history calls fits in
          record {
            count = r.count + 1;
            runs = subst (λ (es : List Event). WorldRuns g rows a c es (replicate (r.count + 1) Going) start history calls) (replicate-append-replicate r.count 1 (Step session))
                (subst (λ (xs : List Answer). WorldRuns g rows a c (replicate r.count (Step session) ++ Step session ∷ []) xs start history calls) (replicate-append-replicate r.count 1 Going)
                (subst (λ (x : Answer). WorldRuns g rows a c (replicate r.count (Step session) ++ Step session ∷ []) (replicate r.count Going ++ x ∷ []) start history calls) going r.runs));
          }

      -- ... and leaves fewer steps for the call
      pub within_more : (before after : ℕ) → before ≤ after + 1 → answer ≡ Going → (g.state b.store).format.pages ≤ 65536
          → ForEachWorldHistory g rows a b (λ start history calls. HasStepsLeft g rows session before a b)
          → ForEachWorldHistory g rows a c (λ start history calls. HasStepsLeft g rows session after a c)
      within_more before after one_less going low within honest start history calls fits =
          let later = laws.follows_later b.store c.store (next b.store (laws.follows_same b.store)) in
          let most = within (later.honest honest) start history calls fits in
          let r = gone (later.honest honest) start history calls fits in
          let t = one honest start r.runs.then_history r.runs.then_calls r.runs.ran.fits in
          let fewer = takes_fewer g start session answer (snapshot_in rows b r.runs.then_history r.runs.then_calls)
          (snapshot_in rows c t.then_history t.then_calls) honest r.runs.ran.fits (goes_does t.goes) low going in
          omega (arith, most, fewer)

    -- so the steps that may be made are never used up
    pub within_some : (a b : World S T) (left : ℕ) → left ≤ 0 → (g.state a.store).format.pages ≤ 65536
        → ForEachWorldHistory g rows a b (λ start history calls. HasStepsLeft g rows session left a b → ⊥)
    within_some a b left out low honest start history calls fits most =
        let few = steps_few g laws start (snapshot_in rows a history calls) session fits low in
        omega (arith, few, most)

module _ {S T : Type 0} (g : Ghosts S) (laws : Laws g) (rows : SetGhosts T) (session : ℕ) (entry : Entry) (answer : Answer) (a b : World S T)
    (goes : ForEachWorldHistory g rows a b (WorldIsRun g rows a b (Insert session entry) answer)) where
  one : ForEachWorldHistory g rows a b (WorldRuns g rows a b (Insert session entry ∷ []) (answer ∷ []))
  one = follow_runs g (Insert session entry) answer (inside rows a) (inside rows b) goes

  -- an insert that has begun and is stepped to this
  pub put_begun : (last : Answer) (c : World S T) → Continues g.follows a.store b.store → Continues g.follows b.store c.store → answer ≡ Begun
      → ForEachWorldHistory g rows b c (IsStepped g rows [] [] session last b c) → ForEachWorldHistory g rows a c (IsSteppedInsert g rows session entry last a c)
  put_begun last c step next begun stepped honest start history calls fits =
      let later = laws.follows_later b.store c.store (next b.store (laws.follows_same b.store)) in
      let r = one (later.honest honest) start history calls fits in
      let t = stepped honest start r.then_history r.then_calls r.ran.fits in
      let runs = runs_then g laws rows (Insert session entry ∷ []) (steps_of session t.count) (answer ∷ []) (answers_to last t.count) a b c step next start history calls r t.runs in
      inl (record {
        count = t.count;
        runs = subst (λ (x : Answer). WorldRuns g rows a c (Insert session entry ∷ steps_of session t.count) (x ∷ answers_to last t.count) start history calls) begun runs;
      })

  -- ... or one that is refused as it begins
  pub put_refused : AnswersBeginning answer → answer ≢ Begun → ForEachWorldHistory g rows a b (IsSteppedInsert g rows session entry answer a b)
  put_refused may not_begun honest start history calls fits = by (begun_or_refused answer may)
    where
      by : (answer ≡ Begun) ⊎ ((fault : Fault) × (answer ≡ Refused fault)) → IsSteppedInsert g rows session entry answer a b start history calls
      by (inl begun) = absurd (not_begun begun)
      by (inr refused) = inr (record { fault = refused.0; refused = refused.1; runs = one honest start history calls fits })
