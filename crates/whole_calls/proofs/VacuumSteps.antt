-- What a bulk delete or a cleanup tells that is run to its end.
use Rattle.std.proofs.Common.{◌≡◌, ◌≢◌, ℕ, suc, Bool, true, false, true≢false, Option, Some, Ok, List, [], ◌∷◌, ◌++◌, length, refl, sym, ap, subst, inl, inr, ◌∙◌, IfOk, IfErr}
use Rattle.whole_calls.proofs.Imports.{append-nil, VacuumStats, ToInsert, ToScan, Circumstances, HasCause, Effect, Add, Action, Vacuumed, Call, Fault, Entry, State, Ghosts, DeadSets, asked_by}
use Rattle.whole_calls.proofs.Imports.{asks_vacuum, IsCaused, MayDo, ended, Answer, Going, Finished, Refused, Request, StoreAndSlots, Moment, here_at, IsOutcomeOf, CallIsRun, CallIsRunFrom}
use Rattle.whole_calls.proofs.Imports.{IsMadeOf, Answered, ComesTo, causes_of_gone, causes_of_asked, causes_of_called, RequestIsRun, StatsCountFor, Followed, of_bulk_delete, FollowsFrom}
use Rattle.whole_calls.proofs.Imports.{StatsCountAs, vacuum_result, vacuum_outcome, IsVacuumed, IsVacuumedSoFar, VacuumMeans, MayAnswer, acts_by, noted_after, AreOwnEffects, CallAnswers}
use Rattle.whole_calls.proofs.Imports.{StepMeans, HasNone, EndMeans, with_one_call, first_call, NextMeans, NothingIsDone}
use Rattle.whole_calls.proofs.Composing.{goes_told}
use Rattle.whole_calls.proofs.Gone.{whole_told}
use Rattle.whole_calls.proofs.Inserting.{ended_none}
use Rattle.whole_calls.proofs.Made.{made_told}
use Rattle.whole_calls.proofs.Refusing.{cause_wider, begun_called, called_wider, stopped_before}
use Rattle.whole_calls.proofs.Tellings.{set_new, came_may}

-- a bulk delete and a cleanup add nothing, so what they do leaves their call as it was
adds_nothing : (sets : DeadSets) (request : Request) → asks_vacuum request ≡ true → (added : Option ℕ) (e : Entry) → MayDo (asked_by sets request) added (Add e) → ⊥
adds_nothing sets (ToInsert x) vacuums added e h = true≢false (sym vacuums)
adds_nothing sets (ToScan range) vacuums added e h = true≢false (sym vacuums)
adds_nothing sets request vacuums added e h = h

as_it_was : (call : Call) (count : ℕ) (effects : List Effect) → ((added : Option ℕ) (e : Entry) → MayDo call.ask added (Add e) → ⊥)
    → AreOwnEffects call count effects → noted_after call count effects ≡ call
as_it_was call count [] none own = refl
as_it_was call count (Add e ∷ effects) none own = absurd (none call.added e own.0)
as_it_was call count (effect ∷ effects) none own = as_it_was call (suc count) effects none own.1

-- what they may have come to
abbrev IsVacuumAnswer : Answer → Type 0
IsVacuumAnswer (Finished stats) = Unit {0}
IsVacuumAnswer (Refused fault) = Unit {0}
IsVacuumAnswer answer = ⊥

vacuum_may : (sets : DeadSets) (request : Request) → asks_vacuum request ≡ true → (answer : Answer) → answer ≢ Going → MayAnswer (asked_by sets request) answer → IsVacuumAnswer answer
vacuum_may sets (ToInsert x) vacuums answer over h = absurd (true≢false (sym vacuums))
vacuum_may sets (ToScan range) vacuums answer over h = absurd (true≢false (sym vacuums))
vacuum_may sets request vacuums (Finished stats) over h = tt
vacuum_may sets request vacuums (Refused fault) over h = tt
vacuum_may sets request vacuums Going over h = absurd (over refl)
vacuum_may sets request vacuums answer over h = absurd h

-- what it answers was answered
pub sweep_made : (sets : DeadSets) (request : Request) → asks_vacuum request ≡ true → {answer : Answer} → answer ≢ Going → MayAnswer (asked_by sets request) answer
    → {S : Type 0} {g : Ghosts S} {session least_room : ℕ} {a b : StoreAndSlots S} → IsMadeOf g session least_room (Answered answer) a b
    → IsMadeOf g session least_room (ComesTo (vacuum_outcome (vacuum_result answer))) a b
sweep_made sets request vacuums {answer} over may made = made_told made (of answer (vacuum_may sets request vacuums answer over may))
  where
    of : (a : Answer) → IsVacuumAnswer a → (answers : List Answer) → Answered a answers → ComesTo (vacuum_outcome (vacuum_result a)) answers
    of (Finished stats) may answers so = so
    of (Refused fault) may answers so = so
    of a may answers so = absurd may

-- what it tells at its end it tells
swept_tells : (Tells : VacuumStats → Type 0) (answer : Answer) → ((stats : VacuumStats) → answer ≡ Finished stats → Tells stats) → IfOk (vacuum_result answer) Tells
swept_tells Tells (Finished stats) h = h stats refl
swept_tells Tells answer h = tt

-- ... and then an end
module _ {S : Type 0} (session : ℕ) (request : Request) (vacuums : asks_vacuum request ≡ true) (x y z : Moment S) (free : HasNone session x) (end : EndMeans session y z) where
  abbrev bulk_delete_call : Call
  bulk_delete_call = first_call session request x

  abbrev begun : Moment S
  begun = with_one_call x bulk_delete_call

  abbrev sweep_number : ℕ
  sweep_number = length x.calls

  finished : (stats : VacuumStats) → CallAnswers sweep_number bulk_delete_call (Finished stats) begun y → IsVacuumed session request stats x z
  finished stats t =
      let w = whole_told sweep_number bulk_delete_call (Finished stats) begun y t in
      let same : t.before ≡ w.effects = w.none_is t.told.none in
      let history : z.history ≡ x.history ++ acts_by sweep_number w.effects = end.history_is ∙ w.history_is in
      let many : length (x.history ++ acts_by sweep_number t.before) ≡ length z.history =
      ap (λ (l : List Effect). length (x.history ++ acts_by sweep_number l)) same ∙ ap (λ (l : List Action). length l) (sym history) in
      let last : Call = ended bulk_delete_call (Vacuumed stats) (length z.history) in
      let after : t.after ≡ last = t.told.after_is
      ∙ ap (λ (c : Call). ended c (Vacuumed stats) (length (x.history ++ acts_by sweep_number t.before)))
      (as_it_was bulk_delete_call (length x.history) t.before (adds_nothing x.sets request vacuums) t.own)
      ∙ ap (λ (n : ℕ). ended bulk_delete_call (Vacuumed stats) n) many in
      let calls : y.calls ≡ x.calls ++ last ∷ [] = t.calls_is ∙ set_new x.calls bulk_delete_call t.after ∙ ap (λ (c : Call). x.calls ++ c ∷ []) after in
      record {
        effects = w.effects;
        own = w.own;
        history_is = history;
        calls_is = end.calls_is (ended_none session x y last free calls (λ e. cc)) ∙ calls;
      }

  refused : (fault : Fault) → StepMeans sweep_number bulk_delete_call (Refused fault) begun y → IsVacuumedSoFar session request x z
  refused fault (inl t) = (let w = whole_told sweep_number bulk_delete_call (Refused fault) begun y t in record { effects = w.effects; own = w.own; history_is = end.history_is ∙ w.history_is })
  refused fault (inr h) = record { effects = h.before; own = h.gone.own; history_is = end.history_is ∙ h.gone.history_is }

  vacuum_told : (answer : Answer) → IsVacuumAnswer answer → NextMeans session request answer x y → VacuumMeans session request (vacuum_result answer) x z
  vacuum_told (Finished stats) may (inl t) = finished stats t
  vacuum_told (Finished stats) may (inr h) = absurd (let e = h.refused in cc)
  vacuum_told (Refused fault) may t = refused fault t
  vacuum_told answer may t = absurd may

-- what it came to was answered
vacuum_came : (answers : List Answer) (answer : Answer) → IsVacuumAnswer answer → IsOutcomeOf answers (Some answer) → IsOutcomeOf answers (vacuum_outcome (vacuum_result answer))
vacuum_came answers (Finished stats) may h = h
vacuum_came answers (Refused fault) may h = h
vacuum_came answers answer may h = absurd may

-- why it is refused
swept_caused : (at : Circumstances) (answer : Answer) → IsVacuumAnswer answer → IsCaused at answer → IfErr (vacuum_result answer) (HasCause at)
swept_caused at (Finished stats) may h = tt
swept_caused at (Refused fault) may h = h
swept_caused at answer may h = absurd may

-- one that was not begun
not_swept : {S : Type 0} (session : ℕ) (request : Request) (fault : Fault) (x y : Moment S) → NothingIsDone fault x y → IsVacuumedSoFar session request x y
not_swept session request fault x y t = record { effects = []; own = tt; history_is = t.silent.history_is ∙ sym (append-nil x.history) }

-- what it counts, by the answer
swept_counts : (what : Followed) (st : State) (answer : Answer) → ((stats : VacuumStats) → answer ≡ Finished stats → StatsCountAs what st (Ok stats)) → StatsCountAs what st (vacuum_result answer)
swept_counts what st (Finished stats) h = h stats refl
swept_counts of_bulk_delete st answer h = tt
swept_counts what st answer h = tt

-- a bulk delete or a cleanup that is run to its end
module _ {S : Type 0} {g : Ghosts S} {session least_room : ℕ} (request : Request) (vacuums : asks_vacuum request ≡ true) {answer : Answer} {added : Option ℕ} (over : answer ≢ Going) where
  may_run : {start : Entry → Bool} {x z : Moment S} → RequestIsRun g session least_room request answer added start x z → IsVacuumAnswer answer
  may_run (inl n) = subst IsVacuumAnswer (sym n.refused) tt
  may_run {x = x} (inr r) =
      vacuum_may x.sets request vacuums answer over (came_may (length x.calls) (first_call session request x) answer (with_one_call x (first_call session request x)) r.here r.told)

  run_told : {start : Entry → Bool} {x z : Moment S} → RequestIsRun g session least_room request answer added start x z → VacuumMeans session request (vacuum_result answer) x z
  run_told {x = x} {z} (inl n) = subst (λ (a : Answer). VacuumMeans session request (vacuum_result a) x z) (sym n.refused) (not_swept session request n.fault x z n.told)
  run_told {x = x} {z} (inr r) = vacuum_told session request vacuums x r.here z r.free r.end answer (may_run (inr r)) r.told

  pub vacuum_goes : {a c : StoreAndSlots S} → CallIsRunFrom g session (RequestIsRun g session least_room request answer added) (Some answer) a c
      → CallIsRun g session (VacuumMeans session request (vacuum_result answer)) (vacuum_outcome (vacuum_result answer)) a c
  vacuum_goes goes = goes_told _ goes (λ start h hc k kc answers fits by t. (vacuum_came answers answer (may_run t) by, run_told t))

  -- what it counts from its beginning on
  pub sweep_counts : (what : Followed) {start : Entry → Bool} {x z : Moment S} → RequestIsRun g session least_room request answer added start x z
      → FollowsFrom what request (g.state x.store) session → StatsCountAs what (g.state z.store) (vacuum_result answer)
  sweep_counts what {z = z} (inl n) follows = swept_counts what (g.state z.store) answer (λ stats is. absurd (let e = n.refused in cc))
  sweep_counts what {z = z} (inr r) follows = swept_counts what (g.state z.store) answer (λ stats is. r.counts what stats follows is)

  pub vacuum_tells : {start : Entry → Bool} {x z : Moment S} → RequestIsRun g session least_room request answer added start x z
      → IfOk (vacuum_result answer) (StatsCountFor (asked_by x.sets request) (g.state z.store))
  vacuum_tells {x = x} {z} (inl n) = swept_tells (StatsCountFor (asked_by x.sets request) (g.state z.store)) answer (λ stats is. absurd (let e = n.refused in cc))
  vacuum_tells {x = x} {z} (inr r) = swept_tells (StatsCountFor (asked_by x.sets request) (g.state z.store)) answer r.stats

  pub sweep_caused : {start : Entry → Bool} {x z : Moment S} → RequestIsRun g session least_room request answer added start x z
      → IfErr (vacuum_result answer) (HasCause (causes_of_called g session request (here_at x) (causes_of_gone g session least_room false (here_at x) z.store)))
  sweep_caused {x = x} {z} (inl n) =
      subst (λ (a : Answer). IfErr (vacuum_result a) (HasCause (causes_of_called g session request (here_at x) (causes_of_gone g session least_room false (here_at x) z.store)))) (sym n.refused)
      (begun_called g session request (here_at x) (causes_of_gone g session least_room false (here_at x) z.store) (stopped_before g session least_room false (here_at x) z.store) n.fault n.cause)
  sweep_caused {x = x} {z} (inr r) =
      swept_caused _ answer (may_run (inr r))
      (cause_wider (causes_of_gone g session least_room false (here_at x) z.store) _
      (called_wider g session request (here_at x) (causes_of_gone g session least_room false (here_at x) z.store) refl refl refl) answer (gone_of request vacuums r.caused))
    where
      gone_of : (req : Request) → asks_vacuum req ≡ true
          → IsCaused (causes_of_asked g session least_room (Some (g.state x.store).begun) false (asked_by x.sets req) (here_at x) z.store) answer
          → IsCaused (causes_of_gone g session least_room false (here_at x) z.store) answer
      gone_of (ToInsert e) vac h = absurd (true≢false (sym vac))
      gone_of (ToScan range) vac h = absurd (true≢false (sym vac))
      gone_of req vac h = h
