-- A set that is put, and the call that begins with it.
use mathlib.Core.Logic.{∥∥₁_elim}
use Rattle.std.proofs.Common.{◌≡◌, ℕ, zero, suc, Bool, true, false, List, [], ◌∷◌, length, map, Option, Some, unwrap_or, slice_get, slice_set, refl, ap, ◌∙◌, subst, arith}
use Rattle.std.proofs.Math.Nat.{ℕ_set}
use Rattle.std.proofs.lemmas.List.{length-map}
use Rattle.index_model.specs.Row.{Row}
use Rattle.index_model.specs.declared.dead_rows.DeadRows.{Ghosts as SetGhosts}
use Rattle.index_model.specs.declared.fault.Fault.{Fault}
use Rattle.index_model.specs.declared.fault.Fault.TheVariants.{NoSession, VacuumRunning}
use Rattle.page_action.specs.declared.page_store.PageStore.{Ghosts}
use Rattle.session_calls.specs.declared.answer.Answer.{Answer}
use Rattle.session_seats.specs.Calls.{completed_of}
use Rattle.session_seats.specs.declared.job.Job.{Job}
use Rattle.session_seats.specs.declared.seating.SessionView.{SessionView}
use Rattle.world.specs.Sets.{IsNotPutFor}
use Rattle.world.specs.Worlds.{inside}
use Rattle.world.specs.declared.world.World.{World}
use Rattle.shared_world.specs.Handed.{ComesOf, Handed, SetsGo}
use Rattle.shared_world.specs.Leaving.{LeavesCall, call_begun}
use Rattle.shared_index.specs.Sessions.{HoldBegins, IsNotPut}

-- a call that is over as it begins
pub begins_over : (asked : Job) (rows : List Row) (over : Bool) {session from seen to : ℕ} {answer : Answer} {k l u v : SessionView} → LeavesCall session over (call_begun asked rows from seen) answer to k l u v → over ≡ true
    → HoldBegins asked rows (Some answer) u v
begins_over asked rows false leaves ends = absurd (cc)
begins_over asked rows true {session} {from} {seen} {to} {answer} {k} leaves ends = record {
  call = call_begun asked rows from seen;
  asked_is = refl;
  rows_are = refl;
  leaves = (
    leaves.call,
    record { place = length k.log; call = completed_of session (call_begun asked rows from seen) answer to; calls_are = leaves.calls; asked_is = refl; rows_are = refl; answer_is = refl },
  );
}

got : {T : Type 0} (is_in : T → Row → Bool) (old : List T) (at : ℕ) (was set : T) → slice_get old at ≡ Some was → unwrap_or (slice_get (map is_in (slice_set old at set)) at) (λ row. false) ≡ is_in set
got is_in [] at was set there = absurd cc
got is_in (x ∷ xs) zero was set there = refl
got is_in (x ∷ xs) (suc at) was set there = got is_in xs at was set there

-- the set that is named there once it was put
pub put_is_named : {T : Type 0} (is_in : T → Row → Bool) (old new : List T) (at : ℕ) (was set : T) → slice_get old at ≡ Some was → new ≡ slice_set old at set → unwrap_or (slice_get (map is_in new) at) (λ row. false) ≡ is_in set
put_is_named is_in old new at was set there put = ap (λ l. unwrap_or (slice_get (map is_in l) at) (λ row. false)) put ∙ got is_in old at was set there

none_left : {A : Type 0} (l : List A) → length l ≡ 0 → l ≡ []
none_left [] e = refl
none_left (x ∷ xs) e = absurd cc

-- why it isn't put, as a session is told
pub not_put_for : {S T : Type 0} (g : Ghosts S) (rows : SetGhosts T) (handed : Handed) (start : ℕ) (world : World S T) (fault : Fault) → handed.spare ≡ Some 0 → ∥ ComesOf g handed start (inside rows world) ∥₁
    → IsNotPutFor g fault 0 world → IsNotPut handed fault
not_put_for g rows handed start world NoSession spare comes h =
    let as_many : length (map rows.is_in world.sets.items) ≡ length handed.sets = ∥∥₁_elim comes (ℕ_set (length (map rows.is_in world.sets.items)) (length handed.sets))
    (λ c. (subst (λ (o : Option ℕ). SetsGo o handed.sets (inside rows world).sets) spare c.sets_are).0) in
    let long = length-map world.sets.items rows.is_in in
    none_left handed.sets (omega (arith, as_many, long, h))
not_put_for g rows handed start world VacuumRunning spare comes h = tt
not_put_for g rows handed start world fault spare comes h = absurd h
