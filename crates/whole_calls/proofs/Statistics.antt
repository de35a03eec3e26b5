-- What a bulk delete or a cleanup that has finished tells of the pages.
use Rattle.std.proofs.Common.{◌≡◌, ℕ, zero, suc, ◌+◌, Bool, Option, Some, None, List, length, refl, sym, ap, subst, ◌∙◌, if◌then◌else◌, unwrap_or}
use Rattle.whole_calls.proofs.Imports.{VacuumStats, is_deleted, deleted_count, AnswersStep, CountsStats, CountsFree, RunsUntilLast, reusable_in, Insert, Scan, Bulk, Cleanup, Ask, Call, Entry}
use Rattle.whole_calls.proofs.Imports.{State, Ghosts, Page, DeadSets, asked_of, AnswerMeans, Answer, Finished, Op, Moment, EventDoes, Fits, slot_of, MovesCall, Steps, CallMoves, MovesOn}
use Rattle.whole_calls.proofs.Imports.{FinishCounts, StatsCountPages, StatsCountFor}
use Rattle.whole_calls.proofs.Refusing.{quiet_pages}
use Rattle.whole_calls.proofs.Tellings.{runs_in_slot, runs_has_call, one_runs}

-- how many pages are deleted is of the pages alone
deleted_on : (old new : State) (n : ℕ) → new.pages ≡ old.pages → deleted_count new n ≡ deleted_count old n
deleted_on old new zero same = refl
deleted_on old new (suc block) same =
    ap (λ (ps : List Page). (if is_deleted ps block then 1 else 0) + deleted_count new block) same ∙ ap (λ (k : ℕ). (if is_deleted old.pages block then 1 else 0) + k) (deleted_on old new block same)

pages_on : (old new : State) (stats : VacuumStats) → new.pages ≡ old.pages → stats.num_pages ≡ length old.pages
    → stats.pages_deleted ≡ deleted_count old (length old.pages) → stats.pages_free ≡ reusable_in new → StatsCountPages new stats
pages_on old new stats same in_use deleted free = record {
  in_use = in_use ∙ ap (λ (ps : List Page). length ps) (sym same);
  deleted = deleted ∙ sym (deleted_on old new (length old.pages) same) ∙ ap (λ (ps : List Page). deleted_count new (length ps)) (sym same);
  free = free;
}

-- what is told after the step, by what the session ran before it
told_by : (sets : DeadSets) (old new : State) (op : Op) (after : Option Op) (stats : VacuumStats) → new.pages ≡ old.pages
    → AnswersStep (Some op) after (Finished stats) → CountsStats old (Some op) (Finished stats)
    → CountsFree new (Some op) (Finished stats) → StatsCountFor (asked_of sets op) new stats
told_by sets old new (Insert op) after stats same kind h free = absurd kind
told_by sets old new (Scan op) after stats same kind h free = absurd kind
told_by sets old new (Bulk set op) after stats same kind h free = (
  pages_on old new stats same (ap (λ (s : VacuumStats). s.num_pages) h) (ap (λ (s : VacuumStats). s.pages_deleted) h) free,
  ap (λ (s : VacuumStats). s.pages_newly_deleted) h,
)
told_by sets old new (Cleanup op) after stats same kind h free = (
  pages_on old new stats same (ap (λ (s : VacuumStats). s.num_pages) h) (ap (λ (s : VacuumStats). s.pages_deleted) h) free,
  ap (λ (s : VacuumStats). s.tuples_removed) h,
)

-- a step of the session's call that finishes
pub finish_tells : {S : Type 0} (g : Ghosts S) (start : Entry → Bool) (session : ℕ) (answer : Answer) (x y : Moment S) → Fits g start x
    → EventDoes g start (MovesCall session Steps) answer x y → FinishCounts g session answer x y
finish_tells g start session answer x y fits does number call is stats finished =
    let r = runs_in_slot g start x fits session number call is in
    let same : r.2.call ≡ call = (one_runs g start x fits session number r.2.number call r.2.call is r.2.is).1 in
    let slot : slot_of x.slots session ≡ Some r.0 = ap (λ (o : Option (Option Op)). unwrap_or o None) r.1 in
    let ask : asked_of x.sets r.0 ≡ call.ask = sym r.2.runs.ask ∙ ap (λ (c : Call). c.ask) same in
    let goes : CallMoves g start session answer x y = subst (λ (b : Bool). MovesOn g start b session answer x y) (runs_has_call g start x fits session number call is) does.also.happens in
    let none : goes.effect ≡ None = (subst (λ (a : Answer). AnswerMeans a (length x.history) goes.effect goes.call goes.after) finished goes.told).none in
    let kind = subst (λ (a : Answer). AnswersStep (Some r.0) (slot_of y.slots session) a) finished
    (subst (λ (o : Option Op). AnswersStep o (slot_of y.slots session) answer) slot does.also.always.answers) in
    let told = subst (λ (a : Answer). CountsStats (g.state x.store) (Some r.0) a) finished (subst (λ (o : Option Op). CountsStats (g.state x.store) o answer) slot does.also.always.tells.stats) in
    let free = subst (λ (a : Answer). CountsFree (g.state y.store) (Some r.0) a) finished (subst (λ (o : Option Op). CountsFree (g.state y.store) o answer) slot does.also.followed.fitted.frees) in
    subst (λ (a : Ask). StatsCountFor a (g.state y.store) stats) ask
    (told_by x.sets (g.state x.store) (g.state y.store) r.0 (slot_of y.slots session) stats (quiet_pages g start session answer x y does goes none) kind told free)

finished_over : (before after : Option Op) (stats : VacuumStats) → RunsUntilLast before after (Finished stats) → after ≡ None
finished_over before None stats h = refl
finished_over None (Some op) stats h = absurd cc
finished_over (Some was) (Some op) stats h = absurd cc

-- ... runs nothing after it
pub finish_over : {S : Type 0} (g : Ghosts S) (start : Entry → Bool) (session : ℕ) (answer : Answer) (x y : Moment S)
    → EventDoes g start (MovesCall session Steps) answer x y → (stats : VacuumStats) → answer ≡ Finished stats
    → slot_of y.slots session ≡ None
finish_over g start session answer x y does stats finished =
    finished_over (slot_of x.slots session) (slot_of y.slots session) stats
    (subst (λ (a : Answer). RunsUntilLast (slot_of x.slots session) (slot_of y.slots session) a) finished does.also.always.until_last)
