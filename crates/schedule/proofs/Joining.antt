-- A run followed by a run is a run.
use Rattle.std.proofs.Common.{ℕ, ◌≤◌, Bool, List, [], ◌∷◌, ◌++◌, sym, subst, append_assoc}
use Rattle.schedule.proofs.Imports.{append-nil, Entry, Ghosts, Answer, Moment, AreOf, AreDurable, IsRun, Ran, Event}
use Rattle.schedule.proofs.Keeping.{Laws, safe}
use Rattle.schedule.proofs.Running.{durable_more}
use Rattle.schedule.proofs.Fitting.{matches_of}

are_durable_more : (few many : ℕ) (answers : List Answer) → few ≤ many → AreDurable few answers → AreDurable many answers
are_durable_more few many [] le h = tt
are_durable_more few many (x ∷ xs) le h = (durable_more few many x le h.0, are_durable_more few many xs le h.1)

both_durable : (durable : ℕ) (one two : List Answer) → AreDurable durable one → AreDurable durable two → AreDurable durable (one ++ two)
both_durable durable [] two h k = k
both_durable durable (x ∷ xs) two h k = (h.0, both_durable durable xs two h.1 k)

-- a run is one after more answers, if they were durable before it
run_after : {S : Type 0} (g : Ghosts S) (start : Entry → Bool) (before told : List Answer) (events : List Event) (answers : List Answer) (first last : Moment S)
    → AreDurable (g.backing first.store).durable before → IsRun g start told events answers first last → IsRun g start (before ++ told) events answers first last
run_after g start before told [] [] first last durable run = run
run_after g start before told (x ∷ xs) (y ∷ ys) first last durable run = (
  both_durable (g.backing first.store).durable before told durable run.0,
  (
    run.1.0,
    run.1.1,
    subst (λ (t : List Answer). IsRun g start t xs ys run.1.0 last) (sym (append_assoc before told (y ∷ [])))
        (run_after g start before (told ++ y ∷ []) xs ys run.1.0 last
        (are_durable_more (g.backing first.store).durable (g.backing (run.1.0).store).durable before run.1.1.also.later.durable durable) run.1.2),
  ),
)
run_after g start before told [] (y ∷ ys) first last durable run = absurd run
run_after g start before told (x ∷ xs) [] first last durable run = absurd run

run_then : {S : Type 0} (g : Ghosts S) (start : Entry → Bool) (told : List Answer) (events then_events : List Event) (answers then_answers : List Answer) (first mid last : Moment S)
    → IsRun g start told events answers first mid → IsRun g start (told ++ answers) then_events then_answers mid last
    → IsRun g start told (events ++ then_events) (answers ++ then_answers) first last
run_then {S} g start told [] more [] then_answers first mid last run next =
    subst (λ (m : Moment S). IsRun g start told more then_answers m last) (sym run)
    (subst (λ (t : List Answer). IsRun g start t more then_answers mid last) (append-nil told) next)
run_then g start told (x ∷ xs) more (y ∷ ys) then_answers first mid last run next = (
  run.0,
  (
    run.1.0,
    run.1.1,
    run_then g start (told ++ y ∷ []) xs more ys then_answers run.1.0 mid last run.1.2
        (subst (λ (t : List Answer). IsRun g start t more then_answers mid last) (sym (append_assoc told (y ∷ []) ys)) next),
  ),
)
run_then g start told [] more (y ∷ ys) then_answers first mid last run next = absurd run
run_then g start told (x ∷ xs) more [] then_answers first mid last run next = absurd run

-- a run followed by a run is a run, with all that holds at its end
pub ran_then : {S : Type 0} (g : Ghosts S) (laws : Laws g) (start : Entry → Bool) (events then_events : List Event) (answers then_answers : List Answer) (first mid last : Moment S)
    → g.follows first.store last.store → Ran g start events answers first mid → Ran g start then_events then_answers mid last
    → Ran g start (events ++ then_events) (answers ++ then_answers) first last
ran_then {S} g laws start events then_events answers then_answers first mid last follows one two = record {
  run = run_then g start [] events then_events answers then_answers first mid last one.run
      (subst (λ (t : List Answer). IsRun g start t then_events then_answers mid last) (append-nil answers)
      (run_after g start answers [] then_events then_answers mid last one.acknowledged two.run));
  fits = two.fits;
  follows = follows;
  acknowledged = both_durable (g.backing last.store).durable answers then_answers
      (are_durable_more (g.backing mid.store).durable (g.backing last.store).durable answers (laws.follows_later mid.store last.store two.follows).durable one.acknowledged) two.acknowledged;
  crash = λ keeps. safe g laws start first last follows keeps.own (matches_of two.fits) (two.crash (one.crash keeps).keeps).keeps;
}

-- events of one session followed by events of it are all of it
pub are_of_both : (session : ℕ) (events more : List Event) → AreOf session events → AreOf session more → AreOf session (events ++ more)
are_of_both session [] more h k = k
are_of_both session (x ∷ xs) more h k = (h.0, are_of_both session xs more h.1 k)
