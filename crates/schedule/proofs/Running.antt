-- Runs that go on by one event.
use Rattle.std.proofs.Common.{ℕ, ◌≤◌, Bool, List, [], ◌∷◌, ◌++◌, refl, sym, subst, arith, append_assoc}
use Rattle.schedule.proofs.Imports.{append-nil, Entry, Ghosts, Answer, Begun, Going, Added, Ready, Done, Finished, Gave, Ended, Forced, Flushed, Checkpointed, Refused, StoreAndSlots, Moment}
use Rattle.schedule.proofs.Imports.{snapshot_of, EventDoes, EventEffect, EachAlways, EventAlways, Fits, kind_of, IsDurable, AreDurable, EventIsRun, IsRun, Ran, ForEachHistory, Runs, EventFollows}
use Rattle.schedule.proofs.Imports.{Event}
use Rattle.schedule.proofs.Keeping.{Laws, safe, keeps_on}
use Rattle.schedule.proofs.Fitting.{fits_after, goes_does, matches_of}

pub durable_more : (few many : ℕ) (answer : Answer) → few ≤ many → IsDurable few answer → IsDurable many answer
durable_more few many Begun le h = tt
durable_more few many Going le h = tt
durable_more few many (Added a u) le h = tt
durable_more few many (Ready r) le h = tt
durable_more few many Done le h = tt
durable_more few many (Finished s) le h = tt
durable_more few many (Gave g) le h = tt
durable_more few many Ended le h = tt
durable_more few many (Forced n) le h = omega arith
durable_more few many (Flushed b) le h = tt
durable_more few many (Checkpointed n) le h = omega arith
durable_more few many (Refused f) le h = tt

all_durable : (few many : ℕ) (answers : List Answer) (answer : Answer) → few ≤ many → AreDurable few answers → IsDurable many answer → AreDurable many (answers ++ answer ∷ [])
all_durable few many [] answer le h last = (last, tt)
all_durable few many (x ∷ xs) answer le h last = (durable_more few many x le h.0, all_durable few many xs answer le h.1 last)

run_more : {S : Type 0} (g : Ghosts S) (start : Entry → Bool) (told : List Answer) (events : List Event) (answers : List Answer) (event : Event) (answer : Answer) (first mid last : Moment S)
    → IsRun g start told events answers first mid → AreDurable (g.backing mid.store).durable (told ++ answers) → EventIsRun g start event answer mid last
    → IsRun g start told (events ++ event ∷ []) (answers ++ answer ∷ []) first last
run_more {S} g start told [] [] event answer first mid last run durable goes =
    subst (λ (m : Moment S). IsRun g start told (event ∷ []) (answer ∷ []) m last) (sym run)
    (subst (λ (l : List Answer). AreDurable (g.backing mid.store).durable l) (append-nil told) durable, (last, goes, refl))
run_more g start told (x ∷ xs) (y ∷ ys) event answer first mid last run durable goes = (
  run.0,
  (
    run.1.0,
    run.1.1,
    run_more g start (told ++ y ∷ []) xs ys event answer run.1.0 mid last run.1.2
        (subst (λ (l : List Answer). AreDurable (g.backing mid.store).durable l) (sym (append_assoc told (y ∷ []) ys)) durable) goes,
  ),
)
run_more g start told [] (y ∷ ys) event answer first mid last run durable goes = absurd run
run_more g start told (x ∷ xs) [] event answer first mid last run durable goes = absurd run

-- one event, with what a crash leaves, if it follows
pub event_goes : {S : Type 0} (g : Ghosts S) (laws : Laws g) (start : Entry → Bool) (event : Event) (answer : Answer) (old new : Moment S) → Fits g start old
    → EventDoes g start (kind_of event) answer old new → EventIsRun g start event answer old new
event_goes g laws start event answer old new fits does = record {
  means = does.means;
  also = does.also;
  crash = λ keeps. safe g laws start old new does.also.follows keeps.own (matches_of (fits_after does))
      (keeps_on g laws start old new does.also.follows does.also.quiet.format does.also.grows fits.explains.count (matches_of (fits_after does)) keeps);
}

-- one event is a run
pub one_ran : {S : Type 0} (g : Ghosts S) (start : Entry → Bool) (event : Event) (answer : Answer) (old new : Moment S)
    → EventIsRun g start event answer old new → Ran g start (event ∷ []) (answer ∷ []) old new
one_ran g start event answer old new goes = record {
  run = (tt, (new, goes, refl));
  fits = fits_after (goes_does goes);
  acknowledged = (goes.also.durable, tt);
  follows = goes.also.follows;
  crash = goes.crash;
}

-- what an event of a kind makes follows
pub makes_follow : {S : Type 0} (g : Ghosts S) (laws : Laws g) (event : Event) (answer : Answer) (old new : StoreAndSlots S) → EventEffect g (kind_of event) answer old new
    → ForEachHistory g old new (EventFollows g old new event answer)
makes_follow g laws event answer old new makes honest start history calls fits =
    let d = makes.does honest start history calls fits in
    record {
      then_history = d.then_history;
      then_calls = d.then_calls;
      goes = event_goes g laws start event answer (snapshot_of old history calls) (snapshot_of new d.then_history d.then_calls) fits d.does;
      fits = fits_after d.does;
    }

-- an event that follows is a run of it
pub follow_runs : {S : Type 0} (g : Ghosts S) (event : Event) (answer : Answer) (old new : StoreAndSlots S) → ForEachHistory g old new (EventFollows g old new event answer)
    → ForEachHistory g old new (Runs g old new (event ∷ []) (answer ∷ []))
follow_runs g event answer old new follow honest start history calls fits =
    let d = follow honest start history calls fits in
    record {
      then_history = d.then_history;
      then_calls = d.then_calls;
      ran = one_ran g start event answer (snapshot_of old history calls) (snapshot_of new d.then_history d.then_calls) d.goes;
    }

-- what an event of a kind makes is a run of it
pub makes_runs : {S : Type 0} (g : Ghosts S) (laws : Laws g) (event : Event) (answer : Answer) (old new : StoreAndSlots S) → EventEffect g (kind_of event) answer old new
    → ForEachHistory g old new (Runs g old new (event ∷ []) (answer ∷ []))
makes_runs g laws event answer old new makes = follow_runs g event answer old new (makes_follow g laws event answer old new makes)

-- a run goes on by one event
pub ran_more : {S : Type 0} (g : Ghosts S) (laws : Laws g) (start : Entry → Bool) (events : List Event) (answers : List Answer) (event : Event) (answer : Answer) (first mid last : Moment S)
    → g.follows first.store last.store → Ran g start events answers first mid → Ran g start (event ∷ []) (answer ∷ []) mid last → Ran g start (events ++ event ∷ []) (answers ++ answer ∷ []) first last
ran_more {S} g laws start events answers event answer first mid last follows ran one =
    let goes : EventIsRun g start event answer mid last = subst (λ (m : Moment S). EventIsRun g start event answer mid m) one.run.1.2 one.run.1.1 in
    record {
      run = run_more g start [] events answers event answer first mid last ran.run ran.acknowledged goes;
      fits = one.fits;
      acknowledged = all_durable (g.backing mid.store).durable (g.backing last.store).durable answers answer
          (laws.follows_later mid.store last.store one.follows).durable ran.acknowledged one.acknowledged.0;
      follows = follows;
      crash = λ keeps. safe g laws start first last follows keeps.own (matches_of one.fits) (one.crash (ran.crash keeps).keeps).keeps;
    }

-- what always holds of each event of a list, with one event more
pub always_more : {S : Type 0} (g : Ghosts S) (events : List Event) (answers : List Answer) (event : Event) (answer : Answer) (first mid last : StoreAndSlots S)
    → EachAlways g events answers first mid → g.follows mid.store last.store → EventAlways g (kind_of event) answer mid last
    → EachAlways g (events ++ event ∷ []) (answers ++ answer ∷ []) first last
always_more {S} g [] [] event answer first mid last each follows always =
    subst (λ (m : StoreAndSlots S). EachAlways g (event ∷ []) (answer ∷ []) m last) (sym each) (last, follows, always, refl)
always_more g (x ∷ xs) (y ∷ ys) event answer first mid last each follows always =
    (each.0, each.1, each.2, always_more g xs ys event answer each.0 mid last each.3 follows always)
always_more g [] (y ∷ ys) event answer first mid last each follows always = absurd each
always_more g (x ∷ xs) [] event answer first mid last each follows always = absurd each

-- a run of no event
pub none_ran : {S : Type 0} (g : Ghosts S) (laws : Laws g) (start : Entry → Bool) (now : Moment S) → Fits g start now → Ran g start [] [] now now
none_ran g laws start now fits = record {
  run = refl;
  fits = fits;
  acknowledged = tt;
  follows = laws.follows_same now.store;
  crash = λ keeps. safe g laws start now now (laws.follows_same now.store) keeps.own (matches_of fits) keeps;
}
