-- The parts of a moment that fits, session by session, and a moment that fits from such parts.
use Rattle.std.proofs.Common.{◌≡◌, ℕ, zero, suc, ◌<◌, ◌≤◌, Bool, true, Option, Some, None, List, [], ◌∷◌, length, slice_get, refl, sym, subst, arith}
use Rattle.schedule.proofs.Imports.{KeysDiffer, is_there_after, Call, Meets, ActionsAreOwned, Entry, Ghosts, Matches, OpRuns, IsIdle, OpDeletions, Answer, Op, Moment, RunsOne, IsRunningCall}
use Rattle.schedule.proofs.Imports.{HasOneCall, SlotRuns, SlotMatches, OneVacuums, Kind, kind_of, Fits, EventIsRun, EventDoes, Event}
use Rattle.schedule.proofs.Keys.{keyed_now}
use Rattle.schedule.proofs.Lists.{get_within, same_some}

-- if a list has nothing at a place, it is no longer than that
pub none_beyond : {X : Type 0} (xs : List X) (i : ℕ) → slice_get xs i ≡ None → length xs ≤ i
none_beyond [] i h = omega arith
none_beyond (x ∷ xs) zero h = absurd cc
none_beyond (x ∷ xs) (suc i) h = let le : length xs ≤ i = none_beyond xs i h in omega arith

-- the parts of a moment that fits, session by session
pub record Parts {S : Type 0} (g : Ghosts S) (start : Entry → Bool) (now : Moment S) : Type 0 where
  pub matches : Matches (g.state now.store) start now.history
  pub unique : (g.state now.store).format.unique ≡ true → (k : ℕ) → KeysDiffer (is_there_after start now.history k)
  pub running : (session : ℕ) (slot : Option Op) → slice_get now.slots session ≡ Some slot → SlotMatches g start now session slot
  pub vacuums : OneVacuums (g.state now.store) now.slots
  pub beyond : (session : ℕ) → length now.slots ≤ session → IsIdle (g.state now.store) session
  pub known : (number : ℕ) (call : Call) → slice_get now.calls number ≡ Some call → call.session < length now.slots
  pub meets : (number : ℕ) (call : Call) → slice_get now.calls number ≡ Some call → Meets start now.history number call
  pub owned : ActionsAreOwned start now.history now.calls

pub matches_of : {S : Type 0} {g : Ghosts S} {start : Entry → Bool} {now : Moment S} → Fits g start now → Matches (g.state now.store) start now.history
matches_of fits = record { contents = fits.explains.contents; count = fits.explains.count; order = fits.invariant.order; starts = fits.invariant.starts }

-- a session is free, or has what its running call runs
pub running_of : {S : Type 0} {g : Ghosts S} {start : Entry → Bool} {now : Moment S} → Fits g start now
    → (session : ℕ) (slot : Option Op) → slice_get now.slots session ≡ Some slot → SlotMatches g start now session slot
running_of {S} {g} {start} {now} fits session None at = record {
  none = λ number call is. (
      let runs = fits.explains.run session number call is in
      let found : slice_get now.slots session ≡ Some (Some runs.0) = runs.1 in cc);
  idle = fits.invariant.idle session (λ runs. (let found : slice_get now.slots session ≡ Some (Some runs.0) = runs.1 in cc));
}
running_of {S} {g} {start} {now} fits session (Some op) at =
    let one = fits.explains.running session (op, at) in
    let runs = fits.invariant.runs session one.number one.call op at one.is in
    record { number = one.number; call = one.call; is = one.is; only = one.only; runs = runs.0; deletions = runs.1 }

-- a session that isn't there holds nothing
pub beyond_of : {S : Type 0} {g : Ghosts S} {start : Entry → Bool} {now : Moment S} → Fits g start now
    → (session : ℕ) → length now.slots ≤ session → IsIdle (g.state now.store) session
beyond_of {S} {g} {start} {now} fits session far =
    fits.invariant.idle session (λ runs. (let within : session < length now.slots = get_within now.slots session (Some runs.0) runs.1 in omega arith))

module _ {S : Type 0} (g : Ghosts S) (start : Entry → Bool) (now : Moment S)
    (running : (session : ℕ) (slot : Option Op) → slice_get now.slots session ≡ Some slot → SlotMatches g start now session slot)
    (beyond : (session : ℕ) → length now.slots ≤ session → IsIdle (g.state now.store) session)
    (known : (number : ℕ) (call : Call) → slice_get now.calls number ≡ Some call → call.session < length now.slots) where
  one_call : (session : ℕ) → RunsOne now.slots session → HasOneCall now.calls session
  one_call session runs =
      let h : SlotRuns g start now session runs.0 = running session (Some runs.0) runs.1 in
      record { number = h.number; call = h.call; is = h.is; only = h.only }

  runs_one : (session number : ℕ) (call : Call) → IsRunningCall now.calls session number call → RunsOne now.slots session
  runs_one session number call is = of (slice_get now.slots session) refl
    where
      of : (o : Option (Option Op)) → slice_get now.slots session ≡ o → RunsOne now.slots session
      of None at = absurd (
          let far : length now.slots ≤ session = none_beyond now.slots session at in
          let there : call.session < length now.slots = known number call is.found in
          let same : call.session ≡ session = is.session_is in omega arith)
      of (Some None) at = absurd ((running session None at).none number call is)
      of (Some (Some op)) at = (op, at)

  runs_it : (session number : ℕ) (call : Call) (op : Op) → slice_get now.slots session ≡ Some (Some op) → IsRunningCall now.calls session number call
      → OpRuns (g.state now.store) now.sets start now.history call op × OpDeletions (g.state now.store) now.sets start now.history number call.began op
  runs_it session number call op at is =
      let h : SlotRuns g start now session op = running session (Some op) at in
      let number_is : number ≡ h.number = h.only number call is in
      let call_is : call ≡ h.call = same_some (slice_get now.calls h.number) call h.call (subst (λ (i : ℕ). slice_get now.calls i ≡ Some call) number_is is.found) h.is.found in
      subst (λ (c : Call). OpRuns (g.state now.store) now.sets start now.history c op × OpDeletions (g.state now.store) now.sets start now.history number c.began op) (sym call_is)
      (subst (λ (i : ℕ). OpRuns (g.state now.store) now.sets start now.history h.call op × OpDeletions (g.state now.store) now.sets start now.history i h.call.began op) (sym number_is)
      (h.runs, h.deletions))

  idle_at : (session : ℕ) → (RunsOne now.slots session → ⊥) → IsIdle (g.state now.store) session
  idle_at session none = of (slice_get now.slots session) refl
    where
      of : (o : Option (Option Op)) → slice_get now.slots session ≡ o → IsIdle (g.state now.store) session
      of None at = beyond session (none_beyond now.slots session at)
      of (Some None) at = (running session None at).idle
      of (Some (Some op)) at = absurd (none (op, at))

-- a moment fits that has these parts
pub fits_from : {S : Type 0} {g : Ghosts S} {start : Entry → Bool} {now : Moment S} → Parts g start now → Fits g start now
fits_from {S} {g} {start} {now} parts = record {
  explains = record {
    contents = parts.matches.contents;
    count = parts.matches.count;
    tree = parts.matches.order.tree.tree;
    keyed = keyed_now (g.state now.store) start now.history parts.matches;
    unique = parts.unique;
    running = one_call g start now parts.running parts.beyond parts.known;
    run = runs_one g start now parts.running parts.beyond parts.known;
    known = parts.known;
    meets = parts.meets;
    owned = parts.owned;
  };
  invariant = record {
    order = parts.matches.order;
    starts = parts.matches.starts;
    runs = runs_it g start now parts.running parts.beyond parts.known;
    idle = idle_at g start now parts.running parts.beyond parts.known;
    vacuums = parts.vacuums;
  };
}

-- what fits after an event
pub fits_after : {S : Type 0} {g : Ghosts S} {start : Entry → Bool} {kind : Kind} {answer : Answer} {old new : Moment S} → EventDoes g start kind answer old new → Fits g start new
fits_after does = record { explains = does.means.explains; invariant = does.also.invariant }

pub goes_does : {S : Type 0} {g : Ghosts S} {start : Entry → Bool} {event : Event} {answer : Answer} {old new : Moment S}
    → EventIsRun g start event answer old new → EventDoes g start (kind_of event) answer old new
goes_does goes = record { means = goes.means; also = goes.also }
