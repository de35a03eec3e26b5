-- The steps of a cleanup over histories.
use Rattle.std.proofs.Common.{◌≡◌, ℕ, suc, Bool, true, false, true≢false, if◌then◌else◌, Option, Some, None, List, length, refl, sym, ap, subst, arith}
use Rattle.page_delete.specs.Cleanups.{CleanupContinues, CleanupEnds, CleanupStays, causes_of_cleaning}
use Rattle.session_calls.proofs.Imports.{append-nil, Effect, Add, Remove, Shape, Action, contents_after, Ask, AskCleanup, Vacuumed, Call, AnswersRight, Meets, Circumstances, HasCause, Entry}
use Rattle.session_calls.proofs.Imports.{Fault, VacuumStats, State, Backing, DeletesLeaves, IsCleaned, CleanupOp, PinnedLeafPagesStay, ends_call, DeadSets, causes_of_stepped, CallFits, IsAsked}
use Rattle.session_calls.proofs.Imports.{add_after, ended, OpEvent, slot_after, SlotIsCounted, Going, Finished, Refused, Cleanup}
use Rattle.session_calls.proofs.Effects.{works_cleaning, works_nothing}
use Rattle.session_calls.proofs.Going.{step_goes_on, step_is_refused}
use Rattle.session_calls.proofs.Meeting.{began_before}

-- what a cleanup does it was asked for, and none of it is an Add
may_do : (was_there : Entry → Bool) (added : Option ℕ) (old new : State) (effect : Option Effect) → DeletesLeaves effect old new → IsAsked was_there AskCleanup added effect
may_do was_there added old new None h = tt
may_do was_there added old new (Some (Add e)) h = absurd h
may_do was_there added old new (Some (Remove es)) h = absurd h
may_do was_there added old new (Some Shape) h = (tt, tt)

none_added : (action : ℕ) (old new : State) (effect : Option Effect) → DeletesLeaves effect old new → None ≡ add_after None action effect
none_added action old new None h = refl
none_added action old new (Some (Add e)) h = absurd h
none_added action old new (Some (Remove es)) h = absurd h
none_added action old new (Some Shape) h = refl

-- what it has cleaned, if it is refused
pub cleaned_still : (sets : DeadSets) (st : State) (op : CleanupOp) (fault : Fault) → IsCleaned st op → SlotIsCounted sets st (slot_after (Refused fault) (Cleanup op))
cleaned_still sets st op fault h = by (ends_call fault)
  where
    by : (b : Bool) → SlotIsCounted sets st (if b then None else Some (Cleanup op))
    by true = tt
    by false = h

module _ {sets : DeadSets} (old new : State) (first second : Backing) (start : Entry → Bool) (history : List Action) (number : ℕ) (call : Call) (before after : CleanupOp)
    (fits : CallFits old sets start history number call (Cleanup before)) (session : after.session ≡ before.session) where
  abbrev at_op : Circumstances
  at_op = causes_of_stepped sets (Cleanup before) old first second

  asked : (effect : Option Effect) → DeletesLeaves effect old new → IsAsked (contents_after start history) call.ask call.added effect
  asked effect h = subst (λ (a : Ask). IsAsked (contents_after start history) a call.added effect) (sym fits.runs.ask) (may_do (contents_after start history) call.added old new effect h)

  pub cleanup_goes_on : CleanupContinues old new before after → PinnedLeafPagesStay before.session old new → OpEvent at_op old new sets start history number call (Cleanup after) Going
  cleanup_goes_on step pinned =
      step_goes_on at_op old new start history number call (Cleanup before) (Cleanup after) fits session refl step.effect (works_cleaning before.session step.effect old new step.does pinned)
      (asked step.effect step.does.deletes) (none_added (suc (length history)) old new step.effect step.does.deletes) step.fits tt tt

  pub cleanup_finishes : (stats : VacuumStats) → CleanupEnds old new before after → OpEvent at_op old new sets start history number call (Cleanup after) (Finished stats)
  cleanup_finishes stats step = record {
    effect = None;
    then_call = ended call (Vacuumed stats) (length history);
    works = works_nothing call.session call.ask old new step.state fits.world.order;
    asked = tt;
    told = record { none = refl; after_is = refl };
    caused = tt;
    meets = subst (λ (l : List Action). Meets start l number (ended call (Vacuumed stats) (length history))) (sym (append-nil history)) (record {
      began = began_before start history number call fits.meets fits.running;
      until = omega arith;
      right = subst (λ (a : Ask). AnswersRight start history number call.began (length history) a call.given call.added (Vacuumed stats)) (sym fits.runs.ask) tt;
    });
    holds = λ h. cc;
    deletions = λ more. absurd (true≢false more);
  }

  pub cleanup_is_refused : (fault : Fault) → CleanupStays old new before after → HasCause (causes_of_cleaning old first second before) fault
      → OpEvent at_op old new sets start history number call (Cleanup after) (Refused fault)
  cleanup_is_refused fault stays cause =
      step_is_refused at_op old new start history number call (Cleanup before) (Cleanup after) fits session refl fault stays.state
      (ap (λ (op : CleanupOp). Cleanup op) stays.op) cause (λ ends. refl) (λ e asks there. absurd cc) (λ e asks r there. absurd cc)
