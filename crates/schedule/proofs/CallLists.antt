-- The list of calls: one running call a session, and calls that were refused as they began.
use Rattle.std.proofs.Common.{◌≡◌, ◌≢◌, ℕ, ◌<◌, Bool, Option, Some, None, List, [], ◌∷◌, length, refl, sym, subst, ap, arith, inl, inr, ◌∙◌}
use Rattle.schedule.specs.CallLists.{with_one_call, refused_call, OneCallRuns, RefusedCallsFit}
use Rattle.schedule.proofs.Imports.{Action, Ask, AskInsert, AskScan, AskBulkDelete, AskCleanup, Running, Failed, Call, Meets, IsOwned, Row, Entry, Fault, Exists, KeyExists, Ghosts, Op}
use Rattle.schedule.proofs.Imports.{SlotMatches, Moment, IsRunningCall, Fits}
use Rattle.schedule.proofs.Fitting.{matches_of, running_of, beyond_of, fits_from}
use Rattle.schedule.proofs.Lists.{get_append_some, get_append_cases}

pub one_call_runs : {S : Type 0} (g : Ghosts S) → OneCallRuns g
one_call_runs g start now session number other call another fits is again =
    let one = fits.explains.running session (fits.explains.run session number call is) in
    one.only other another again ∙ sym (one.only number call is)

-- a refused call meets its definition: it added and gave nothing
module _ (start : Entry → Bool) (history : List Action) (number session : ℕ) (fault : Fault) (apart : fault ≢ Exists) (unlike : (row : Row) → fault ≢ KeyExists row) where
  pub refused_meets : (ask : Ask) → Meets start history number (refused_call session ask fault (length history))
  refused_meets (AskInsert e) = record { began = omega arith; until = omega arith; right = record { add = tt; end = (refl, ((λ is. absurd (apart is)), λ row is. absurd (unlike row is))) } }
  refused_meets (AskScan range) = record {
    began = omega arith;
    until = omega arith;
    right = record { only = record { ascending = tt; matched = λ e h. absurd cc; was_there = λ e h. absurd cc }; all = λ e h. absurd h };
  }
  refused_meets (AskBulkDelete dead) = record { began = omega arith; until = omega arith; right = tt }
  refused_meets AskCleanup = record { began = omega arith; until = omega arith; right = tt }

-- a moment that fits, with a call more that was refused as it began
module _ {S : Type 0} (g : Ghosts S) (start : Entry → Bool) (now : Moment S) (session : ℕ) (ask : Ask) (fault : Fault) (fits : Fits g start now)
    (within : session < length now.slots) (apart : fault ≢ Exists) (unlike : (row : Row) → fault ≢ KeyExists row) where
  abbrev more : Call
  more = refused_call session ask fault (length now.history)

  abbrev then : Moment S
  then = with_one_call now more

  -- a running call is one of those before
  was_running : (u number : ℕ) (call : Call) → IsRunningCall then.calls u number call → IsRunningCall now.calls u number call
  was_running u number call is = elim (get_append_cases now.calls more number call is.found) [
    | inl before ↦ record { found = before; session_is = is.session_is; running = is.running }
    | inr new ↦ absurd (let failed : Failed fault ≡ Running = sym (ap (λ (c : Call). c.ending) new.1) ∙ is.running in cc)
  ]

  -- what each session runs is told as before
  runs_on : (u : ℕ) (slot : Option Op) → SlotMatches g start now u slot → SlotMatches g start then u slot
  runs_on u None h = record { none = λ number call is. h.none number call (was_running u number call is); idle = h.idle }
  runs_on u (Some op) h = record {
    number = h.number;
    call = h.call;
    is = record { found = get_append_some now.calls (more ∷ []) h.number h.call h.is.found; session_is = h.is.session_is; running = h.is.running };
    only = λ other c is. h.only other c (was_running u other c is);
    runs = h.runs;
    deletions = h.deletions;
  }

  pub refused_fits : Fits g start then
  refused_fits = fits_from (record {
    matches = matches_of fits;
    unique = fits.explains.unique;
    running = λ u slot at. runs_on u slot (running_of fits u slot at);
    vacuums = fits.invariant.vacuums;
    beyond = λ u far. beyond_of fits u far;
    known = λ number call at. elim (get_append_cases now.calls more number call at) [
      | inl before ↦ fits.explains.known number call before
      | inr new ↦ subst (λ (u : ℕ). u < length now.slots) (sym (ap (λ (c : Call). c.session) new.1)) within
    ];
    meets = λ number call at. elim (get_append_cases now.calls more number call at) [
      | inl before ↦ fits.explains.meets number call before
      | inr new ↦ subst (λ (c : Call). Meets start now.history number c) (sym new.1) (refused_meets start now.history number session fault apart unlike ask)
    ];
    owned = λ before action at. (
        let was : IsOwned start now.history now.calls before action = fits.explains.owned before action at in
        record { call = was.call; found = get_append_some now.calls (more ∷ []) action.by was.call was.found; since = was.since; until = was.until; may = was.may });
  })

pub refused_calls_fit : {S : Type 0} (g : Ghosts S) → RefusedCallsFit g
refused_calls_fit g start now session ask fault fits within apart unlike = refused_fits g start now session ask fault fits within apart unlike
