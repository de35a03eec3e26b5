-- Laws of the list of calls that tells of a moment: one running call a session, and calls that were refused
-- as they began.
use Rattle.std.specs.Prelude.{◌≡◌, ◌≢◌, ℕ, ◌<◌, Bool, [], ◌∷◌, ◌++◌, length}
use Rattle.index_model.specs.Calls.{Ask, Failed, Call}
use Rattle.index_model.specs.Row.{Row}
use Rattle.index_model.specs.declared.entry.Entry.{Entry}
use Rattle.index_model.specs.declared.fault.Fault.{Fault}
use Rattle.index_model.specs.declared.fault.Fault.TheVariants.{Exists, KeyExists}
use Rattle.page_action.specs.declared.page_store.PageStore.{Ghosts}
use Rattle.session_calls.specs.Sessions.{ended}
use Rattle.session_calls.specs.TheoremCalls.{begun_call}
use Rattle.schedule.specs.TheoremMoments.{Moment, IsRunningCall}
use Rattle.schedule.specs.TheoremRuns.{Fits}

-- the moment, with one call more
abbrev pub with_one_call : {S : Type 0} → Moment S → Call → Moment S
with_one_call now call = record now { calls = now.calls ++ call ∷ [] }

-- a call that was refused as it began, when there were `count` actions
abbrev pub refused_call : ℕ → Ask → Fault → ℕ → Call
refused_call session ask fault count = ended (begun_call session ask count) (Failed fault) count

-- a session has one running call at most
abbrev pub OneCallRuns : {S : Type 0} → Ghosts S → Type 0
OneCallRuns {S} g =
    (start : Entry → Bool) (now : Moment S) (session number other : ℕ) (call another : Call) → Fits g start now → IsRunningCall now.calls session number call
    → IsRunningCall now.calls session other another → other ≡ number

-- What fits a moment fits with a call more that was refused as it began, in a session that is there. That
-- isn't said of `Exists` and of `KeyExists`, with which no beginning is refused.
abbrev pub RefusedCallsFit : {S : Type 0} → Ghosts S → Type 0
RefusedCallsFit {S} g =
    (start : Entry → Bool) (now : Moment S) (session : ℕ) (ask : Ask) (fault : Fault) → Fits g start now → session < length now.slots → fault ≢ Exists
    → ((row : Row) → fault ≢ KeyExists row) → Fits g start (with_one_call now (refused_call session ask fault (length now.history)))
