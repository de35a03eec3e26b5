-- What a running scan has ready.
use Rattle.std.specs.Prelude.{◌≡◌, ℕ, ◌<◌, Bool, true, None, List, length}
use Rattle.index_model.specs.Actions.{Action, ThereAtSomeMoment}
use Rattle.index_model.specs.Calls.{AskScan, Call}
use Rattle.index_model.specs.Order.{IsPast, last_or}
use Rattle.index_model.specs.Range.{matches}
use Rattle.index_model.specs.declared.entry.Entry.{Entry}
use Rattle.index_model.specs.declared.range.Range.{Range}
use Rattle.page_action.specs.declared.page_store.PageStore.{Ghosts}
use Rattle.session_calls.specs.Sessions.{ready_count}
use Rattle.session_calls.specs.Slots.{slot_of}
use Rattle.schedule.specs.TheoremMoments.{Moment, IsRunningCall}
use Rattle.schedule.specs.TheoremRuns.{Fits}

-- a match that a scan over these moments may give after what it gave: it was there at one of them, and lies
-- beyond all that was given
pub record MayComeNext (start : Entry → Bool) (history : List Action) (range : Range) (began until : ℕ) (given : List Entry) : Type 0 where
  pub entry : Entry
  pub matched : matches range entry ≡ true
  pub was_there : ThereAtSomeMoment start history began until entry
  pub beyond : IsPast (last_or None given) entry

-- if a session's scan has an entry ready, another match may come next
abbrev pub ReadyMayComeNext : {S : Type 0} → Ghosts S → Type 0
ReadyMayComeNext {S} g =
    (start : Entry → Bool) (now : Moment S) (session number : ℕ) (call : Call) (range : Range) → Fits g start now → IsRunningCall now.calls session number call
    → call.ask ≡ AskScan range → 0 < ready_count (slot_of now.slots session) → MayComeNext start now.history range call.began (length now.history) call.given
