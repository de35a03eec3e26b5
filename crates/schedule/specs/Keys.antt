-- What each moment that fits says of a unique index.
use Rattle.std.specs.Prelude.{◌≡◌, ℕ, suc, Bool, true, false, Some, slice_get}
use Rattle.index_model.specs.Actions.{is_there_after}
use Rattle.index_model.specs.Calls.{AskInsert, Call}
use Rattle.index_model.specs.declared.entry.Entry.{Entry}
use Rattle.page_action.specs.declared.page_store.PageStore.{Ghosts}
use Rattle.schedule.specs.TheoremMoments.{Moment}
use Rattle.schedule.specs.TheoremRuns.{Fits}

-- if an insert added its entry to a unique index, no entry of its key was there just before
abbrev pub AddedKeysAreNew : {S : Type 0} → Ghosts S → Type 0
AddedKeysAreNew {S} g =
    (start : Entry → Bool) (now : Moment S) (number before : ℕ) (call : Call) (e x : Entry) → Fits g start now → (g.state now.store).format.unique ≡ true
    → slice_get now.calls number ≡ Some call → call.ask ≡ AskInsert e → call.added ≡ Some (suc before) → x.key ≡ e.key
    → is_there_after start now.history before x ≡ false
