-- What is left to do for what a session runs has a bound at each moment.
use Rattle.std.specs.Prelude.{ℕ, ◌<◌, ◌≤◌, Bool}
use Rattle.index_model.specs.declared.entry.Entry.{Entry}
use Rattle.page_action.specs.declared.page_store.PageStore.{Ghosts}
use Rattle.session_calls.specs.Sessions.{work_in}
use Rattle.schedule.specs.TheoremMoments.{Moment}
use Rattle.schedule.specs.TheoremRuns.{Fits}
use Rattle.session_calls.specs.Slots.{slot_of}

-- fewer than 2^42 steps, and entries to give, are left while the pages stay as they are
abbrev pub WorkIsBounded : {S : Type 0} → Ghosts S → Type 0
WorkIsBounded {S} g =
    (start : Entry → Bool) (now : Moment S) → Fits g start now → (g.state now.store).format.pages ≤ 65536 → (session : ℕ)
    → work_in (g.state now.store) (slot_of now.slots session) < 4398046511104
