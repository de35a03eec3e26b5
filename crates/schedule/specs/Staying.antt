-- What is so if the pages and the calls of a store stay.
use Rattle.std.specs.Prelude.{◌≡◌, Bool}
use Rattle.index_model.specs.declared.entry.Entry.{Entry}
use Rattle.page_action.specs.declared.page_store.PageStore.{Ghosts}
use Rattle.schedule.specs.TheoremCrashes.{KeepsHistory, IsCrashSafe}
use Rattle.schedule.specs.TheoremMoments.{Moment}
use Rattle.schedule.specs.TheoremRuns.{Fits}

-- What fitted a moment fits it with a store that follows, with the same pages and calls. If its history was
-- kept it is kept still, and a crash in between leaves a prefix of it.
abbrev pub SameStateFits : {S : Type 0} → Ghosts S → Type 0
SameStateFits {S} g = (start : Entry → Bool) (old : Moment S) (store : S) → g.follows old.store store → g.state store ≡ g.state old.store
    → Fits g start old
    → Fits g start (record old { store = store }) × (KeepsHistory g start old → IsCrashSafe g start old (record old { store = store }))
