-- What a cleanup of an index does, read off the run.
use Rattle.std.proofs.Common.{◌≡◌, ℕ, suc, Bool, Option, None, unwrap_or, Result, Ok, Err, List, [], ◌∷◌, ◌++◌, length, refl, sym, ap, ◌∙◌, IfOk}
use Rattle.page_delete.specs.Counts.{deleted_in}
use Rattle.access_method.proofs.Imports.{Effect, Add, Remove, Shape, Action, later_or, last_said, contents_after, AskCleanup, Call, Entry, Fault, VacuumStats, contents_after-append, Ghosts}
use Rattle.access_method.proofs.Imports.{ToCleanup, StoreAndSlots, snapshot_of, Fits, CallRuns, VacuumMeans, vacuum_outcome, StatsCountCleaned, StatsCountDeleted, StatsCountPages, acts_by}
use Rattle.access_method.proofs.Imports.{AreOwnEffects, first_call, IsCleanedUp}

-- what a cleanup does says nothing of any entry
pub cleans_nothing : (number : ℕ) (call : Call) (count : ℕ) (effects : List Effect) (e : Entry) → call.ask ≡ AskCleanup → AreOwnEffects call count effects
    → last_said (acts_by number effects) e ≡ None
cleans_nothing number call count [] e ask own = refl
cleans_nothing number call count (Add x ∷ effects) e ask own = absurd (rw ask at own.0)
cleans_nothing number call count (Remove es ∷ effects) e ask own = absurd (rw ask at own.0)
cleans_nothing number call count (Shape ∷ effects) e ask own = ap (λ (o : Option Bool). later_or o None) (cleans_nothing number call (suc count) effects e ask own.1)

-- so the contents are those before
module _ {S : Type 0} (g : Ghosts S) (old new : StoreAndSlots S) (start : Entry → Bool) (history : List Action) (calls : List Call) (fits : Fits g start (snapshot_of old history calls)) where
  stays : (then_history : List Action) (effects : List Effect)
      → AreOwnEffects (first_call 63 ToCleanup (snapshot_of old history calls)) (length history) effects
      → then_history ≡ history ++ acts_by (length calls) effects
      → (e : Entry) → contents_after start then_history e ≡ contents_after start history e
  stays then_history effects own is e =
      ap (λ (l : List Action). contents_after start l e) is ∙ contents_after-append start history (acts_by (length calls) effects) e
      ∙ ap (λ (o : Option Bool). unwrap_or o (contents_after start history e))
      (cleans_nothing (length calls) (first_call 63 ToCleanup (snapshot_of old history calls)) (length history) effects e refl own)

  pub cleaned_up : (result : Result VacuumStats Fault)
      → (r : CallRuns g 63 (VacuumMeans 63 ToCleanup result) (vacuum_outcome result) old new start history calls)
      → StatsCountCleaned (g.state new.store) result → StatsCountDeleted (deleted_in (g.state old.store)) (g.state new.store) result
      → IfOk result (λ stats. StatsCountPages (g.state new.store) stats × (stats.tuples_removed ≡ 0))
      → IsCleanedUp g result old.store new.store
  cleaned_up (Ok stats) r told deleted pages =
      let t = r.tells in
      record { contents = λ e. r.ran.fits.explains.contents e ∙ stays r.then_history t.effects t.own t.history_is e ∙ sym (fits.explains.contents e); told = told; deleted = deleted; stats = pages }
  cleaned_up (Err fault) r told deleted pages =
      let t = r.tells in
      record { contents = λ e. r.ran.fits.explains.contents e ∙ stays r.then_history t.effects t.own t.history_is e ∙ sym (fits.explains.contents e); told = told; deleted = deleted; stats = pages }
