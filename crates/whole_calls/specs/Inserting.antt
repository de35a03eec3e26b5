-- An insert that is run to its end, as a run of events.
use Rattle.std.specs.Prelude.{◌≡◌, ◌⊎◌, ℕ, Some, Result, Ok, Err}
use Rattle.index_model.specs.declared.entry.Entry.{Entry}
use Rattle.index_model.specs.declared.fault.Fault.{Fault}
use Rattle.page_action.specs.declared.page_store.PageStore.{Ghosts}
use Rattle.session_calls.specs.declared.answer.Answer.TheVariants.{Added, Refused}
use Rattle.schedule.specs.TheoremMoments.{StoreAndSlots}
use Rattle.whole_calls.specs.Going.{CallIsRun}
use Rattle.whole_calls.specs.Meanings.{InsertMeans}
use Rattle.whole_calls.specs.declared.inserted.Inserted.{Inserted}

-- the insert has added its entry, and then an event was refused with the fault in `unfinished`
pub record IsCutShort {S : Type 0} (g : Ghosts S) (session : ℕ) (entry : Entry) (inserted : Inserted) (old new : StoreAndSlots S) : Type 0 where
  pub fault : Fault
  pub left : inserted.unfinished ≡ Some fault
  pub goes : CallIsRun g session (InsertMeans session entry (Ok inserted)) (Some (Refused fault)) old new

-- the insert goes to what it answers: that its entry is added, or a refusal; or it is cut short after its Add
abbrev pub InsertIsRun : {S : Type 0} → Ghosts S → ℕ → Entry → Result Inserted Fault → StoreAndSlots S → StoreAndSlots S → Type 0
InsertIsRun g session entry (Ok inserted) old new =
    CallIsRun g session (InsertMeans session entry (Ok inserted)) (Some (Added inserted.action inserted.unfinished)) old new ⊎ IsCutShort g session entry inserted old new
InsertIsRun g session entry (Err fault) old new = CallIsRun g session (InsertMeans session entry (Err fault)) (Some (Refused fault)) old new
