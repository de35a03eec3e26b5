-- What putting entries leaves of an index.
use Rattle.std.specs.Prelude.{◌≡◌, ◌≢◌, ◌||◌, Bool, true, Err, List}
use Rattle.access_method.specs.Indexes.{ForEachIndexHistory, IndexFits, IndexKeeps, has_entry}
use Rattle.access_method.specs.Refusals.{InsertHasCause}
use Rattle.access_method.specs.declared.index.Index.{Index}
use Rattle.index_model.specs.Actions.{Action}
use Rattle.index_model.specs.Calls.{Call}
use Rattle.index_model.specs.Row.{Row}
use Rattle.index_model.specs.declared.entry.Entry.{Entry}
use Rattle.index_model.specs.declared.fault.Fault.{Fault}
use Rattle.index_model.specs.declared.fault.Fault.TheVariants.{KeyExists}
use Rattle.page_action.specs.Causes.{with_row}
use Rattle.page_action.specs.States.{Continues}
use Rattle.page_action.specs.declared.page_store.PageStore.{Ghosts}

-- what fitted before fits with these actions and calls, and is kept if it was
pub record FitsOn {S : Type 0} (g : Ghosts S) (old new : Index S) (start : Entry → Bool) (history : List Action) (calls : List Call) : Type 0 where
  pub then_history : List Action
  pub then_calls : List Call
  pub fits : IndexFits g new start then_history then_calls
  pub keeps : IndexKeeps g old start history calls → IndexKeeps g new start then_history then_calls

-- these entries have come, and no other; none is gone
abbrev pub Gains : {S : Type 0} → Ghosts S → (Entry → Bool) → S → S → Type 0
Gains g came old new = (e : Entry) → has_entry g new e ≡ (came e || has_entry g old e)

-- one of the entries that come has a key that another row has too, this one: one that comes, or one that was
-- there
pub record HasKeyTwice (comes was_there : Entry → Bool) (row : Row) : Type 0 where
  pub entry : Entry
  pub is_one : comes entry ≡ true
  pub apart : row ≢ entry.row
  pub taken : (comes (with_row entry row) || was_there (with_row entry row)) ≡ true

-- if an entry that comes was refused because its key was there with a row, it has a key twice
abbrev pub IsPutRefusedFor : {S : Type 0} → Ghosts S → (Entry → Bool) → S → Fault → Type 0
IsPutRefusedFor g comes old fault = (row : Row) → fault ≡ KeyExists row → HasKeyTwice comes (has_entry g old) row

-- it went on, and then an insert into it was refused so, for a cause
pub record WasRefused {S : Type 0} (g : Ghosts S) (fault : Fault) (old new : Index S) : Type 0 where
  pub entry : Entry
  pub last : Index S
  pub steps : Continues g.follows old.store last.store
  pub goes : ForEachIndexHistory g old last (FitsOn g old last)
  pub cause : ForEachIndexHistory g last new (λ start history calls. InsertHasCause g entry (Err fault) last new.store)
