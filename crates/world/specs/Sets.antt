-- Why a set of dead rows isn't put into a world.
use Rattle.std.specs.Prelude.{◌≡◌, ℕ, ◌≤◌, true, length}
use Rattle.index_model.specs.declared.fault.Fault.{Fault}
use Rattle.index_model.specs.declared.fault.Fault.TheVariants.{NoSession, VacuumRunning}
use Rattle.page_action.specs.declared.page_store.PageStore.{Ghosts}
use Rattle.session_calls.specs.Ops.{runs_bulk_delete}
use Rattle.world.specs.declared.world.World.{World}

-- it has no set at this place; or a bulk delete runs
abbrev pub IsNotPutFor : {S T : Type 0} → Ghosts S → Fault → ℕ → World S T → Type 0
IsNotPutFor g NoSession at world = length world.sets.items ≤ at
IsNotPutFor g VacuumRunning at world = runs_bulk_delete (g.state world.store) ≡ true
IsNotPutFor g fault at world = ⊥
