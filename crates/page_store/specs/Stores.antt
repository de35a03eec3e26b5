-- What a store over a device shows, and when it is an own device's.
use Rattle.std.specs.Prelude.{ℕ, List}
use Rattle.device.specs.declared.device.Device.{Ghosts}
use Rattle.buffer_pool.specs.Pools.{most_of}
use Rattle.index_model.specs.declared.format.Format.{Format}
use Rattle.page_codec.specs.declared.page.Page.{Page}
use Rattle.page_action.specs.CallTables.{opened_calls, state_with}
use Rattle.page_action.specs.States.{State}
use Rattle.page_store.specs.Histories.{pages_now}
use Rattle.page_store.specs.Logged.{Held, held_of, IsOwn}
use Rattle.page_store.specs.declared.history.History.{History}
use Rattle.page_store.specs.declared.store.Store.{Store}

-- its pages and calls
abbrev pub state_of : {D : Type 0} (g : Ghosts D) → Store D g → State
state_of g store =
    state_with store.held.format (most_of store.held.pool) (pages_now store.held.history.value)
    store.held.acts store.calls

-- its pages, log and device, as plain data
abbrev pub held_by : {D : Type 0} (g : Ghosts D) → Store D g → Held
held_by g store = held_of g store.held

-- the device below
abbrev pub device_of : {D : Type 0} (g : Ghosts D) → Store D g → D
device_of g store = store.held.device

-- the pages that it was opened with and the acts since
abbrev pub store_history : {D : Type 0} (g : Ghosts D) → Store D g → History
store_history g store = store.held.history.value

-- it is as an open left it on an own device, or later by its calls
abbrev pub IsOwnStore : {D : Type 0} (g : Ghosts D) → Store D g → Type 0
IsOwnStore g store = IsOwn (held_by g store)

-- no act, no call, no hold yet
abbrev pub opened_state : Format → ℕ → List Page → List ℕ → ℕ → State
opened_state format frames pages counted last_cycle =
    state_with format frames pages 0 (opened_calls format.pages counted last_cycle)
