-- The theorem's words: one moment of a store with its sessions, and when a history and a list of calls
-- explain it.
use Rattle.std.specs.Prelude.{◌≡◌, ℕ, ◌<◌, Bool, true, Option, Some, List, length, slice_get}
use Rattle.index_model.specs.Actions.{Action, contents_after, is_there_after, KeysDiffer}
use Rattle.index_model.specs.Calls.{Running, Call, Meets, ActionsAreOwned}
use Rattle.index_model.specs.declared.entry.Entry.{Entry}
use Rattle.page_action.specs.Contents.{entry_on_live_leaf}
use Rattle.page_action.specs.declared.page_store.PageStore.{Ghosts}
use Rattle.tree_acts.specs.TheoremKeys.{AreKeyed}
use Rattle.tree_acts.specs.TheoremTree.{IsTree}
use Rattle.session_calls.specs.TheoremCalls.{DeadSets}
use Rattle.session_calls.specs.declared.op.Op.{Op}

-- a store, what each of its sessions runs, and the sets of dead rows that their calls may name
pub record StoreAndSlots (S : Type 0) : Type 0 where
  pub store : S
  pub slots : List (Option Op)
  pub sets : DeadSets

-- one moment: a store with its slots and sets, and the history of actions and the list of calls that tell of
-- it
pub record Moment (S : Type 0) : Type 0 where
  pub store : S
  pub slots : List (Option Op)
  pub sets : DeadSets
  pub history : List Action
  pub calls : List Call

-- the moment of this store with its slots and sets, this history and these calls
abbrev pub snapshot_of : {S : Type 0} → StoreAndSlots S → List Action → List Call → Moment S
snapshot_of here history calls = record { store = here.store; slots = here.slots; sets = here.sets; history = history; calls = calls }

-- the session runs a call
abbrev pub RunsOne : List (Option Op) → ℕ → Type 0
RunsOne slots session = (op : Op) × (slice_get slots session ≡ Some (Some op))

-- the call of this number is a running call of the session: it has no end yet
pub record IsRunningCall (calls : List Call) (session number : ℕ) (call : Call) : Type 0 where
  pub found : slice_get calls number ≡ Some call
  pub session_is : call.session ≡ session
  pub running : call.ending ≡ Running

-- the session has one running call
pub record HasOneCall (calls : List Call) (session : ℕ) : Type 0 where
  pub number : ℕ
  pub call : Call
  pub is : IsRunningCall calls session number call
  pub only : (other : ℕ) (c : Call) → IsRunningCall calls session other c → other ≡ number

-- the history and the calls explain the moment, from these contents at the start
pub record Explains {S : Type 0} (g : Ghosts S) (start : Entry → Bool) (now : Moment S) : Type 0 where
  -- the contents of the pages are those after the history
  pub contents : (e : Entry) → entry_on_live_leaf (g.state now.store).pages e ≡ contents_after start now.history e
  -- as many acts were done as the history has actions
  pub count : (g.state now.store).acts ≡ length now.history
  -- the pages are a B-link tree
  pub tree : IsTree (g.state now.store).pages
  -- on a unique index the pages are keyed, and no two entries that were there at one moment share a key
  pub keyed : (g.state now.store).format.unique ≡ true → AreKeyed (g.state now.store).pages
  pub unique : (g.state now.store).format.unique ≡ true → (k : ℕ) → KeysDiffer (is_there_after start now.history k)
  -- the calls without an end are those that the sessions run, one each
  pub running : (session : ℕ) → RunsOne now.slots session → HasOneCall now.calls session
  pub run : (session number : ℕ) (call : Call) → IsRunningCall now.calls session number call → RunsOne now.slots session
  pub known : (number : ℕ) (call : Call) → slice_get now.calls number ≡ Some call → call.session < length now.slots
  -- each call meets its definition over its own interval
  pub meets : (number : ℕ) (call : Call) → slice_get now.calls number ≡ Some call → Meets start now.history number call
  -- each action is owned by the call that asked for it
  pub owned : ActionsAreOwned start now.history now.calls
