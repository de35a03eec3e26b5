-- What is known of a world as it was handed in, and holds of it on.
use Rattle.std.specs.Prelude.{◌≡◌, ℕ, false, true, List, [], Option, Some, None, length, slice_get}
use Rattle.index_model.specs.declared.layout.Layout.TheVariants.{One}
use Rattle.index_model.specs.declared.dead_rows.DeadRows.{Ghosts as SetGhosts}
use Rattle.page_action.specs.States.{State, Backing, IsLater}
use Rattle.page_action.specs.declared.page_store.PageStore.{Ghosts}
use Rattle.session_calls.specs.TheoremCalls.{DeadSets}
use Rattle.session_calls.specs.declared.op.Op.{Op}
use Rattle.schedule.specs.TheoremMoments.{StoreAndSlots}
use Rattle.world.specs.Worlds.{inside}
use Rattle.world.specs.declared.world.World.{World}

-- all that is seen of its store: pages, calls and holdings, and the log and the device; what its sessions
-- ran, and the sets of dead rows; and the place at which others may be put, if there is one
pub record Handed : Type 0 where
  pub state : State
  pub backing : Backing
  pub slots : List (Option Op)
  pub sets : DeadSets
  pub spare : Option ℕ

-- if none is
abbrev pub nothing_handed : Handed
nothing_handed = record {
  state = record {
    format = record { layout = One; unique = false; items = 0; pages = 0; log_bytes = 0 };
    frames = 0;
    pages = [];
    counted = [];
    acts = 0;
    begun = 0;
    running = [];
    last_cycle = 0;
    cycle = 0;
    table = [];
  };
  backing = record { durable = 0; room = 0; promised = 0; stopped = false; honest = true; failures = 0; changed = []; waiting = [] };
  slots = [];
  sets = [];
  spare = None;
}

-- a world as it was handed in
pub record IsAsHanded {S : Type 0} (g : Ghosts S) (handed : Handed) (first : StoreAndSlots S) : Type 0 where
  pub state_is : g.state first.store ≡ handed.state
  pub backing_is : g.backing first.store ≡ handed.backing
  pub slots_are : first.slots ≡ handed.slots
  pub sets_are : first.sets ≡ handed.sets

-- the sets have become these: the same, but at the spare place, if there is one
abbrev pub SetsGo : Option ℕ → DeadSets → DeadSets → Type 0
SetsGo None old new = new ≡ old
SetsGo (Some place) old new = (length new ≡ length old) × ((at : ℕ) → (at ≡ place → ⊥) → slice_get new at ≡ slice_get old at)

-- the world handed in has become this one: its sessions are the same, so are its sets, but at the spare
-- place, and its device is a later one
pub record ComesOf {S : Type 0} (g : Ghosts S) (handed : Handed) (start : ℕ) (now : StoreAndSlots S) : Type 0 where
  pub start_is : start ≡ handed.state.acts
  pub sessions_are : length now.slots ≡ length handed.slots
  pub sets_are : SetsGo handed.spare handed.sets now.sets
  pub later : IsLater handed.backing (g.backing now.store)

-- a store follows each of these, which that of the world followed as it was handed in
abbrev pub StillFollows : {S : Type 0} → Ghosts S → (S → Type 0) → S → Type 0
StillFollows {S} g followed now = (first : S) → followed first → g.follows first now

-- what is known of a world that is handed in now, at this place of which sets may be put, if there is one
abbrev pub handed_of : {S T : Type 0} → Ghosts S → SetGhosts T → Option ℕ → World S T → Handed
handed_of g rows spare world = record {
  state = g.state world.store;
  backing = g.backing world.store;
  slots = world.calls.slots.items;
  sets = (inside rows world).sets;
  spare = spare;
}
