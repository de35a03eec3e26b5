-- What is left of a world after a crash, and what a world that is opened again begins with.
use Rattle.std.specs.Prelude.{◌≡◌, ℕ, ◌≤◌, Bool, false, List, [], length, take, Result, Ok, Err}
use Rattle.device.specs.declared.device.Device.{Ghosts as DeviceGhosts}
use Rattle.index_model.specs.Actions.{Action}
use Rattle.index_model.specs.declared.entry.Entry.{Entry}
use Rattle.index_model.specs.declared.format.Format.{Format}
use Rattle.index_model.specs.declared.dead_rows.DeadRows.{Ghosts as SetGhosts}
use Rattle.page_action.specs.Contents.{entry_on_live_leaf}
use Rattle.page_action.specs.declared.page_store.PageStore.{Ghosts}
use Rattle.page_codec.specs.declared.page.Page.{Page}
use Rattle.page_store.specs.Stores.{state_of, device_of}
use Rattle.page_store.specs.declared.store.Store.{Store}
use Rattle.recovery.specs.Index.{HasIndex}
use Rattle.schedule.specs.TheoremCrashes.{ArePagesAfter}
use Rattle.world.specs.Worlds.{WorldFits, WorldKeeps}
use Rattle.world.specs.declared.opening.WorldNotOpened.{WorldNotOpened}
use Rattle.world.specs.declared.world.World.{World}

-- these bytes are an index whose pages are a B-link tree, with the contents after a prefix of the history of
-- at least so many actions
pub record IsIndexAfterPrefix (format : Format) (start : Entry → Bool) (history : List Action) (least : ℕ) (image : List ℕ) : Type 0 where
  pub part : ℕ
  pub from : least ≤ part
  pub to : part ≤ length history
  pub pages : List Page
  pub index : HasIndex format pages image
  pub are : ArePagesAfter format.unique start (take part history) pages

-- a world of this format, fitted by the contents of these pages, no action and no call, which keeps that
-- history
pub record BeginsWith {D T : Type 0} (d : DeviceGhosts D) (g : Ghosts (Store D d)) (rows : SetGhosts T) (format : Format) (pages : List Page) (world : World (Store D d) T) : Type 0 where
  pub format_is : (state_of d world.store).format ≡ format
  pub fits : WorldFits g rows world (entry_on_live_leaf pages) [] []
  pub keeps : WorldKeeps g rows world (entry_on_live_leaf pages) [] []

-- the device as an open left it, in the world or given back
abbrev pub world_device : {D T : Type 0} (d : DeviceGhosts D) → Result (World (Store D d) T) (WorldNotOpened D T) → D
world_device d (Ok world) = device_of d world.store
world_device d (Err not_opened) = not_opened.device

-- the world begins with the pages of an index that hold the contents after a prefix of the history, of at
-- least so many actions
pub record BeginsAfterPrefix {D T : Type 0} (d : DeviceGhosts D) (g : Ghosts (Store D d)) (rows : SetGhosts T) (format : Format)
    (start : Entry → Bool) (history : List Action) (least : ℕ) (world : World (Store D d) T) : Type 0 where
  pub part : ℕ
  pub from : least ≤ part
  pub to : part ≤ length history
  pub pages : List Page
  pub are : ArePagesAfter format.unique start (take part history) pages
  pub begins : BeginsWith d g rows format pages world

-- the world begins with the pages of an empty index
pub record BeginsEmpty {D T : Type 0} (d : DeviceGhosts D) (g : Ghosts (Store D d)) (rows : SetGhosts T) (format : Format) (world : World (Store D d) T) : Type 0 where
  pub pages : List Page
  pub empty : (e : Entry) → entry_on_live_leaf pages e ≡ false
  pub begins : BeginsWith d g rows format pages world
