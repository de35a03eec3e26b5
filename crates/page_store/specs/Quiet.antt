-- What a call leaves that makes no act: it may make acts durable, and bring pages to and from their places.
use Rattle.std.specs.Prelude.{◌≡◌}
use Rattle.buffer_pool.specs.Pools.{changed_of}
use Rattle.device.specs.declared.device.Device.{Ghosts}
use Rattle.page_action.specs.Order.{IsPartOf}
use Rattle.page_action.specs.Room.{WaitsOn}
use Rattle.page_action.specs.States.{Backing}
use Rattle.page_store.specs.Following.{Follows}
use Rattle.page_store.specs.Logged.{held_of, backing_of, SamePages}
use Rattle.page_store.specs.declared.logged_pages.LoggedPages.{LoggedPages}

-- the pages and what is promised are as they were; so is the room, if no act waits for a force; some of the
-- changed pages were written; what waits in the log is as it was, or the log was forced
pub record IsSameButWritten {D : Type 0} (g : Ghosts D) (old new : LoggedPages D g) : Type 0 where
  pub follows : Follows (held_of g old) (held_of g new)
  pub pages : SamePages g old new
  pub promised : new.promised ≡ old.promised
  pub idle : old.durable ≡ old.acts → new.room ≡ old.room
  pub order : IsPartOf (changed_of new.pool) (changed_of old.pool)
  pub waits : WaitsOn old.acts (backing_of (held_of g old)) (backing_of (held_of g new))

-- the log was not forced
pub record IsUnforced {D : Type 0} (g : Ghosts D) (old new : LoggedPages D g) : Type 0 where
  pub log : new.log ≡ old.log
  pub durable : new.durable ≡ old.durable
  pub room : new.room ≡ old.room

-- no act is durable that wasn't; the room, what is promised of it, the changed pages and what waits in the
-- log are as they were
pub record IsAdvanced (old new : Backing) : Type 0 where
  pub durable : new.durable ≡ old.durable
  pub room : new.room ≡ old.room
  pub promised : new.promised ≡ old.promised
  pub changed : new.changed ≡ old.changed
  pub waiting : new.waiting ≡ old.waiting
