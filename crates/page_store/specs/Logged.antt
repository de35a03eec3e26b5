-- What pages over a log and a device show, and which of them are an own device's.
use Rattle.std.specs.Prelude.{◌≡◌, ℕ, ◌+◌, ◌<◌, ◌≤◌, Bool, true, false, Some, None, List, [], length, take, drop, replicate, slice_get, is_some}
use Rattle.device.specs.Disk.{DiskMoment, Trace}
use Rattle.device.specs.Places.{Has, OnDisk}
use Rattle.device.specs.declared.device.Device.{Ghosts}
use Rattle.buffer_pool.specs.Pools.{act_of, changed_of, pool_blocks}
use Rattle.buffer_pool.specs.declared.pool.Pool.{Pool}
use Rattle.index_model.specs.declared.format.Format.{Format}
use Rattle.page_codec.specs.Spelling.{page_bytes}
use Rattle.page_codec.specs.declared.page.Page.{Page}
use Rattle.page_action.specs.Frames.{Memory}
use Rattle.page_action.specs.States.{Backing}
use Rattle.page_action.specs.Stored.{AreStored}
use Rattle.redo_log.specs.Images.{last_image, images_of}
use Rattle.redo_log.specs.Kept.{LogHolds, format_of, is_stopped, waiting_blocks}
use Rattle.redo_log.specs.declared.log.Log.{Log}
use Rattle.page_store.specs.Histories.{pages_after, pages_now, AreActs}
use Rattle.page_codec.specs.Places.{superblock, place}
use Rattle.page_store.specs.Restart.{CrashesToPart}
use Rattle.page_store.specs.declared.history.History.{History}
use Rattle.page_store.specs.declared.logged_pages.LoggedPages.{LoggedPages}

-- pages over a log and a device, as plain data
pub record Held : Type 0 where
  pub log : Log
  pub trace : Trace
  pub honest : Bool
  pub failures : ℕ
  -- of each block the last act that changed its page and isn't written to its place, or 0
  pub unwritten : ℕ → ℕ
  -- the blocks of these pages, in the order of their first change since they were written
  pub changed : List ℕ
  pub acts : ℕ
  pub durable : ℕ
  pub room : ℕ
  pub promised : ℕ
  pub history : History

-- the pages in use
abbrev pub pages_held : Held → List Page
pages_held held = pages_now held.history

-- ... as these are
abbrev pub held_of : {D : Type 0} (g : Ghosts D) → LoggedPages D g → Held
held_of g logged = record {
  log = logged.log;
  trace = g.trace logged.device;
  honest = g.is_honest logged.device;
  failures = g.failures logged.device;
  unwritten = act_of logged.pool;
  changed = changed_of logged.pool;
  acts = logged.acts;
  durable = logged.durable;
  room = logged.room;
  promised = logged.promised;
  history = logged.history.value;
}

-- the pages and their acts are as they were
pub record SamePages {D : Type 0} (g : Ghosts D) (old new : LoggedPages D g) : Type 0 where
  pub format : new.format ≡ old.format
  pub history : new.history.value ≡ old.history.value
  pub used : new.used ≡ old.used
  pub acts : new.acts ≡ old.acts

-- so is the room
pub record SameRoom {D : Type 0} (g : Ghosts D) (old new : LoggedPages D g) : Type 0 where
  pub room : new.room ≡ old.room
  pub promised : new.promised ≡ old.promised

-- all is as it was except for the device, which is honest if it was
pub record SameButDevice {D : Type 0} (g : Ghosts D) (old new : LoggedPages D g) : Type 0 where
  pub log : new.log ≡ old.log
  pub pool : new.pool ≡ old.pool
  pub pages : SamePages g old new
  pub durable : new.durable ≡ old.durable
  pub room : SameRoom g old new
  pub honest : g.is_honest new.device ≡ g.is_honest old.device

-- the log and the device
abbrev pub backing_of : Held → Backing
backing_of held = record {
  durable = held.durable;
  room = held.room;
  promised = held.promised;
  stopped = is_stopped held.log;
  honest = held.honest;
  failures = held.failures;
  changed = held.changed;
  waiting = waiting_blocks held.log;
}

-- the pages in memory
abbrev pub memory_in : Pool → Memory
memory_in pool = record { held = pool_blocks pool; unwritten = act_of pool }

-- each block that has no image among these stands at its place: its page, or zeros if it has none
pub record AreHome (format : Format) (images pages : List Page) (m : DiskMoment) : Type 0 where
  pub used : (block : ℕ) (page : Page) → slice_get pages block ≡ Some page
      → last_image images block ≡ None
      → OnDisk (place format block) (page_bytes page) m
  pub unused : (block : ℕ) → length pages ≤ block → block < format.pages
      → last_image images block ≡ None
      → OnDisk (place format block) (replicate 4096 0) m

-- the block has an image among these acts
abbrev pub is_named : List (List Page) → ℕ → Bool
is_named acts block = is_some (last_image (images_of acts) block)

-- the log keeps the acts after the first `base`, whose pages stand at home except for those that the log has
-- an image of; of these each is unwritten since its last act, or a read gives it at its place
pub record IsKept (log : Log) (m : DiskMoment) (unwritten : ℕ → ℕ) (h : History) (durable : ℕ)
    : Type 0 where
  pub base : ℕ
  pub forced : ℕ
  pub base_few : base ≤ length h.acts
  pub durable_is : durable ≡ base + forced
  pub log_keeps : LogHolds log m (drop base h.acts) forced
  pub home : AreHome (format_of log) (images_of (take forced (drop base h.acts)))
      (pages_after h base) m
  pub superblock_on : OnDisk 0 (superblock (format_of log)) m
  pub named : (block : ℕ) → 0 < unwritten block → is_named (drop base h.acts) block ≡ true
  pub last : (block : ℕ) → 0 < unwritten block
      → last_image (images_of (drop (unwritten block) h.acts)) block ≡ None
  pub written : (block : ℕ) (page : Page) → slice_get (pages_now h) block ≡ Some page
      → unwritten block ≡ 0 → is_named (drop base h.acts) block ≡ true
      → Has (place (format_of log) block) (page_bytes page) m.seen

-- the pages are those after all acts of the history; a crash leaves a prefix of the acts, with all durable
-- ones; while the log has not failed it keeps them
pub record IsOwn (held : Held) : Type 0 where
  pub start_stored : AreStored (format_of held.log) 0 held.history.start
  pub start_few : length held.history.start ≤ (format_of held.log).pages
  pub long : place (format_of held.log) (format_of held.log).pages ≤ length held.trace.now.seen
  pub acts_are : AreActs (format_of held.log) held.history.start held.history.acts
  pub counted : held.acts ≡ length held.history.acts
  pub leaves : CrashesToPart (format_of held.log) held.history held.durable held.trace.now
  pub kept : is_stopped held.log ≡ false
      → IsKept held.log held.trace.now held.unwritten held.history held.durable

-- a device as it stands after its opening: the log holds nothing, each page in use stands at its place, zeros
-- at those of the other blocks, and no crash changes this
pub record StandsOpened (log : Log) (m : DiskMoment) (pages : List Page) : Type 0 where
  pub log_keeps : LogHolds log m [] 0
  pub home : AreHome (format_of log) [] pages m
  pub superblock_on : OnDisk 0 (superblock (format_of log)) m
