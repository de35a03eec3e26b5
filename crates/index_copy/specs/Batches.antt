-- The entries of a batch, and what a scan gives into one.
use Rattle.std.specs.Prelude.{◌≡◌, ◌≢◌, ◌≤◌, ◌||◌, ◌+◌, ℕ, Bool, None, Ok, Err, List, length}
use Rattle.access_method.specs.Indexes.{ForEachIndexHistory}
use Rattle.access_method.specs.Refusals.{GiveHasCause}
use Rattle.access_method.specs.Scans.{NextIs, NextsAre}
use Rattle.access_method.specs.declared.index.Index.{Index}
use Rattle.index_model.specs.Order.{is_among}
use Rattle.index_model.specs.declared.entry.Entry.{Entry}
use Rattle.index_model.specs.declared.fault.Fault.{Fault}
use Rattle.page_action.specs.declared.page_store.PageStore.{Ghosts}
use Rattle.index_copy.specs.declared.batch.Batch.{Batch}

-- how many entries a batch has
abbrev pub batch_len : Batch → ℕ
batch_len batch = length batch.first.items + length batch.others.items

-- the entry is one of a batch
abbrev pub is_in_batch : Batch → Entry → Bool
is_in_batch batch e = is_among batch.first.items e || is_among batch.others.items e

-- The session's scan gave these entries, one after the other, and they are those of the batch: 4900; or
-- fewer, and then it had given all.
pub record GivesBatch {S : Type 0} (g : Ghosts S) (session : ℕ) (old new : Index S) (batch : Batch) : Type 0 where
  pub given : List Entry
  pub last : Index S
  pub many : batch_len batch ≡ length given
  pub each : (e : Entry) → is_in_batch batch e ≡ is_among given e
  pub gives : NextsAre g session given old last
  pub few : length given ≤ 4900
  pub whole : length given ≡ 4900 → new ≡ last
  pub ends : length given ≢ 4900 → NextIs g session (Ok None) last new

-- the session's scan gave entries, and then it was refused so, for a cause
pub record BreaksOff {S : Type 0} (g : Ghosts S) (session : ℕ) (fault : Fault) (old new : Index S) : Type 0 where
  pub given : List Entry
  pub last : Index S
  pub gives : NextsAre g session given old last
  pub refused : NextIs g session (Err fault) last new
  pub cause : ForEachIndexHistory g last new (GiveHasCause g session (Err fault) last new.store)
