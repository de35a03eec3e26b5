-- What becomes of a handle when an index is opened in a file that C has open.
use Rattle.std.specs.Prelude.{◌≡◌, ◌≢◌, ℕ, IsTrue, List, Option, IsSome, IfSome}
use Rattle.access_method.specs.Files.{bytes_before, IsOpenFault}
use Rattle.access_method.specs.Indexes.{IndexBegins}
use Rattle.access_method.specs.declared.index.Index.{Index}
use Rattle.device.specs.declared.device.Device.{Ghosts as DeviceGhosts}
use Rattle.index_model.specs.declared.fault.Fault.{Fault}
use Rattle.index_model.specs.declared.format.Format.{Format}
use Rattle.page_action.specs.declared.page_store.PageStore.{Ghosts}
use Rattle.page_codec.specs.declared.page.Page.{Page}
use Rattle.page_store.specs.Stores.{device_of}
use Rattle.page_store.specs.declared.store.Store.{Store}
use Rattle.recovery.specs.Index.{HasIndex}
use Rattle.tree_acts.specs.TheoremKeys.{IsTreeFor}
use Rattle.nardsill.specs.Meanings.{AnswersFault}
use Rattle.nardsill.specs.declared.answer.CallAnswer.{CallAnswer}
use Rattle.access_method.specs.declared.rows.RowSet.{RowSet}

-- where a file, which held these bytes for each length that it might have, held an index whose pages are a
-- B-link tree, of a unique one keyed, it is opened with them
abbrev pub BeginsWithFile : {D : Type 0} (d : DeviceGhosts D) → Ghosts (Store D d) → (ℕ → List ℕ) → Index (Store D d) → Type 0
BeginsWithFile d g held index = IsTrue (d.is_honest (device_of d index.store)) → (format : Format) (pages : List Page)
    → HasIndex format pages (bytes_before held (d.trace (device_of d index.store))) → IsTreeFor format pages → IndexBegins d g format pages index

-- Where 0 is answered there is an index, which is the file's; else a fault of opening is told, and the handle
-- is as it was. The rows that were named stay.
pub record IsTaken {D : Type 0} (d : DeviceGhosts D) (g : Ghosts (Store D d)) (held : ℕ → List ℕ) (answer : CallAnswer) (old new : Option (Index (Store D d))) (dead left : RowSet) : Type 0 where
  pub opened : answer.status ≡ 0 → IsSome new
  pub begins : answer.status ≡ 0 → IfSome new (BeginsWithFile d g held)
  pub same : answer.status ≢ 0 → new ≡ old
  pub refused : answer.status ≢ 0 → (fault : Fault) × IsOpenFault fault × AnswersFault fault answer
  pub kept : left ≡ dead
