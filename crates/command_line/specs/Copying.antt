-- What the copy of an index in a file leaves and prints.
use Rattle.std.specs.Prelude.{◌≡◌, ◌||◌, ◌∷◌, ◌++◌, [], true, ℕ, IsTrue, List, Option, Result, IfOk, IfErr, MatchResult, codes, unwrap_or}
use Rattle.std.specs.Io.KnownBytes.{Appends}
use Rattle.access_method.specs.Files.{bytes_before}
use Rattle.access_method.specs.declared.index.Index.{Index}
use Rattle.device.specs.declared.device.Device.{Ghosts as DeviceGhosts}
use Rattle.index_copy.specs.InFile.{IsNotInFileFor, fault_in_file}
use Rattle.index_copy.specs.Onto.{IsCopyOf}
use Rattle.index_copy.specs.declared.in_file.CopiedInFile.{CopiedInFile}
use Rattle.index_copy.specs.declared.in_file.NotInFile.{NotInFile}
use Rattle.index_model.specs.Formats.{made, sizes_of}
use Rattle.index_model.specs.Limits.{AreLimits}
use Rattle.index_model.specs.declared.fault.Fault.{Fault}
use Rattle.index_model.specs.declared.format.Format.{Format}
use Rattle.index_model.specs.declared.limits.Limits.{Limits}
use Rattle.page_action.specs.Contents.{entry_on_live_leaf}
use Rattle.page_action.specs.declared.page_store.PageStore.{Ghosts}
use Rattle.page_codec.specs.declared.page.Page.{Page}
use Rattle.page_store.specs.Stores.{device_of}
use Rattle.page_store.specs.declared.store.Store.{Store}
use Rattle.recovery.specs.Index.{HasIndex}
use Rattle.text_forms.specs.Printing.{numbered}
use Rattle.tree_acts.specs.TheoremKeys.{IsTreeFor}
use Rattle.command_line.specs.declared.copying.CopySizes.{CopySizes}

-- the limits of the copy of an index of these: a size that isn't said is the old one
abbrev pub limits_of_copy : CopySizes → Limits → Limits
limits_of_copy sizes old = record {
  items = unwrap_or sizes.items old.items;
  pages = unwrap_or sizes.pages old.pages;
  log_bytes = unwrap_or sizes.log_bytes old.log_bytes;
  unique = old.unique || sizes.unique;
}

-- what became of a copy
abbrev pub CopyEnd : Type 0 → Type 0
CopyEnd N = Result (CopiedInFile N) (NotInFile N)

-- The index in a file that held these bytes, of which a copy was begun; only calls of its own have changed
-- its store since it was opened. Let the devices have kept the disk model, and the file have held an index
-- whose pages are a B-link tree. If the copy is whole, whatever a crash leaves of it is an index of the
-- entries on these pages, with the limits of such a copy. If a key of it was there, one of the entries has a
-- key twice.
pub record IsCopyFromFile {D N : Type 0} (d : DeviceGhosts D) (e : DeviceGhosts N) (g : Ghosts (Store D d)) (bytes : ℕ → List ℕ) (sizes : CopySizes)
    (copied : CopyEnd N) (index : Index (Store D d)) : Type 0 where
  pub first : Index (Store D d)
  pub follows : g.follows first.store index.store
  pub whole : IfOk copied (λ copy. IsTrue (e.is_honest copy.device) → (g.backing index.store).honest ≡ true → (format : Format) (pages : List Page)
      → HasIndex format pages (bytes_before bytes (d.trace (device_of d first.store))) → IsTreeFor format pages
      → AreLimits (made (limits_of_copy sizes (sizes_of format)))
      × IsCopyOf e (made (limits_of_copy sizes (sizes_of format))) (entry_on_live_leaf pages) copy.count copy.device)
  pub refused : IfErr copied (λ not_copied. (g.backing index.store).honest ≡ true → (format : Format) (pages : List Page)
      → HasIndex format pages (bytes_before bytes (d.trace (device_of d first.store))) → IsTreeFor format pages
      → IsNotInFileFor e (entry_on_live_leaf pages) not_copied)

-- the line of so many entries that were copied
abbrev pub copied_text : ℕ → List ℕ
copied_text count = numbered (codes "copied ") count

-- the copy is whole, and the number of its entries was printed
abbrev pub PrintsCount : {N : Type 0} → Option (List ℕ) → Option (List ℕ) → CopyEnd N → Type 0
PrintsCount old new copied = MatchResult copied (λ copy. Appends old new (copied_text copy.count ++ 10 ∷ [])) (λ not_copied. ⊥)

-- the copy isn't whole, and was refused with this fault
abbrev pub IsToldCopy : {N : Type 0} → Fault → CopyEnd N → Type 0
IsToldCopy fault copied = MatchResult copied (λ copy. ⊥) (λ not_copied. fault ≡ fault_in_file not_copied)
