-- What is told of the copy of an index, by the pages that it was opened with.
use Rattle.std.proofs.Common.{◌≡◌, ◌||◌, ℕ, Bool, true, false, List, [], ap, subst, sym, ◌∙◌}
use Rattle.access_method.specs.Files.{bytes_before}
use Rattle.access_method.specs.Indexes.{AreSoMany, ForEachIndexHistory, IndexBegins, has_entry}
use Rattle.access_method.specs.declared.index.Index.{Index}
use Rattle.index_copy.specs.Copying.{HasKeyTwice}
use Rattle.index_copy.specs.InFile.{IsNotInFileFor}
use Rattle.index_copy.specs.Onto.{IsCopyOf, IsIndexOf, IsNoCopyFor}
use Rattle.index_copy.specs.declared.copying.NotCopied.TheVariants.{NotGiven, NotPut, TooMany}
use Rattle.index_copy.specs.declared.in_file.NotInFile.{NotInFile}
use Rattle.index_copy.specs.declared.in_file.NotInFile.TheVariants.{NotMade, NotWhole}
use Rattle.index_copy.specs.declared.onto.NoCopy.{NoCopy}
use Rattle.index_copy.specs.declared.onto.NoCopy.TheVariants.{NotOpened, Stopped, NotClosed}
use Rattle.index_model.specs.Formats.{made, sizes_of}
use Rattle.index_model.specs.Limits.{AreLimits}
use Rattle.index_model.specs.Row.{Row}
use Rattle.index_model.specs.declared.format.Format.{Format}
use Rattle.page_action.specs.Causes.{with_row}
use Rattle.page_action.specs.Contents.{entry_on_live_leaf}
use Rattle.page_store.specs.Stores.{device_of, state_of}
use Rattle.recovery.specs.Index.{HasIndex}
use Rattle.command_line.specs.Copying.{CopyEnd, IsCopyFromFile, limits_of_copy}
use Rattle.command_line.specs.declared.copying.CopySizes.{CopySizes}
use Rattle.command_line.proofs.Imports.{Ok, Err, IfOk, OnOk, IsTrue, DeviceGhosts, Entry, Ghosts, IsTreeFor, Limits, Page, Store}
use Rattle.std.specs.Prelude.{IfErr}

-- entries that are the same
module _ (was is : Entry → Bool) (same : (e : Entry) → was e ≡ is e) where
  many_same : (count : ℕ) → AreSoMany was count → AreSoMany is count
  many_same count many = record { listed = many.listed; once = many.once; such = λ e. many.such e ∙ same e; many = many.many }

  index_same : (format : Format) (image : List ℕ) → IsIndexOf format was image → IsIndexOf format is image
  index_same format image left = record { pages = left.pages; index = left.index; tree = left.tree; contents = λ e. left.contents e ∙ same e }

  pub copy_same : {N : Type 0} (e : DeviceGhosts N) (format : Format) (count : ℕ) (device : N) → IsCopyOf e format was count device → IsCopyOf e format is count device
  copy_same e format count device copy = record { many = many_same count copy.many; leaves = λ image may. index_same format image (copy.leaves image may) }

  twice_same : (row : Row) → HasKeyTwice was (λ e. false) row → HasKeyTwice is (λ e. false) row
  twice_same row twice = record {
    entry = twice.entry;
    is_one = sym (same twice.entry) ∙ twice.is_one;
    apart = twice.apart;
    taken = ap (λ (b : Bool). b || false) (sym (same (with_row twice.entry row))) ∙ twice.taken;
  }

  no_copy_same : (why : NoCopy) → IsNoCopyFor was why → IsNoCopyFor is why
  no_copy_same (NotOpened fault) told = tt
  no_copy_same (Stopped (NotGiven fault)) told = tt
  no_copy_same (Stopped (NotPut fault)) told = λ row is. twice_same row (told row is)
  no_copy_same (Stopped TooMany) told = tt
  no_copy_same (NotClosed fault) told = tt

  pub refused_same : {N : Type 0} (e : DeviceGhosts N) (not_copied : NotInFile N) → IsNotInFileFor e was not_copied → IsNotInFileFor e is not_copied
  refused_same e (NotMade refused) told = tt
  refused_same e (NotWhole half) told = λ honest. no_copy_same half.why (told honest)

-- a copy of an index that was opened from a file
module _ {D N : Type 0} (d : DeviceGhosts D) (e : DeviceGhosts N) (g : Ghosts (Store D d)) (bytes : ℕ → List ℕ) (sizes : CopySizes) (limits : Limits) (first last : Index (Store D d))
    (begins : IsTrue (d.is_honest (device_of d first.store)) → (format : Format) (pages : List Page) → HasIndex format pages (bytes_before bytes (d.trace (device_of d first.store)))
    → IsTreeFor format pages → IndexBegins d g format pages first)
    (honest_first : (g.backing last.store).honest ≡ true → IsTrue (d.is_honest (device_of d first.store)))
    (sizes_are : limits ≡ limits_of_copy sizes (sizes_of (state_of d first.store).format)) (follows : g.follows first.store last.store)
  where
    pub copy_from_file : (copied : CopyEnd N) → OnOk copied (AreLimits (made limits))
        → IfOk copied (λ copy. IsTrue (e.is_honest copy.device)
        → ForEachIndexHistory g first last (λ start history calls. IsCopyOf e (made limits) (has_entry g first.store) copy.count copy.device))
        → IfErr copied (λ not_copied. ForEachIndexHistory g first last (λ start history calls. IsNotInFileFor e (has_entry g first.store) not_copied))
        → IsCopyFromFile d e g bytes sizes copied last
    copy_from_file (Ok copy) allowed holds refused = record {
      first = first;
      follows = follows;
      whole = λ honest_new honest format pages has tree.
          let begun = begins (honest_first honest) format pages has tree in
          let same : made limits ≡ made (limits_of_copy sizes (sizes_of format)) = ap made (sizes_are ∙ ap (λ (f : Format). limits_of_copy sizes (sizes_of f)) begun.format_is) in (
            subst AreLimits same allowed,
            subst (λ (f : Format). IsCopyOf e f (entry_on_live_leaf pages) copy.count copy.device) same
                (copy_same (has_entry g first.store) (entry_on_live_leaf pages) (λ x. begun.fits.explains.contents x) e (made limits) copy.count copy.device
                (holds honest_new honest (entry_on_live_leaf pages) [] [] begun.fits)),
          );
      refused = tt;
    }
    copy_from_file (Err not_copied) allowed holds refused = record {
      first = first;
      follows = follows;
      whole = tt;
      refused = λ honest format pages has tree.
          let begun = begins (honest_first honest) format pages has tree in
          refused_same (has_entry g first.store) (entry_on_live_leaf pages) (λ x. begun.fits.explains.contents x) e not_copied
          (refused honest (entry_on_live_leaf pages) [] [] begun.fits);
    }
