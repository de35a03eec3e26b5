-- A copy that was closed is on its device as a whole.
use Rattle.std.proofs.Common.{◌≡◌, ◌≤◌, ℕ, Bool, true, false, ◌||◌, List, [], length, take, sym, ap, subst, ◌∙◌, arith}
use Rattle.std.proofs.lemmas.List.{take_all}
use Rattle.index_model.specs.Actions.{Action, contents_after}
use Rattle.index_model.specs.declared.entry.Entry.{Entry}
use Rattle.index_model.specs.declared.format.Format.{Format}
use Rattle.device.specs.Disk.{MayCrashTo}
use Rattle.device.specs.declared.device.Device.{Ghosts as DeviceGhosts}
use Rattle.page_action.specs.Contents.{entry_on_live_leaf}
use Rattle.page_action.specs.declared.page_store.PageStore.{Ghosts}
use Rattle.page_codec.specs.declared.page.Page.{Page}
use Rattle.page_store.specs.Stores.{state_of}
use Rattle.page_store.specs.declared.store.Store.{Store}
use Rattle.world.specs.Reopening.{IsIndexAfterPrefix}
use Rattle.access_method.specs.Files.{StaysOnDevice}
use Rattle.access_method.specs.Indexes.{ForEachIndexHistory, IndexBegins}
use Rattle.access_method.specs.declared.index.Index.{Index}
use Rattle.index_copy.proofs.Entries.{or_none}
use Rattle.index_copy.specs.Copying.{Gains, FitsOn}
use Rattle.index_copy.specs.Onto.{IsIndexOf, IsNoCopyFor}
use Rattle.index_copy.specs.declared.copying.NotCopied.{NotCopied}
use Rattle.index_copy.specs.declared.copying.NotCopied.TheVariants.{NotGiven, NotPut, TooMany}
use Rattle.index_copy.specs.declared.onto.NoCopy.TheVariants.{Stopped}
use Rattle.index_copy.specs.Copies.{IsNotCopied}
use Rattle.page_action.specs.Causes.{with_row}
use Rattle.access_method.specs.Indexes.{has_entry}

-- an index that began without entries has those that came; so has what a crash leaves of it once it is closed
pub left_whole : {D : Type 0} (d : DeviceGhosts D) (h : Ghosts (Store D d)) (format : Format) (pages : List Page) (comes : Entry → Bool) (opened filled : Index (Store D d)) (device : D) (actions : ℕ)
    → ((e : Entry) → entry_on_live_leaf pages e ≡ false) → IndexBegins d h format pages opened
    → ForEachIndexHistory h opened filled (FitsOn h opened filled) → ForEachIndexHistory h opened filled (λ start history calls. Gains h comes opened.store filled.store)
    → (h.backing filled.store).honest ≡ true → (state_of d filled.store).format ≡ format → actions ≡ (h.state filled.store).acts
    → StaysOnDevice d h actions filled device → d.is_honest device ≡ true
    → (image : List ℕ) → MayCrashTo (d.trace device).now image → IsIndexOf format comes image
left_whole d h format pages comes opened filled device actions empty begins goes gains honest format_is number stands honest_then image may =
    let start : Entry → Bool = entry_on_live_leaf pages in
    let more = goes honest start [] [] begins.fits in
    let history : List Action = more.then_history in
    let left : IsIndexAfterPrefix format start history actions image =
    subst (λ (l : Format). IsIndexAfterPrefix l start history actions image) format_is (stands honest_then start history more.then_calls more.fits (more.keeps begins.keeps) image may) in
    let count : (h.state filled.store).acts ≡ length history = more.fits.explains.count in
    let from : actions ≤ left.part = left.from in
    let to : left.part ≤ length history = left.to in
    let part : left.part ≡ length history = omega (arith, from, to, number, count) in
    let whole : take left.part history ≡ history = ap (λ (n : ℕ). take n history) part ∙ take_all (length history) history (omega arith) in
    record {
      pages = left.pages;
      index = left.index;
      tree = (left.are.tree, left.are.keyed);
      contents = λ e. left.are.contents e ∙ ap (λ (l : List Action). contents_after start l e) whole ∙ sym (more.fits.explains.contents e)
          ∙ gains honest start [] [] begins.fits e ∙ ap (λ (b : Bool). comes e || b) (begins.fits.explains.contents e ∙ empty e) ∙ or_none (comes e);
    }

-- an empty index that refused an entry for its key had it from another one
pub no_copy_for : {S D : Type 0} (g : Ghosts S) (d : DeviceGhosts D) (h : Ghosts (Store D d)) (from : S) (format : Format) (pages : List Page)
    (opened filled : Index (Store D d)) (why : NotCopied)
    → ((e : Entry) → entry_on_live_leaf pages e ≡ false) → IndexBegins d h format pages opened → (h.backing filled.store).honest ≡ true
    → IsNotCopied g h from opened filled why → IsNoCopyFor (has_entry g from) (Stopped why)
no_copy_for g d h from format pages opened filled (NotGiven fault) empty begins honest is = tt
no_copy_for g d h from format pages opened filled TooMany empty begins honest is = tt
no_copy_for g d h from format pages opened filled (NotPut fault) empty begins honest is = λ row same.
    let twice = is honest (entry_on_live_leaf pages) [] [] begins.fits row same in
    record {
      entry = twice.entry;
      is_one = twice.is_one;
      apart = twice.apart;
      taken = ap (λ (b : Bool). has_entry g from (with_row twice.entry row) || b)
          (sym (begins.fits.explains.contents (with_row twice.entry row) ∙ empty (with_row twice.entry row))) ∙ twice.taken;
    }
