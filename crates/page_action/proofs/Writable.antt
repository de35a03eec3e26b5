-- Each index may have pages of the second layout.
use Rattle.std.proofs.Common.{◌≡◌, ◌≤◌, sym, subst}
use Rattle.index_model.specs.Limits.{Admits}
use Rattle.index_model.specs.declared.layout.Layout.{Layout}
use Rattle.index_model.specs.declared.layout.Layout.TheVariants.{One, Two}
use Rattle.page_codec.specs.Grammar.{IsPage}
use Rattle.page_codec.specs.Spelling.{count_of}
use Rattle.page_action.proofs.Imports.{Format, Page, IsWritable}

pub admits_two : (layout : Layout) → Admits layout Two
admits_two One = tt
admits_two Two = tt

-- a page of it may be written, if the format admits it and it has no more items than a page may
pub writable : (format : Format) (page : Page) → page.layout ≡ Two → IsPage page → count_of page.items ≤ format.items → IsWritable format page
writable format page new admitted few = record {
  storable = record { admitted = admitted; few = few; layout = subst (Admits format.layout) (sym new) (admits_two format.layout) };
  new = new;
}
