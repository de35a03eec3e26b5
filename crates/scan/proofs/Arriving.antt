-- The leaf after the frontier is a leaf.
use Rattle.std.proofs.Common.{◌≡◌, ◌<◌, ◌≤◌, Bool, Some, length, slice_get, refl, sym, ap, subst, ◌∙◌, arith}
use Rattle.arrayvec.specs.declared.array_vec.ArrayVec.{ArrayVec}
use Rattle.page_codec.specs.declared.page.Items.TheVariants.{Meta, Entries, Downlinks}
use Rattle.page_codec.specs.declared.page.PageState.{PageState}
use Rattle.tree_acts.proofs.Finishing.{covered}
use Rattle.tree_acts.proofs.Lasting.{on_level}
use Rattle.tree_acts.proofs.Overlays.{node_there}
use Rattle.scan.proofs.Imports.{Bound, Entry, Holding, HasRoom, entries_of, HasEntries, IsPage, IsOfKind, IsLiveLeaf, IsLeafIn, Items, Page, Live, State, Node, IsIn, HasTree, HasCover}
use Rattle.scan.proofs.Imports.{ScanInvariant, ScanOp}

-- a page of the lowest level has entries
pub leaf_has_entries : (st : State) (aim : Bound → Bool) (page : Page) → HasTree st → slice_get st.pages page.block ≡ Some page → IsPage page → HasCover st 0 aim page.block → HasEntries page.items
leaf_has_entries st aim page h found admitted cover = by page.items admitted.kind
  where
    c : (0 ≤ h.tree.meta.level) × IsIn page.block (h.tree.chain 0)
    c = (let w = covered st h.tree 0 aim page.block cover in (w.0, w.1))

    above : 0 < page.block
    above = (h.tree.is.in_use 0 page.block c.0 c.1).0

    lowest : page.level ≡ 0
    lowest = sym (ap (λ (n : Node). n.level) (node_there st.pages page.block page found)) ∙ on_level st h.tree 0 page.block c.0 c.1

    by : (items : Items) → IsOfKind page items → HasEntries items
    by Meta k = absurd (let z : page.block ≡ 0 = k.block in let a = above in omega arith)
    by (Entries v) k = tt
    by (Downlinks v) k = absurd (let z = k.level.0 in let a = lowest in omega arith)

pub other_items : (items : Items) → ((v : ArrayVec Entry 50 (Unit {0})) → items ≡ Entries v → ⊥) → HasEntries items → ⊥
other_items Meta other has = has
other_items (Entries v) other has = other v refl
other_items (Downlinks v) other has = has

pub live_leaf : (page : Page) → HasEntries page.items → page.state ≡ Live → IsPage page → IsLiveLeaf page (entries_of page.items)
live_leaf page has alive admitted = by page.items has admitted.kind
  where
    by : (items : Items) → HasEntries items → IsOfKind page items → IsLiveLeaf page (entries_of items)
    by Meta has k = absurd has
    by (Downlinks v) has k = absurd has
    by (Entries v) has k = subst (λ (s : PageState). IsLeafIn s page v.items) alive k.rest

-- a scan may latch a page
pub scan_has_room : (st : State) (op : ScanOp) → ScanInvariant st op → HasRoom st.table op.session
scan_has_room st op fits = subst (λ (h : Holding). length h.latches < 8) (sym fits.held) (omega arith)
