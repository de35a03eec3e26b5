-- The page to the right of one that is split, with its left link mended; and a block that is free.
use Rattle.std.proofs.Common.{◌≡◌, ◌≢◌, ℕ, ◌<◌, ◌≤◌, true, true≢false, Option, Some, None, List, length, slice_get, refl, sym, ap, subst, ◌∙◌, arith}
use Rattle.index_model.specs.declared.layout.Layout.TheVariants.{Two}
use Rattle.page_codec.specs.Edits.{renewed}
use Rattle.page_codec.proofs.Renewed.{renewed_is_page}
use Rattle.page_codec.specs.declared.page.PageState.{PageState}
use Rattle.page_action.proofs.Writable.{writable}
use Rattle.tree_shape.specs.Mending.{MayBeMended}
use Rattle.descent.proofs.Imports.{and_parts, Entry, IsBlock, IsPage, IsOfKind, IsLeafIn, Items, Meta, Entries, Downlinks, Page, Live, HalfDead, Deleted, IsFresh, is_deleted, is_deleted_page}
use Rattle.descent.proofs.Imports.{is_deleted_state, State, IsApartFrom, AreActable, slice_get_within}
use Rattle.descent.specs.Splitting.{RightIsMendable, RightIsStored, mended_to}

-- a page of the format stays one with another left link
pub mended_page : (page : Page) (left : ℕ) → IsPage page → MayBeMended page → IsBlock left → IsPage (record page { left = Some left })
mended_page page left admitted mends block = record {
  cycle = admitted.cycle;
  deletion = admitted.deletion;
  left = block;
  right = admitted.right;
  high = admitted.high;
  kind = by page.items refl admitted.kind;
}
  where
    leaf : (s : PageState) → page.state ≡ s → (es : List Entry) → IsLeafIn s page es → IsLeafIn s (record page { left = Some left }) es
    leaf Live is es h = record { deletion = h.deletion; high = h.high; split = h.split; entries = h.entries }
    leaf HalfDead is es h = record { deletion = h.deletion; high = h.high; right = h.right; split = h.split; entries = h.entries }
    leaf Deleted is es h = absurd (mends.in_use is)

    by : (items : Items) → page.items ≡ items → IsOfKind page items → IsOfKind (record page { left = Some left }) items
    by Meta is h = absurd (mends.no_meta is)
    by (Entries v) is h = record { block = h.block; level = h.level; count = h.count; rest = leaf page.state refl v.items h.rest }
    by (Downlinks v) is h =
        record { block = h.block; level = h.level; state = h.state; high = h.high; split = h.split; cycle = h.cycle; deletion = h.deletion; count = h.count; first = h.first; links = h.links }

not_deleted : (state : PageState) → state ≢ Deleted → is_deleted_state state ≡ true → ⊥
not_deleted Live ne h = true≢false (sym h)
not_deleted HalfDead ne h = true≢false (sym h)
not_deleted Deleted ne h = ne refl

-- a block for a new page is none of a page that is in use and not deleted
pub fresh_apart : (st : State) (new block : ℕ) (page : Page) → IsFresh st new → slice_get st.pages block ≡ Some page → page.state ≢ Deleted → block ≢ new
fresh_apart st new block page fresh found in_use same =
    let used : new < length st.pages = subst (λ (b : ℕ). b < length st.pages) same (slice_get_within st.pages block page found) in
    let gone : is_deleted st.pages new ≡ true = (and_parts (is_deleted st.pages new) _ (fresh.reusable used)).0 in
    not_deleted page.state in_use (sym (ap is_deleted_page (sym (ap (slice_get st.pages) same) ∙ found)) ∙ gone)

-- what is needed of the page to the right, whose left link is mended
pub record RightMay (st : State) (block new : ℕ) (right : Option Page) : Type 0 where
  pub apart : IsApartFrom block (mended_to new right)
  pub apart_new : IsApartFrom new (mended_to new right)
  pub may : AreActable st.format (length st.pages) (mended_to new right)

pub right_may : (st : State) (session block new : ℕ) (link : Option ℕ) (right : Option Page) → length st.pages ≤ st.format.pages → IsFresh st new → IsBlock new
    → RightIsMendable st link → link ≢ Some block → RightIsStored st session link right → RightMay st block new right
right_may st session block new None None few fresh is_block mendable apart stored = record { apart = tt; apart_new = tt; may = tt }
right_may st session block new None (Some page) few fresh is_block mendable apart stored = absurd stored
right_may st session block new (Some r) None few fresh is_block mendable apart stored = absurd stored
right_may st session block new (Some r) (Some page) few fresh is_block mendable apart stored =
    let used : r < length st.pages = slice_get_within st.pages r mendable.page mendable.found in
    let at_r : page.block ≡ r = stored.0.block_is in
    record {
      apart = (λ same. apart (ap Some (sym at_r ∙ same)), tt);
      apart_new = (λ same. fresh_apart st new r mendable.page fresh mendable.found mendable.mends.in_use (sym at_r ∙ same), tt);
      may = (
        writable st.format (record page { layout = Two; left = Some new }) refl
            (mended_page (renewed page) new (renewed_is_page page stored.0.storable.admitted) (record { no_meta = stored.1.no_meta; in_use = stored.1.in_use }) is_block) stored.0.storable.few,
        (omega (arith, at_r, used), omega (arith, at_r, used, few)),
        tt,
        tt,
      );
    }
