-- A block for a new page.
use Rattle.std.proofs.Common.{◌≡◌, ℕ, zero, suc, ◌<◌, true, true≢false, List, [], ◌∷◌, length, sym, ap, ◌∙◌, arith}
use Rattle.index_model.specs.declared.format.Format.{Format}
use Rattle.descent.proofs.Imports.{and_parts, IsPage, IsOfKind, Items, Meta, Entries, Downlinks, Page, Live, IsFresh, is_deleted, is_deleted_state, State, AreStored}

-- a page of block 0 is live
live_at_0 : (page : Page) → IsPage page → page.block ≡ 0 → page.state ≡ Live
live_at_0 page admitted is = by page.items admitted.kind
  where
    by : (items : Items) → IsOfKind page items → page.state ≡ Live
    by Meta h = h.state
    by (Entries v) h = absurd (let k : 0 < page.block = h.block.0 in omega arith)
    by (Downlinks v) h = absurd (let k : 0 < page.block = h.block.0 in omega arith)

not_deleted_at_0 : (format : Format) (pages : List Page) → AreStored format 0 pages → is_deleted pages 0 ≡ true → ⊥
not_deleted_at_0 format [] stored gone = absurd cc
not_deleted_at_0 format (page ∷ pages) stored gone =
    true≢false (sym gone ∙ ap is_deleted_state (live_at_0 page stored.0.storable.admitted stored.0.block_is))

-- a block for a new page isn't that of the metapage
pub fresh_past_meta : (st : State) (block : ℕ) → AreStored st.format 0 st.pages → 0 < length st.pages → IsFresh st block → 0 < block
fresh_past_meta st zero stored some fresh = absurd (not_deleted_at_0 st.format st.pages stored (and_parts (is_deleted st.pages 0) _ (fresh.reusable some)).0)
fresh_past_meta st (suc block) stored some fresh = omega arith
