-- An insert on its straight way to a leaf that has room.
use Rattle.std.proofs.Common.{◌≡◌, ℕ, false, Some, slice_get, refl, sym, subst}
use Rattle.page_action.proofs.StoredPages.{stored_page}
use Rattle.insert_split.proofs.Imports.{State, IsInOrder, InsertInvariant, takes_block_at, splits_root_at, IsStraight, HasRoomFor, InsertAt, Coming, Finishing, Start, At, Holds, InsertOp}
use Rattle.insert_split.proofs.Adding.{leaf_there, covers_there, roomy_is}

-- no step of it takes a block, or splits the root
pub straight_takes_none : (st : State) (op : InsertOp) → IsInOrder st → InsertInvariant st op → IsStraight st op.entry op.at → HasRoomFor st op.entry
    → (takes_block_at st op.at ≡ false) × (splits_root_at st op.at ≡ false)
straight_takes_none st op order fits position room = by op.at refl position
  where
    by : (at : InsertAt) → op.at ≡ at → IsStraight st op.entry at → (takes_block_at st at ≡ false) × (splits_root_at st at ≡ false)
    by (Coming Start) is position = (refl, refl)
    by (Coming (At on)) is position = (refl, refl)
    by (Coming (Holds block)) is position =
        let leaf = (leaf_there st op block is fits).1 in
        let block_is = (stored_page st.format block st.pages leaf.page order.tree.stored leaf.found).block_is in
        let covers = covers_there st fits.start op.entry block leaf.page order.tree block_is leaf.found leaf in
        let few = room leaf.page (subst (λ (b : ℕ). slice_get st.pages b ≡ Some leaf.page) (sym block_is) leaf.found) covers in
        ((roomy_is st block leaf.page leaf.found few).2, refl)
    by (Finishing splits) is position = absurd position
