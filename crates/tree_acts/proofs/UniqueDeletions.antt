-- The pages that an act of a page deletion writes on a unique index are pages of one.
use Rattle.std.proofs.Common.{◌≡◌, ℕ, true, Option, List, [], ◌∷◌, ◌++◌, sym, subst}
use Rattle.tree_acts.proofs.Imports.{AllByRecursion-append, Page, State, IsUniquePage, AreUnique, node_of, links_of, unique_page, unique_links, bounds_handed, HasTree}
use Rattle.tree_acts.specs.Deletions.{LeafIsHalfDead, IsLinkedTo, leftmost, neighbour, PageIsUnlinked}
use Rattle.tree_acts.proofs.UniqueActs.{seen_alike}

pub half_death_unique : (st : State) (leaf right parent leaf_after parent_after : Page) → HasTree st → LeafIsHalfDead st leaf right parent leaf_after parent_after
    → st.format.unique ≡ true → AreUnique (leaf_after ∷ parent_after ∷ [])
half_death_unique st leaf right parent leaf_after parent_after has h asked =
    let all : AreUnique st.pages = has.unique asked in
    let old : IsUniquePage leaf = unique_page st.pages leaf.block leaf all h.found in
    let above : IsUniquePage parent = unique_page st.pages parent.block parent all h.parent_found in (
      subst (λ (p : Page). IsUniquePage p) (sym h.leaf_is) (record { high = old.high; bounds = old.bounds; keys = old.keys }),
      (
        seen_alike parent_after _ h.parent_is
            (unique_links (node_of parent) (links_of parent_after.items) above
            (bounds_handed leaf.block right.block (links_of parent.items) (links_of parent_after.items) h.handed above.bounds)),
        tt,
      ),
    )

-- the page that was left of one that is unlinked
linked_unique : (st : State) (right : ℕ) (left : Option ℕ) (mended : List Page) → AreUnique st.pages → IsLinkedTo st right left mended → AreUnique mended
linked_unique st right left mended all leftmost = tt
linked_unique st right left mended all (neighbour {l = l} old after found block only) =
    let was : IsUniquePage old = unique_page st.pages l old all found in
    (subst (λ (p : Page). IsUniquePage p) (sym only) (record { high = was.high; bounds = was.bounds; keys = was.keys }), tt)

pub unlink_unique : (st : State) (page right after right_after : Page) (mended : List Page) → HasTree st → PageIsUnlinked st page right after right_after mended
    → st.format.unique ≡ true → AreUnique (mended ++ after ∷ right_after ∷ [])
unlink_unique st page right after right_after mended has h asked =
    let all : AreUnique st.pages = has.unique asked in
    let old : IsUniquePage right = unique_page st.pages right.block right all h.right_found in
    AllByRecursion-append IsUniquePage mended (after ∷ right_after ∷ []) (linked_unique st right.block page.left mended all h.mends) (
      subst (λ (p : Page). IsUniquePage p) (sym h.after_is) (record { high = tt; bounds = tt; keys = tt }),
      (subst (λ (p : Page). IsUniquePage p) (sym h.right_after_is) (record { high = old.high; bounds = old.bounds; keys = old.keys }), tt),
    )
