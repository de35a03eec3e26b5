-- The pages that an act writes on a unique index are pages of one, because those that stood there are.
use Rattle.std.proofs.Common.{◌≡◌, ℕ, suc, Bool, true, Option, Some, None, List, [], ◌∷◌, ◌++◌, sym, subst}
use Rattle.tree_shape.specs.KeyBounds.{IsKeyBound}
use Rattle.tree_acts.proofs.Imports.{IfSome, IsNone, AllByRecursion, Bound, Entry, AllByRecursion-append, entries_of, Ascends, IsMeta, IsOfKind, Items, Page, State, KeyBefore, IsKeyLink}
use Rattle.tree_acts.proofs.Imports.{IsUniqueNode, IsUniquePage, AreUnique, Node, node_of, links_of, unique_page, unique_put, unique_halves, unique_links, unique_parts, unique_root, keys_filter}
use Rattle.tree_acts.proofs.Imports.{bounds_added, HasTree, EntryIsPut, EntriesAreRemoved, IsMended, rightmost, neighbour, LeafIsSplit, IsIncompleteSplit, IsClear, SplitIsFinished, ParentIsSplit}
use Rattle.tree_acts.proofs.Imports.{RootIsSplit}

-- a page with the bounds and the entries of another
pub seen_alike : (page : Page) (node : Node) → node_of page ≡ node → IsUniqueNode node → IsUniquePage page
seen_alike page node is h = subst (λ (n : Node). IsUniqueNode n) (sym is) h

pub put_unique : (st : State) (start : ℕ) (e : Entry) (page after : Page) → HasTree st → EntryIsPut st start e page after → st.format.unique ≡ true → AreUnique (after ∷ [])
put_unique st start e page after has h asked = (
  seen_alike after _ h.after_is
      (unique_put (node_of page) e (entries_of after.items) (unique_page st.pages page.block page (has.unique asked) h.found) h.put (h.alone asked)),
  tt,
)

pub removal_unique : (st : State) (keeps : Entry → Bool) (page after : Page) → HasTree st → EntriesAreRemoved st keeps page after → st.format.unique ≡ true → AreUnique (after ∷ [])
removal_unique st keeps page after has h asked =
    let old : IsUniquePage page = unique_page st.pages page.block page (has.unique asked) h.found in
    (subst (λ (p : Page). IsUniquePage p) (sym h.after_is) (record { high = old.high; bounds = tt; keys = keys_filter keeps (entries_of page.items) old.keys }), tt)

-- the page that was right of one that is split
mended_unique : (st : State) (new : ℕ) (right : Option ℕ) (mended : List Page) → AreUnique st.pages → IsMended st new right mended → AreUnique mended
mended_unique st new right mended all rightmost = tt
mended_unique st new right mended all (neighbour {r = r} old after found block only) =
    let was : IsUniquePage old = unique_page st.pages r old all found in
    (subst (λ (p : Page). IsUniquePage p) (sym only) (record { high = was.high; bounds = was.bounds; keys = was.keys }), tt)

pub leaf_split_unique : (st : State) (start : ℕ) (e : Entry) (page left right : Page) (mended : List Page) → HasTree st → LeafIsSplit st start e page left right mended
    → st.format.unique ≡ true → AreUnique (left ∷ right ∷ mended)
leaf_split_unique st start e page left right mended has h asked =
    let both = unique_halves (node_of page) (node_of left) (node_of right) page.block right.block e
    (unique_page st.pages page.block page (has.unique asked) h.found) (h.alone asked) h.halves (h.cut asked) in
    (both.0, (both.1, mended_unique st right.block page.right mended (has.unique asked) h.mends))

-- the page whose split is finished
module _ (st : State) (start level : ℕ) (s : Bound) (p after : Page) (new : ℕ) (all : AreUnique st.pages) (h : IsIncompleteSplit st start level s p new) where
  was : IsUniquePage p
  was = unique_page st.pages p.block p all h.found

  key_bound : IsKeyBound s
  key_bound = subst (λ (o : Option Bound). IfSome o IsKeyBound) h.high_is was.high

  clear_unique : IsClear p after → IsUniquePage after
  clear_unique clear = subst (λ (q : Page). IsUniquePage q) (sym clear.only) (record { high = was.high; bounds = was.bounds; keys = was.keys })

pub finish_unique : (st : State) (start level : ℕ) (s : Bound) (p q p_after q_after : Page) (new : ℕ) → HasTree st → SplitIsFinished st start level s p q p_after q_after new
    → st.format.unique ≡ true → AreUnique (q_after ∷ p_after ∷ [])
finish_unique st start level s p q p_after q_after new has h asked =
    let all : AreUnique st.pages = has.unique asked in
    let parent : IsUniquePage q = unique_page st.pages q.block q all h.found in
    let bounds = bounds_added p.block new s (links_of q.items) (links_of q_after.items) h.added (key_bound st start level s p p_after new all h.unfinished) parent.bounds in (
      seen_alike q_after _ h.after_is (unique_links (node_of q) (links_of q_after.items) parent bounds),
      (clear_unique st start level s p p_after new all h.unfinished h.clear, tt),
    )

pub parent_split_unique : (st : State) (start level : ℕ) (s : Bound) (p q p_after left right : Page) (mended : List Page) (new : ℕ) → HasTree st
    → ParentIsSplit st start level s p q p_after left right mended new → st.format.unique ≡ true → AreUnique (left ∷ right ∷ mended ++ p_after ∷ [])
parent_split_unique st start level s p q p_after left right mended new has h asked =
    let all : AreUnique st.pages = has.unique asked in
    let parent : IsUniquePage q = unique_page st.pages q.block q all h.found in
    let bounds = bounds_added p.block new s (links_of q.items) h.links h.added (key_bound st start level s p p_after new all h.unfinished) parent.bounds in
    let both = unique_parts (node_of q) (node_of left) (node_of right) q.block right.block h.links parent bounds h.halves in (
      both.0,
      (
        both.1,
        AllByRecursion-append IsUniquePage mended (p_after ∷ []) (mended_unique st right.block q.right mended all h.mends)
            (clear_unique st start level s p p_after new all h.unfinished h.clear, tt),
      ),
    )

-- a metapage has neither bounds nor entries
no_high : (high : Option Bound) → IsNone high → IfSome high IsKeyBound
no_high None none = tt
no_high (Some b) none = absurd cc

pub root_split_unique : (st : State) (start : ℕ) (s : Bound) (meta meta_after p p_after root : Page) (new : ℕ) → HasTree st
    → RootIsSplit st start s meta meta_after p p_after root new → st.format.unique ≡ true → AreUnique (root ∷ meta_after ∷ p_after ∷ [])
root_split_unique st start s meta meta_after p p_after root new has h asked =
    let all : AreUnique st.pages = has.unique asked in
    let kind : IsMeta meta_after = subst (IsOfKind meta_after) h.meta_is.kind h.may.3.0.storable.admitted.kind in (
      seen_alike root _ h.root_is (unique_root (suc meta.level) p.block new s (key_bound st start meta.level s p p_after new all h.unfinished)),
      (
        record {
          high = no_high meta_after.high kind.high;
          bounds = subst (λ (i : Items). AllByRecursion IsKeyLink (links_of i)) (sym h.meta_is.kind) tt;
          keys = subst (λ (i : Items). Ascends KeyBefore (entries_of i)) (sym h.meta_is.kind) tt;
        },
        (clear_unique st start meta.level s p p_after new all h.unfinished h.clear, tt),
      ),
    )
