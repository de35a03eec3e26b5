-- The pages of an empty index are a tree with no entry on it.
use Rattle.std.specs.List.{AllByRecursion}
use Rattle.std.specs.Prelude.{◌≡◌, ℕ, zero, suc, true, false, ◌||◌, Option, Some, None, IfSome, IsNone, List, [], ◌∷◌}
use Rattle.std.proofs.Common.{refl, sym, ap, subst, ◌∙◌}
use Rattle.index_model.specs.Order.{is_among}
use Rattle.index_model.specs.declared.bound.Bound.{Bound}
use Rattle.index_model.specs.declared.entry.Entry.{Entry}
use Rattle.page_action.specs.Contents.{live_entries, is_on, entry_on_live_leaf}
use Rattle.page_codec.specs.Edits.{entries_of, HasEntries}
use Rattle.page_codec.specs.Grammar.{IsMeta, IsOfKind}
use Rattle.page_codec.specs.declared.page.Downlink.{Downlink}
use Rattle.page_codec.specs.declared.page.Items.{Items}
use Rattle.page_codec.specs.declared.page.Items.TheVariants.{Meta, Entries, Downlinks}
use Rattle.page_codec.specs.declared.page.Page.{Page}
use Rattle.page_codec.specs.declared.page.PageState.{PageState}
use Rattle.page_codec.specs.declared.page.PageState.TheVariants.{Live, HalfDead, Deleted}
use Rattle.device.proofs.Standing.{seen_stays}
use Rattle.recovery.specs.Fresh.{IsFirstMeta, IsFirstLeaf}
use Rattle.tree_acts.specs.TheoremKeys.{AreKeyed}
use Rattle.tree_acts.specs.TheoremTree.{IsTree}
use Rattle.tree_shape.specs.Chains.{IsTreeOf}
use Rattle.tree_shape.specs.Nodes.{links_of, node_of, no_node, nodes_of}
use Rattle.tree_shape.proofs.First.{first_is_a_tree}
use Rattle.world.specs.Fresh.{NewIndexesAreTrees}

-- a leaf has no downlinks, and is on level 0
no_links : (items : Items) → HasEntries items → links_of items ≡ []
no_links Meta h = absurd h
no_links (Entries entries) h = refl
no_links (Downlinks links) h = absurd h

leaf_level : (leaf : Page) (items : Items) → IsOfKind leaf items → HasEntries items → leaf.level ≡ 0
leaf_level leaf Meta kind h = absurd h
leaf_level leaf (Entries entries) kind h = kind.level
leaf_level leaf (Downlinks links) kind h = absurd h

-- what the tree sees of the leaf of an empty index is what it sees where no page is
first_node : (leaf : Page) → IsFirstLeaf leaf → node_of leaf ≡ no_node
first_node leaf l =
    let level = leaf_level leaf leaf.items l.page.kind l.kind in
    let links = no_links leaf.items l.kind in
    simp (level, l.state, l.whole, l.left, l.right, l.high, l.empty, links) refl

fresh_tree : (meta leaf : Page) → IsFirstMeta meta → IsFirstLeaf leaf → IsTree (meta ∷ leaf ∷ [])
fresh_tree meta leaf m l =
    let pages = meta ∷ leaf ∷ [] in
    record {
      meta = meta;
      meta_at = refl;
      root = 1;
      names_root = record { kind = m.kind; root_is = m.root; level_is = refl };
      chain = λ level. 1 ∷ [];
      is = subst (λ top. IsTreeOf (nodes_of pages) 2 1 top (λ level. 1 ∷ [])) (sym m.level) (first_is_a_tree (nodes_of pages) (first_node leaf l));
    }

-- a metapage, and a leaf without entries, whatever their state
none_on_meta : (state : PageState) (e : Entry) → is_among (live_entries state Meta) e ≡ false
none_on_meta Live e = refl
none_on_meta HalfDead e = refl
none_on_meta Deleted e = refl

none_on_empty : (state : PageState) (items : Items) (e : Entry) → entries_of items ≡ [] → is_among (live_entries state items) e ≡ false
none_on_empty Live Meta e h = refl
none_on_empty Live (Entries entries) e h = ap (λ (es : List Entry). is_among es e) h
none_on_empty Live (Downlinks links) e h = refl
none_on_empty HalfDead items e h = refl
none_on_empty Deleted items e h = refl

fresh_empty : (meta leaf : Page) → IsFirstMeta meta → IsFirstLeaf leaf → (e : Entry) → entry_on_live_leaf (meta ∷ leaf ∷ []) e ≡ false
fresh_empty meta leaf m l e =
    let on_meta : is_on meta e ≡ false = ap (λ (items : Items). is_among (live_entries meta.state items) e) m.kind ∙ none_on_meta meta.state e in
    let on_leaf : is_on leaf e ≡ false = none_on_empty leaf.state leaf.items e l.empty in
    ap (λ b. b || (is_on leaf e || false)) on_meta ∙ ap (λ b. b || false) on_leaf

-- if there is no bound, none has a row
no_bound : (o : Option Bound) → IsNone o → IfSome o (λ s. s.row ≡ None)
no_bound None none = tt
no_bound (Some bound) none = absurd (let clash : true ≡ false = none in cc)

fresh_high : (meta leaf : Page) → IsFirstMeta meta → IsFirstLeaf leaf → (b : ℕ) → IfSome (nodes_of (meta ∷ leaf ∷ []) b).high (λ s. s.row ≡ None)
fresh_high meta leaf m l zero =
    let is_meta : IsMeta meta = subst (λ (items : Items). IsOfKind meta items) m.kind m.page.kind in
    no_bound meta.high is_meta.high
fresh_high meta leaf m l (suc zero) = subst (λ (o : Option Bound). IfSome o (λ s. s.row ≡ None)) (sym l.high) tt
fresh_high meta leaf m l (suc (suc b)) = tt

fresh_bounds : (meta leaf : Page) → IsFirstMeta meta → IsFirstLeaf leaf → (b : ℕ)
    → AllByRecursion (λ d. IfSome d.bound (λ (s : Bound). s.row ≡ None)) (nodes_of (meta ∷ leaf ∷ []) b).links
fresh_bounds meta leaf m l zero = subst (λ (items : Items). AllByRecursion (λ d. IfSome d.bound (λ (s : Bound). s.row ≡ None)) (links_of items)) (sym m.kind) tt
fresh_bounds meta leaf m l (suc zero) = subst (λ (links : List Downlink). AllByRecursion (λ d. IfSome d.bound (λ (s : Bound). s.row ≡ None)) links) (sym (no_links leaf.items l.kind)) tt
fresh_bounds meta leaf m l (suc (suc b)) = tt

-- so the pages of an empty index are keyed
fresh_keyed : (meta leaf : Page) → IsFirstMeta meta → IsFirstLeaf leaf → AreKeyed (meta ∷ leaf ∷ [])
fresh_keyed meta leaf m l = record {
  high = fresh_high meta leaf m l;
  bounds = fresh_bounds meta leaf m l;
  keys = λ x y on_x on_y same. absurd (let none : false ≡ true = sym (fresh_empty meta leaf m l x) ∙ on_x in cc);
}

pub new_indexes : NewIndexesAreTrees
new_indexes format m made = record {
  pages = made.meta ∷ made.leaf ∷ [];
  now = made.leaves m.seen (seen_stays m);
  leaves = made.leaves;
  tree = (fresh_tree made.meta made.leaf made.is_meta made.is_leaf, λ asked. fresh_keyed made.meta made.leaf made.is_meta made.is_leaf);
  empty = fresh_empty made.meta made.leaf made.is_meta made.is_leaf;
}
