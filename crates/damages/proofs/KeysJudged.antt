-- What a unique index asks of bounds and keys, where it is judged and nothing is damaged.
use Rattle.std.proofs.Common.{◌≡◌, ℕ, zero, suc, inl, inr, Bool, true, false, Option, Some, None, List, [], ◌∷◌, slice_get, refl, sym, ap, subst, ◌∙◌, arith}
use Rattle.std.specs.Prelude.{IfSome, IsNone}
use Rattle.index_model.specs.Row.{Row}
use Rattle.tree_shape.specs.KeyBounds.{IsKeyBound}
use Rattle.damages.proofs.Imports.{cases_Bool, AllByRecursion, is_lt, key_cmp, Bound, Entry, entries_of, IsPage, IsOfKind, IsLeafIn, Ascends, FollowedBy, Downlink, Items, Meta, Entries, Downlinks}
use Rattle.damages.proofs.Imports.{Page, PageState, Live, Deleted, KeyBefore, IsKeyLink, IsUniqueNode, IsUniquePage, AreUnique, Node, links_of, node_of, node_from, nodes_of, no_node, Index, false≢true}
use Rattle.damages.proofs.Imports.{index_of, Here, Site, IsOfChain, IsDamage, IsSound, on_way, on_chain, at_child, at_page, nowhere, StandAtTheirBlocks, HasUniqueLevels, slice_get_within}
use Rattle.damages.proofs.Imports.{beside_root, dead_after_split, deleted, met_before, not_beyond, not_rising, off_level, shared_key, wrong_left}
use Rattle.damages.proofs.Items.{meta_is}

-- each part of it can be decided
row_so : (row : Option Row) → ((row ≡ None → ⊥) → ⊥) → row ≡ None
row_so None h = refl
row_so (Some r) h = absurd (h (λ e. cc))

high_so : (high : Option Bound) → ((IfSome high IsKeyBound → ⊥) → ⊥) → IfSome high IsKeyBound
high_so None h = tt
high_so (Some b) h = row_so b.row h

bounds_so : (links : List Downlink) → ((AllByRecursion IsKeyLink links → ⊥) → ⊥) → AllByRecursion IsKeyLink links
bounds_so [] h = tt
bounds_so (d ∷ ds) h = (high_so d.bound (λ fails. h (λ all. fails all.0)), bounds_so ds (λ fails. h (λ all. fails all.1)))

before_so : (a b : Entry) → ((KeyBefore a b → ⊥) → ⊥) → KeyBefore a b
before_so a b h = elim (cases_Bool (is_lt (key_cmp a.key b.key))) [
  | inl holds ↦ holds
  | inr fails ↦ absurd (h (λ e. absurd (let k : true ≡ false = sym e ∙ fails in cc)))
]

after_so : (a : Entry) (es : List Entry) → ((FollowedBy KeyBefore a es → ⊥) → ⊥) → FollowedBy KeyBefore a es
after_so a [] h = tt
after_so a (e ∷ es) h = (before_so a e (λ fails. h (λ all. fails all.0)), after_so e es (λ fails. h (λ all. fails all.1)))

keys_so : (es : List Entry) → ((Ascends KeyBefore es → ⊥) → ⊥) → Ascends KeyBefore es
keys_so [] h = tt
keys_so (e ∷ es) h = after_so e es h

pub unique_so : (n : Node) → ((IsUniqueNode n → ⊥) → ⊥) → IsUniqueNode n
unique_so n h = record {
  high = high_so n.high (λ fails. h (λ u. fails u.high));
  bounds = bounds_so n.links (λ fails. h (λ u. fails u.bounds));
  keys = keys_so n.entries (λ fails. h (λ u. fails u.keys));
}

-- fewer damages are seen where keys aren't
chain_more : {ix : Index} (keys : Bool) (h : Here ix) (number : ℕ) → IsOfChain false h number → IsOfChain keys h number
chain_more keys h number (off_level k off) = off_level k off
chain_more keys h number (wrong_left k differs) = wrong_left k differs
chain_more keys h number (met_before k met) = met_before k met
chain_more keys h number (deleted k gone) = deleted k gone
chain_more keys h number (not_rising k live low) = not_rising k live low
chain_more keys h number (not_beyond k has) = not_beyond k has
chain_more keys h number (beside_root k top not_root not_after) = beside_root k top not_root not_after
chain_more keys h number (dead_after_split k dead after) = dead_after_split k dead after
chain_more keys h number (shared_key k seen shared) = absurd (false≢true seen)

pub more : {ix : Index} (parents keys : Bool) (site : Site ix) (number : ℕ) → IsDamage parents false site number → IsDamage parents keys site number
more parents keys (on_way depth step deep) number damage = damage
more parents keys (on_chain h) number damage = chain_more keys h number damage
more parents keys (at_child h i) number damage = damage
more parents keys (at_page h) number damage = damage
more parents keys (nowhere b) number damage = damage

pub without_keys : (parents keys : Bool) (pages : List Page) → IsSound parents keys pages → IsSound parents false pages
without_keys parents keys pages sound site number damage = sound site number (more parents keys site number damage)

-- a page on a chain is one of a unique index
pub unique_levels : (parents : Bool) (pages : List Page) → IsSound parents true pages → HasUniqueLevels pages
unique_levels parents pages sound block on = unique_so (nodes_of pages block) (λ fails. sound (on_chain here) 13 (shared_key refl refl fails))
  where
    here : Here (index_of pages)
    here = record { depth = on.depth; place = on.place; block = block; deep = on.deep; is = on.is }

-- ... so are the metapage and a deleted page, and where no page is
pub none_unique : IsUniqueNode no_node
none_unique = record { high = tt; bounds = tt; keys = tt }

no_bound : (high : Option Bound) → IsNone high → IfSome high IsKeyBound
no_bound None e = tt
no_bound (Some b) e = absurd cc

deleted_unique : (page : Page) → IsPage page → page.state ≡ Deleted → IsUniquePage page
deleted_unique page admitted gone = by page.items refl admitted.kind
  where
    differ : Live ≡ Deleted → ⊥
    differ e = cc

    by : (items : Items) → page.items ≡ items → IsOfKind page items → IsUniquePage page
    by Meta is k = absurd (differ (sym k.state ∙ gone))
    by (Downlinks v) is k = absurd (differ (sym k.state ∙ gone))
    by (Entries v) is k =
        let r = subst (λ (s : PageState). IsLeafIn s page v.items) gone k.rest in
        record {
          high = no_bound page.high r.high;
          bounds = subst (λ (i : Items). AllByRecursion IsKeyLink (links_of i)) (sym is) tt;
          keys = subst (λ (es : List Entry). Ascends KeyBefore es) (sym (ap entries_of is ∙ r.entries)) tt;
        }

meta_unique : (page : Page) → IsPage page → page.block ≡ 0 → IsUniquePage page
meta_unique page admitted first = record {
  high = no_bound page.high (subst (IsOfKind page) meta admitted.kind).high;
  bounds = subst (λ (i : Items). AllByRecursion IsKeyLink (links_of i)) (sym meta) tt;
  keys = subst (λ (i : Items). Ascends KeyBefore (entries_of i)) (sym meta) tt;
}
  where
    meta : page.items ≡ Meta
    meta = meta_is page admitted first

module _ (pages : List Page) (stand : StandAtTheirBlocks pages) (sound : IsSound true true pages) where
  each_unique : (block : ℕ) (page : Page) → slice_get pages block ≡ Some page → IsUniquePage page
  each_unique zero page there = (let own = stand zero page there in meta_unique page own.0 own.1)
  each_unique (suc block) page there = unique_so (node_of page) (λ fails. sound (nowhere (suc block)) 11 (
    refl,
    refl,
    (
      omega arith,
      slice_get_within pages (suc block) page there,
      (λ gone. fails (deleted_unique page (stand (suc block) page there).0 (sym (ap (λ (n : Node). n.state) here) ∙ gone))),
      (λ on. fails (subst IsUniqueNode here (unique_levels true pages sound (suc block) on))),
    ),
  ))
    where
      here : nodes_of pages (suc block) ≡ node_of page
      here = ap node_from there

all_unique : (pages : List Page) → ((block : ℕ) (page : Page) → slice_get pages block ≡ Some page → IsUniquePage page) → AreUnique pages
all_unique [] each = tt
all_unique (p ∷ pages) each = (each 0 p refl, all_unique pages (λ block page e. each (suc block) page e))

pub sound_is_unique : (pages : List Page) → StandAtTheirBlocks pages → IsSound true true pages → AreUnique pages
sound_is_unique pages stand sound = all_unique pages (each_unique pages stand sound)

-- what is seen at a block of a unique index is a page of such an index
pub unique_at : (pages : List Page) (block : ℕ) → AreUnique pages → IsUniqueNode (nodes_of pages block)
unique_at [] block all = none_unique
unique_at (p ∷ pages) zero all = all.0
unique_at (p ∷ pages) (suc block) all = unique_at pages block all.1
