-- Pages without a damage are an index of levels.
use Rattle.std.proofs.Common.{◌≡◌, ◌≢◌, ◌⊎◌, ℕ, suc, ◌+◌, ◌-◌, ◌<◌, ◌≤◌, inl, inr, Bool, true, false, Option, Some, None, List, [], ◌∷◌, length, take, slice_get, refl, sym, ap, subst, ◌∙◌, arith}
use Rattle.tree_shape.specs.Tree.{IsMetaOf}
use Rattle.damages.proofs.Imports.{cases_eq, Page, Node, node_from, nodes_of, LeftContext, context_after, first_context, first_or, IsRunOf, IsRootLevel, IsIn, IsNotIn, AreDistinct, Index, index_of}
use Rattle.damages.proofs.Imports.{or_block, moved_left, first_child, head, Place, place_at, IsOnLevel, IsAfterRoot, IsSound, IsOfChain, on_way, on_chain, StandAtTheirBlocks, IsAbove, AreLevels}
use Rattle.damages.proofs.Imports.{HasLevels, same_Some}
use Rattle.damages.proofs.Imports.{beside_root, met_before}
use Rattle.damages.proofs.Decided.{no_link, link_so, on_level_so}
use Rattle.damages.proofs.Fitting.{IsRight, right_here, page_there}
use Rattle.damages.proofs.Items.{meta_is}
use Rattle.damages.proofs.Places.{at_from, distinct_from, place_is}
use Rattle.damages.proofs.Walks.{follow, run, begins}

-- the chain of a level, by its depth
abbrev pub chain_at : List Page → ℕ → List ℕ
chain_at pages depth = follow (nodes_of pages) (length pages) (Some (head (index_of pages) depth))

-- ... and by its level
abbrev pub chain_of : List Page → ℕ → List ℕ
chain_of pages level = chain_at pages ((index_of pages).top - level)

true_so : (b : Bool) → ((b ≢ true) → ⊥) → b ≡ true
true_so true h = refl
true_so false h = absurd (h (λ e. cc))

after_so : (root : ℕ) (s : LeftContext) → ((IsAfterRoot root s → ⊥) → ⊥) → IsAfterRoot root s
after_so root s h = (link_so s.left (Some root) (λ differ. h (λ b. differ b.0)), true_so s.left_is_split (λ differ. h (λ b. differ b.1)))

-- page by page, the root's level has the root alone, or the root with an incomplete split and one page
root_told : (at : ℕ → Node) (root : ℕ) (xs : List ℕ) → (xs ≢ []) → AreDistinct xs
    → ((n b : ℕ) → slice_get xs n ≡ Some b → (b ≡ root) ⊎ IsAfterRoot root (context_after at first_context (take n xs))) → IsRootLevel at root xs
root_told at root [] some d each = absurd (some refl)
root_told at root (b ∷ []) some d each = elim (each 0 b refl) [
  | inl is ↦ is
  | inr h ↦ absurd (no_link h.0)
]
root_told at root (b ∷ c ∷ rest) some d each = by rest d.0.1 (each 2)
  where
    is_root : b ≡ root
    is_root = elim (each 0 b refl) [ inl is ↦ is | inr h ↦ absurd (no_link h.0) ]

    incomplete : (at b).split ≡ true
    incomplete = elim (each 1 c refl) [ inl is ↦ absurd (d.0.0 (is_root ∙ sym is)) | inr h ↦ h.1 ]

    by : (rest : List ℕ) → IsNotIn b rest → ((e : ℕ) → slice_get rest 0 ≡ Some e → (e ≡ root) ⊎ IsAfterRoot root (context_after at first_context (b ∷ c ∷ [])))
        → IsRootLevel at root (b ∷ c ∷ rest)
    by [] n third = (is_root, incomplete)
    by (e ∷ es) n third = elim (third e refl) [
      | inl is ↦ absurd (n.0 (is_root ∙ sym is))
      | inr h ↦ absurd (d.0.0 (is_root ∙ sym (same_Some c root h.0)))
    ]

-- the metapage names the root
pub record HasMeta (pages : List Page) : Type 0 where
  pub meta : Page
  pub meta_at : slice_get pages 0 ≡ Some meta
  pub names_root : IsMetaOf meta (index_of pages).root meta.level
  pub top_is : (index_of pages).top ≡ meta.level

module _ (parents : Bool) (pages : List Page) (stand : StandAtTheirBlocks pages) (sound : IsSound parents false pages) where
  abbrev ix : Index
  ix = index_of pages

  abbrev at : ℕ → Node
  at = nodes_of pages

  pub has_meta : HasMeta pages
  has_meta = by p.0.right refl
    where
      on : IsOnLevel ix 0 ix.root
      on = on_level_so ix 0 ix.root (λ fails. sound (on_way 0 0 (omega arith)) 1 (inl (refl, fails)))

      p : (page : Page) × (slice_get pages 0 ≡ Some page)
      p = page_there pages 0 (let a = on.in_use in omega arith)

      by : (o : Option ℕ) → p.0.right ≡ o → HasMeta pages
      by None e =
          let none' : ix.root ≡ 0 = ap (λ (n : Node). or_block n.right 0) (ap node_from p.1) ∙ ap (λ (o : Option ℕ). or_block o 0) e in
          absurd (let a = on.after_meta in omega (arith, none'))
      by (Some r) e =
          let own = stand 0 p.0 p.1 in
          let root_is : ix.root ≡ r = ap (λ (n : Node). or_block n.right 0) (ap node_from p.1) ∙ ap (λ (o : Option ℕ). or_block o 0) e in
          record {
            meta = p.0;
            meta_at = p.1;
            names_root = record { kind = meta_is p.0 own.0 own.1; root_is = e ∙ ap Some (sym root_is); level_is = refl };
            top_is = ap (λ (n : Node). n.level) (ap node_from p.1);
          }

  module _ (depth level : ℕ) (deep : depth ≤ ix.top) (sum : level + depth ≡ ix.top) where
    no_damage : (k b : ℕ) → (is : (place_at ix depth k).block ≡ Some b) → (n : ℕ)
        → IsOfChain {ix = ix} false (record { depth = depth; place = k; block = b; deep = deep; is = is }) n → ⊥
    no_damage k b is n damage = sound (on_chain (record { depth = depth; place = k; block = b; deep = deep; is = is })) n damage

    pub right_at : (k b : ℕ) → (place_at ix depth k).block ≡ Some b → IsRight pages depth level (place_at ix depth k).context b
    right_at k b is = right_here pages (record { depth = depth; place = k; block = b; deep = deep; is = is }) level stand sum (no_damage k b is)

    once_at : (j k b : ℕ) → j < k → (place_at ix depth j).block ≡ Some b → (place_at ix depth k).block ≡ Some b → ⊥
    once_at j k b lt e f = no_damage k b f 3 (met_before refl (record { earlier = j; before = lt; same = e }))

    pub run_at : IsRunOf at level first_context (chain_at pages depth) None
    run_at = run pages depth level right_at once_at

    pub begins_at : first_or (chain_at pages depth) None ≡ Some (head ix depth)
    begins_at = begins pages depth level right_at once_at

    pub place_told : (n : ℕ)
        → place_at ix depth n ≡ record { context = context_after at first_context (take n (chain_at pages depth)); block = slice_get (chain_at pages depth) n }
    place_told = place_is at level (head ix depth) (chain_at pages depth) run_at begins_at

    pub block_at : (n b : ℕ) → slice_get (chain_at pages depth) n ≡ Some b → (place_at ix depth n).block ≡ Some b
    block_at n b e = ap (λ (p : Place). p.block) (place_told n) ∙ e

    pub distinct_at : AreDistinct (chain_at pages depth)
    distinct_at = distinct_from (chain_at pages depth) (λ m n b lt e f. once_at m n b lt (block_at m b e) (block_at n b f))

    pub on_level_at : (b : ℕ) → IsIn b (chain_at pages depth) → IsOnLevel ix depth b
    on_level_at b i = (let a = at_from b (chain_at pages depth) i in (right_at a.place b (block_at a.place b a.is)).on_level)

    some_at : chain_at pages depth ≢ []
    some_at e = no_link (sym (ap (λ (xs : List ℕ). first_or xs None) e) ∙ begins_at)

    pub rooted : depth ≡ 0 → IsRootLevel at ix.root (chain_at pages depth)
    rooted top = root_told at ix.root (chain_at pages depth) some_at distinct_at (λ n b e. elim (cases_eq b ix.root) [
      | inl is ↦ inl is
      | inr differs ↦ inr (subst (IsAfterRoot ix.root) (ap (λ (p : Place). p.context) (place_told n))
          (after_so ix.root (place_at ix depth n).context (λ fails.
          no_damage n b (block_at n b e) 10 (beside_root refl top differs fails))))
    ])

  abbrev deep_of : (level : ℕ) → ℕ
  deep_of level = ix.top - level

  pub above_at : (level : ℕ) → level < ix.top → IsAbove pages (chain_of pages (suc level)) (chain_of pages level)
  above_at level lt up child low is has lows =
      let upper : up ≡ head ix (deep_of (suc level)) = same_Some up _ (sym is ∙ begins_at (deep_of (suc level)) (suc level) (omega arith) (omega arith)) in
      let deeper : deep_of level ≡ suc (deep_of (suc level)) = omega arith in
      let lower : low ≡ head ix (suc (deep_of (suc level))) = same_Some low _ (sym lows ∙ begins_at (deep_of level) level (omega arith) (omega arith)) ∙ ap (head ix) deeper in
      let first : child ≡ first_child (at (head ix (deep_of (suc level)))).links =
      has.child_is ∙ ap first_child (sym has.links_are) ∙ ap (λ (b : ℕ). first_child (at b).links) upper in
      record { steps = length pages; leads = ap (λ (b : ℕ). moved_left at b (length pages)) first ∙ sym lower }

  pub levels_are : AreLevels pages ix.root ix.top (chain_of pages)
  levels_are = record {
    some = λ level le. some_at (deep_of level) level (omega arith) (omega arith);
    runs = λ level le. run_at (deep_of level) level (omega arith) (omega arith);
    distinct = λ level le. distinct_at (deep_of level) level (omega arith) (omega arith);
    in_use = λ level b le i. (let on = on_level_at (deep_of level) level (omega arith) (omega arith) b i in (on.after_meta, on.in_use));
    above = above_at;
    root_level = rooted (deep_of ix.top) ix.top (omega arith) (omega arith) (omega arith);
  }

  pub has_levels : HasLevels pages
  has_levels = record {
    meta = has_meta.meta;
    meta_at = has_meta.meta_at;
    root = ix.root;
    names_root = has_meta.names_root;
    chain = chain_of pages;
    are = subst (λ (n : ℕ). AreLevels pages ix.root n (chain_of pages)) has_meta.top_is levels_are;
  }
