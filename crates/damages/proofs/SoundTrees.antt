-- Pages without a damage, parents and children seen, are a B-link tree.
use Rattle.std.proofs.Common.{◌≡◌, ◌≢◌, ◌⊎◌, ℕ, suc, ◌-◌, ◌<◌, ◌≤◌, inl, inr, true, false, List, length, sym, ap, subst, ◌∙◌, refl, arith}
use Rattle.damages.proofs.Imports.{Page, Deleted, Node, nodes_of, IsTreeOf, first_context, due_links, downlinks, IsIn, Index, index_of, Place, IsOnChain, IsSound, nowhere, StandAtTheirBlocks}
use Rattle.damages.proofs.Imports.{IsTree}
use Rattle.damages.proofs.Levels.{chain_at, chain_of, right_at, place_told, run_at, distinct_at, on_level_at, rooted, has_meta}
use Rattle.damages.proofs.Parents.{chain_or, parents_are}
use Rattle.damages.proofs.Places.{in_from}

module _ (pages : List Page) (stand : StandAtTheirBlocks pages) (sound : IsSound true false pages) where
  abbrev ix : Index
  ix = index_of pages

  abbrev at : ℕ → Node
  at = nodes_of pages

  placed : (b : ℕ) → 0 < b → b < length pages → (at b).state ≢ Deleted → ((at b).level ≤ ix.top) × IsIn b (chain_of pages (at b).level)
  placed b after_meta in_use stands = by (chain_or pages stand sound b)
    where
      by : IsOnChain ix b ⊎ (IsOnChain ix b → ⊥) → ((at b).level ≤ ix.top) × IsIn b (chain_of pages (at b).level)
      by (inl on) =
          let deep = on.deep in
          let there = (right_at true pages stand sound on.depth (ix.top - on.depth) (omega arith) (omega arith) on.place b on.is).on_level in
          let l = there.level_is in
          let same : on.depth ≡ ix.top - (at b).level = omega arith in
          let i = in_from b (chain_at pages on.depth) on.place
          (sym (ap (λ (p : Place). p.block) (place_told true pages stand sound on.depth (ix.top - on.depth) (omega arith) (omega arith) on.place)) ∙ on.is) in
          (omega arith, subst (λ (d : ℕ). IsIn b (chain_at pages d)) same i)
      by (inr off) = absurd (sound (nowhere b) 11 (refl, refl, (after_meta, in_use, stands, off)))

  parents : (level : ℕ) → level < ix.top → downlinks at first_context (chain_of pages (suc level)) ≡ due_links at first_context (chain_of pages level)
  parents level lt =
      let deeper : suc (ix.top - suc level) ≡ ix.top - level = omega arith in
      parents_are pages stand sound (ix.top - suc level) level (omega arith) (omega arith)
      ∙ ap (λ (d : ℕ). due_links at first_context (chain_at pages d)) deeper

  tree_is : IsTreeOf at (length pages) ix.root ix.top (chain_of pages)
  tree_is = record {
    runs = λ level le. run_at true pages stand sound (ix.top - level) level (omega arith) (omega arith);
    distinct = λ level le. distinct_at true pages stand sound (ix.top - level) level (omega arith) (omega arith);
    in_use = λ level b le i. (let on = on_level_at true pages stand sound (ix.top - level) level (omega arith) (omega arith) b i in (on.after_meta, on.in_use));
    placed = placed;
    parents = parents;
    root_level = rooted true pages stand sound (ix.top - ix.top) ix.top (omega arith) (omega arith) (omega arith);
  }

  pub has_tree : IsTree pages
  has_tree =
      let m = has_meta true pages stand sound in
      record {
        meta = m.meta;
        meta_at = m.meta_at;
        root = ix.root;
        names_root = m.names_root;
        chain = chain_of pages;
        is = subst (λ (n : ℕ). IsTreeOf at (length pages) ix.root n (chain_of pages)) m.top_is tree_is;
      }
