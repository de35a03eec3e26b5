-- The chains of all levels: their first damage, or none.
use Rattle.std.proofs.Common.{◌≡◌, ◌⊎◌, ℕ, zero, suc, ◌<◌, ◌≤◌, inl, inr, Bool, true, false, List, [], ◌∷◌, ◌++◌, length, get_or, replicate, Vec, vec_len, refl, sym, ap, subst, ◌∙◌, arith, length-append}
use Rattle.std.proofs.lemmas.List.{with_items_is}
use Rattle.std.specs.Vec.{with_items}
use Rattle.amcheck.proofs.Imports.{Page, IsIn, in_append_cases, Index, index_of, Site, IsOnLevel, IsOfPath, IsDamage, IsSound, IsFirstDamage, ComesBefore, rank, on_way, on_chain, at_child, false≢true}
use Rattle.amcheck.proofs.Imports.{at_page, nowhere, IsFirstOfChain, IsClearPath, IsFirstOfPath, IsClearLevel, IsFirstOfLevel, IsOfUpper, AreOfUpper, IsMet, stop_blocks, AreStops, Met, Stop}
use Rattle.amcheck.proofs.Imports.{few_blocks}
use Rattle.amcheck.proofs.Walked.{stop_of, blocks_length}

pub upper_on : (ix : Index) (depth block : ℕ) → IsOnLevel ix depth block → IsOfUpper ix (suc depth) block
upper_on ix depth block on = record { upper = depth; above = omega arith; on = on }

pub upper_later : (ix : Index) (depth block : ℕ) → IsOfUpper ix depth block → IsOfUpper ix (suc depth) block
upper_later ix depth block u = (let a = u.above in record { upper = u.upper; above = omega arith; on = u.on })

-- what was seen on the way to a level, and what was met on its chain, is of that level or of one above
pub seen_upper : (ix : Index) (depth : ℕ) (before seen : List Bool) (met met' : Met) → AreOfUpper ix depth before met
    → ((b : ℕ) → get_or seen b false ≡ true → (get_or before b false ≡ true) ⊎ IsOnLevel ix depth b)
    → ((b : ℕ) → IsIn b met'.blocks.items → IsIn b met.blocks.items ⊎ IsOnLevel ix depth b) → AreOfUpper ix (suc depth) seen met'
seen_upper ix depth before seen met met' upper kept added = record {
  seen_are = λ b mark. elim (kept b mark) [
    | inl old ↦ upper_later ix depth b (upper.seen_are b old)
    | inr on ↦ upper_on ix depth b on
  ];
  met_are = λ b among. elim (added b among) [
    | inl old ↦ upper_later ix depth b (upper.met_are b old)
    | inr on ↦ upper_on ix depth b on
  ];
}

-- ... if what was seen is kept in a vector, which was lent for the way
pub seen_upper_in : {Z : Type 0} (ix : Index) (depth : ℕ) (seen : Vec Bool Z) (before after : List Bool) (met met' : Met) → AreOfUpper ix depth seen.items met → before ≡ seen.items
    → length after ≡ vec_len seen → ((b : ℕ) → get_or after b false ≡ true → (get_or before b false ≡ true) ⊎ IsOnLevel ix depth b)
    → ((b : ℕ) → IsIn b met'.blocks.items → IsIn b met.blocks.items ⊎ IsOnLevel ix depth b) → AreOfUpper ix (suc depth) (with_items seen after).items met'
seen_upper_in ix depth seen before after met met' upper lent size kept added =
    subst (λ (l : List Bool). AreOfUpper ix (suc depth) l met') (sym (with_items_is seen after size))
    (seen_upper ix depth seen.items after met met' upper
    (subst (λ (l : List Bool). (b : ℕ) → get_or after b false ≡ true → (get_or l b false ≡ true) ⊎ IsOnLevel ix depth b) lent kept) added)

-- a block that a walk added is at one of its stops
pub met_on : (ix : Index) (depth : ℕ) (before after : List ℕ) (stops : List Stop) → after ≡ before ++ stop_blocks stops → AreStops ix depth stops → (b : ℕ) → IsIn b after
    → IsIn b before ⊎ IsOnLevel ix depth b
met_on ix depth before after stops added are b among = elim (in_append_cases b before (stop_blocks stops) (subst (λ (l : List ℕ). IsIn b l) added among)) [
  | inl old ↦ inl old
  | inr new ↦ (let s = stop_of stops b new in inr (subst (IsOnLevel ix depth) (sym s.is) (are.on_level s.place s.stop s.there)))
]

-- so there are no more stops than pages
pub stops_below : (met : Met) (used : ℕ) (before : List ℕ) (stops : List Stop) → IsMet met used → 0 < used → met.blocks.items ≡ before ++ stop_blocks stops → length stops ≤ used
stops_below met used before stops is some added =
    let few = few_blocks used met.blocks.items some is.distinct is.in_use in
    let size = ap length added ∙ length-append before (stop_blocks stops) in
    omega (arith, few, size, blocks_length stops)

-- if each level is clear, so is the index without its parents and children
pub sound_levels : (keys : Bool) (pages : List Page) → ((depth : ℕ) → depth ≤ (index_of pages).top → IsClearLevel (index_of pages) keys depth) → IsSound false keys pages
sound_levels keys pages clear (on_way depth step deep) number damage = (clear depth deep).way step number damage
sound_levels keys pages clear (on_chain h) number damage = (clear h.depth h.deep).chain h number refl damage
sound_levels keys pages clear (at_child h i) number damage = false≢true damage.0
sound_levels keys pages clear (at_page h) number damage = false≢true damage.0
sound_levels keys pages clear (nowhere block) number damage = false≢true damage.0

module _ (keys : Bool) (pages : List Page) (depth number block : ℕ) (deep : depth ≤ (index_of pages).top) (above : (d : ℕ) → d < depth → IsClearLevel (index_of pages) keys d) where
  abbrev ix : Index
  ix = index_of pages

  -- what comes before a damage of the way is one of an earlier step, or of a lesser number, or of a level
  -- above
  way_first : (f : IsFirstOfPath ix depth number block) (other : Site ix) (n : ℕ) → IsDamage false keys other n → ComesBefore (rank other n) (0 ∷ depth ∷ 0 ∷ f.step ∷ number ∷ []) → ⊥
  way_first f (on_way d s e) n damage (inl lt) = omega (arith, lt)
  way_first f (on_way d s e) n damage (inr (same, inl lt)) = (above d lt).way s n damage
  way_first f (on_way d s e) n damage (inr (same, inr (is, inl lt))) = omega (arith, lt)
  way_first f (on_way d s e) n damage (inr (same, inr (is, inr (zero_is, inl lt)))) = f.first s n (subst (λ (k : ℕ). IsOfPath ix k s n) is damage) (inl lt)
  way_first f (on_way d s e) n damage (inr (same, inr (is, inr (zero_is, inr (step, inl lt))))) = f.first s n (subst (λ (k : ℕ). IsOfPath ix k s n) is damage) (inr (step, lt))
  way_first f (on_way d s e) n damage (inr (same, inr (is, inr (zero_is, inr (step, inr (number_is, end)))))) = end
  way_first f (on_chain h) n damage (inl lt) = omega (arith, lt)
  way_first f (on_chain h) n damage (inr (same, inl lt)) = (above h.depth lt).chain h n refl damage
  way_first f (on_chain h) n damage (inr (same, inr (is, inl lt))) = omega (arith, lt)
  way_first f (on_chain h) n damage (inr (same, inr (is, inr (one, more)))) = omega (arith, one)
  way_first f (at_child h i) n damage before = false≢true damage.0
  way_first f (at_page h) n damage before = false≢true damage.0
  way_first f (nowhere b) n damage before = false≢true damage.0

  -- ... and before one of the chain, if the way is clear
  chain_first : (way : IsClearPath ix depth) (f : IsFirstOfChain ix keys depth number block) (other : Site ix) (n : ℕ) → IsDamage false keys other n
      → ComesBefore (rank other n) (rank (on_chain f.here) number) → ⊥
  chain_first way f (on_way d s e) n damage (inl lt) = omega (arith, lt)
  chain_first way f (on_way d s e) n damage (inr (same, inl lt)) = (above d (let k = f.deep in omega (arith, lt))).way s n damage
  chain_first way f (on_way d s e) n damage (inr (same, inr (is, more))) = way s n (subst (λ (k : ℕ). IsOfPath ix k s n) (is ∙ f.deep) damage)
  chain_first way f (on_chain h) n damage (inl lt) = omega (arith, lt)
  chain_first way f (on_chain h) n damage (inr (same, inl lt)) = (above h.depth (let k = f.deep in omega (arith, lt))).chain h n refl damage
  chain_first way f (on_chain h) n damage (inr (same, inr (is, inl lt))) = omega (arith, lt)
  chain_first way f (on_chain h) n damage (inr (same, inr (is, inr (one, inl lt)))) = f.first h n (is ∙ f.deep) damage (inl lt)
  chain_first way f (on_chain h) n damage (inr (same, inr (is, inr (one, inr (place, inl lt))))) = f.first h n (is ∙ f.deep) damage (inr (place, lt))
  chain_first way f (on_chain h) n damage (inr (same, inr (is, inr (one, inr (place, inr (number_is, end)))))) = end
  chain_first way f (at_child h i) n damage before = false≢true damage.0
  chain_first way f (at_page h) n damage before = false≢true damage.0
  chain_first way f (nowhere b) n damage before = false≢true damage.0

  -- the first damage of the first level that isn't clear is the first of all
  pub first_level : IsFirstOfLevel ix keys depth number block → IsFirstDamage false keys pages number block
  first_level f = by f.is
    where
      by : IsFirstOfPath ix depth number block ⊎ (IsClearPath ix depth × IsFirstOfChain ix keys depth number block) → IsFirstDamage false keys pages number block
      by (inl w) = record { site = on_way depth w.step deep; is = w.is; block_is = w.block_is; first = λ other n damage before. way_first w other n damage before }
      by (inr c) = record { site = on_chain c.1.here; is = c.1.is; block_is = c.1.block_is; first = λ other n damage before. chain_first c.0 c.1 other n damage before }

none_there : (n b : ℕ) → get_or (replicate n false) b false ≡ true → ⊥
none_there zero b e = false≢true e
none_there (suc n) zero e = false≢true e
none_there (suc n) (suc b) e = none_there n b e

-- at the beginning nothing was seen or met
pub none_of_upper : (index : Index) (n : ℕ) (seen : List Bool) (met : Met) → seen ≡ replicate n false → met.blocks.items ≡ [] → AreOfUpper index 0 seen met
none_of_upper index n seen met seen_is none = record {
  seen_are = λ b mark. absurd (none_there n b (subst (λ (l : List Bool). get_or l b false ≡ true) seen_is mark));
  met_are = λ b among. absurd (subst (λ (l : List ℕ). IsIn b l) none among);
}
