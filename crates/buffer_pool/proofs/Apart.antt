-- How many different blocks there are among those that are pinned.
use Rattle.std.proofs.Common.{◌≡◌, ◌≢◌, ℕ, zero, suc, ◌<◌, ◌≤◌, true, false, eqb, None, List, [], ◌∷◌, length, get_or, refl, sym, ap, inl, inr, ◌∙◌, arith}
use Rattle.std.specs.Prelude.{take, drop}
use Rattle.buffer_pool.specs.Pools.{frame_of}
use Rattle.buffer_pool.proofs.Imports.{All, remove, cases_Bool, eqb-true, eq-eqb, ne_eqb, or_cases, or_left, or_right, cond-true, cond-false, length-map, get_or_default, length-remove, All-cons}
use Rattle.buffer_pool.proofs.Imports.{All-append, All-take, All-drop, All-weaker, Any-from_list_any, list_any_none, all_pairs_remove, Page, Pool, blocks_in, has_block, BlocksAreApart}
use Rattle.buffer_pool.proofs.Imports.{count_distinct}
use Rattle.buffer_pool.proofs.Changing.{none_of, has_block-remove_same}
use Rattle.buffer_pool.proofs.Putting.{no_place_from}

-- a block among these and one more, that isn't that one, is among these
among_rest : (block b : ℕ) (blocks : List ℕ) → b ≢ block → has_block (block ∷ blocks) b ≡ true → has_block blocks b ≡ true
among_rest block b blocks other is =
    elim (or_cases (eqb block b) (has_block blocks b) is) [
      | inl e ↦ absurd (other (sym (eqb-true block b e)))
      | inr h ↦ h
    ]

-- different blocks, each among these, are no more than there are different ones among these
pub few_apart : (others blocks : List ℕ) → BlocksAreApart blocks → All (λ b. has_block others b ≡ true) blocks → length blocks ≤ count_distinct others
few_apart [] [] apart among = omega arith
few_apart [] (b ∷ blocks) apart among = let both : false ≡ true = among 0 b (omega arith) in absurd cc
few_apart (other ∷ others) blocks apart among =
    elim (cases_Bool (has_block others other)) [
      | inl there ↦
          let same = cond-true (has_block others other) (count_distinct others) (suc (count_distinct others)) there in
          omega (
            arith,
            same,
            few_apart others blocks apart (λ k d less.
                elim (or_cases (eqb other (get_or blocks k d)) (has_block others (get_or blocks k d)) (among k d less)) [
                  | inl e ↦ ap (has_block others) (sym (eqb-true other (get_or blocks k d) e)) ∙ there
                  | inr h ↦ h
                ]),
          )
      | inr once ↦
          let more = cond-false (has_block others other) (count_distinct others) (suc (count_distinct others)) once in
          elim (cases_Bool (has_block blocks other)) [
            | inl among_them ↦
                let at = Any-from_list_any (λ b. eqb b other) blocks among_them in
                let is : get_or blocks at.0 0 ≡ other = get_or_default blocks at.0 0 at.1 at.2 ∙ (at.3 ∙ eqb-true at.1 other at.4) in
                let gone : has_block (remove blocks at.0) other ≡ false = ap (has_block (remove blocks at.0)) (sym is) ∙ has_block-remove_same blocks at.0 apart at.2 in
                let left = All-append (λ b. has_block (other ∷ others) b ≡ true) (take at.0 blocks) (drop (suc at.0) blocks)
                (All-take (λ b. has_block (other ∷ others) b ≡ true) at.0 blocks among) (All-drop (λ b. has_block (other ∷ others) b ≡ true) (suc at.0) blocks among) in
                omega (
                  arith,
                  more,
                  length-remove blocks at.0 at.2,
                  few_apart others (remove blocks at.0) (all_pairs_remove (λ a b. a ≢ b) blocks at.0 at.2 apart)
                      (λ k d less. among_rest other (get_or (remove blocks at.0) k d) others (none_of (remove blocks at.0) other k d gone less) (left k d less)),
                )
            | inr not_there ↦
                omega (arith, more, few_apart others blocks apart (λ k d less. among_rest other (get_or blocks k d) others (none_of blocks other k d not_there less) (among k d less)))
          ]
    ]

-- a block that isn't among different ones is different from them
apart_cons : (block : ℕ) (blocks : List ℕ) → has_block blocks block ≡ false → BlocksAreApart blocks → BlocksAreApart (block ∷ blocks)
apart_cons block blocks off apart zero zero d less within = absurd (omega (arith, less))
apart_cons block blocks off apart zero (suc j) d less within = λ same. none_of blocks block j d off (omega (arith, within)) (sym same)
apart_cons block blocks off apart (suc i) zero d less within = absurd (omega (arith, less))
apart_cons block blocks off apart (suc i) (suc j) d less within = apart i j d (omega (arith, less)) (omega (arith, within))

-- a block without a frame is none of those that are held
pub absent_apart : (pool : Pool) (block : ℕ) → frame_of pool block ≡ None → has_block (blocks_in pool.pages.items) block ≡ false
absent_apart pool block none =
    let blocks = blocks_in pool.pages.items in
    list_any_none (λ b. eqb b block) blocks (λ k d less. ne_eqb (get_or blocks k d) block (λ same.
    omega (arith, no_place_from pool block none, pool.placed.told k less, ap (λ (b : ℕ). get_or pool.places.items b 0) (get_or_default blocks k 0 d less ∙ same))))

-- if each held block is pinned, it and another that isn't held are more than are held
pub pinned_more : (pool : Pool) (pinned : List ℕ) (block : ℕ) → frame_of pool block ≡ None → BlocksAreApart (blocks_in pool.pages.items)
    → All (λ b. has_block pinned b ≡ true) (blocks_in pool.pages.items) → length pool.pages.items < count_distinct (block ∷ pinned)
pinned_more pool pinned block none apart every =
    let blocks = blocks_in pool.pages.items in
    omega (
      arith,
      length-map pool.pages.items (λ (p : Page). p.block),
      few_apart (block ∷ pinned) (block ∷ blocks) (apart_cons block blocks (absent_apart pool block none) apart)
          (All-cons (λ b. has_block (block ∷ pinned) b ≡ true) block blocks (or_left (eqb block block) (has_block pinned block) (eq-eqb block block refl))
          (All-weaker (λ b. has_block pinned b ≡ true) (λ b. has_block (block ∷ pinned) b ≡ true) (λ b is. or_right (eqb block b) (has_block pinned b) is) blocks every)),
    )
