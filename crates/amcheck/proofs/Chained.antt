-- The damages of a chain, and what is wrong at the stops of a walk along it.
use Rattle.std.proofs.Common.{◌≡◌, ◌≢◌, ◌⊎◌, ℕ, ◌<◌, ◌≤◌, inl, inr, Bool, Option, Some, None, List, length, slice_get, get_or, refl, sym, ap, subst, ◌∙◌, arith}
use Rattle.amcheck.proofs.Imports.{cases_lt, slice_get-get_or, LeftContext, Rises, IsUniqueNode, Index, Place, place_at, Here, node, context, IsOnLevel, IsMetBefore, HasNotBeyond, IsAfterRoot}
use Rattle.amcheck.proofs.Imports.{IsOfChain, no_link, has_before, IsClearChain, IsFirstOfChain, IsEarlier, context_at, IsStop, AreStops, IsRootAt, IsTooMuch, IsWrong, IsWrongAt, IsBad, same_Some}
use Rattle.amcheck.proofs.Imports.{IsFirstPlace, IsLeastNumber, Stop}
use Rattle.amcheck.proofs.Imports.{beside_root, dead_after_split, deleted, met_before, not_beyond, not_rising, off_level, shared_key, wrong_left}
use Rattle.amcheck.proofs.Imports.{half_dead_after, linked_wrongly, still_there, too_low, too_much, wrong_item, wrong_keys}
use Rattle.amcheck.proofs.Found.{no_stop, wrong_there}
use Rattle.amcheck.proofs.Walked.{stop_inside}

-- each damage of a chain has a number
number_some : {ix : Index} (keys : Bool) (h : Here ix) (n : ℕ) → IsOfChain keys h n → 0 < n
number_some keys h n (off_level k off) = omega (arith, k)
number_some keys h n (wrong_left k differs) = omega (arith, k)
number_some keys h n (met_before k met) = omega (arith, k)
number_some keys h n (deleted k gone) = omega (arith, k)
number_some keys h n (not_rising k live low) = omega (arith, k)
number_some keys h n (not_beyond k has) = omega (arith, k)
number_some keys h n (beside_root k top not_root not_after) = omega (arith, k)
number_some keys h n (dead_after_split k dead after) = omega (arith, k)
number_some keys h n (shared_key k seen shared) = omega (arith, k)

-- ... that is 1 if the page isn't on the level, 2 if its left link is wrong, and else more
number_cases : {ix : Index} (keys : Bool) (h : Here ix) (n : ℕ) → IsOfChain keys h n → ((n ≡ 1) × (IsOnLevel ix h.depth h.block → ⊥)) ⊎ ((n ≡ 2) × ((node h).left ≢ (context h).left)) ⊎ (3 ≤ n)
number_cases keys h n (off_level k off) = inl (k, off)
number_cases keys h n (wrong_left k differs) = inr (inl (k, differs))
number_cases keys h n (met_before k met) = inr (inr (omega (arith, k)))
number_cases keys h n (deleted k gone) = inr (inr (omega (arith, k)))
number_cases keys h n (not_rising k live low) = inr (inr (omega (arith, k)))
number_cases keys h n (not_beyond k has) = inr (inr (omega (arith, k)))
number_cases keys h n (beside_root k top not_root not_after) = inr (inr (omega (arith, k)))
number_cases keys h n (dead_after_split k dead after) = inr (inr (omega (arith, k)))
number_cases keys h n (shared_key k seen shared) = inr (inr (omega (arith, k)))

-- what the root's level asks
is_too_much : (ix : Index) (depth : ℕ) (root : Option ℕ) (s : LeftContext) (block : ℕ) → IsRootAt ix depth root → depth ≡ 0 → block ≢ ix.root → (IsAfterRoot ix.root s → ⊥) → IsTooMuch root s block
is_too_much ix depth None s block is top not_root not_after_root = absurd (omega (arith, is, top))
is_too_much ix depth (Some r) s block is top not_root not_after_root = (
  λ same. not_root (same ∙ is.1),
  λ left_is_split. not_after_root (subst (λ (b : ℕ). IsAfterRoot b s) is.1 left_is_split),
)

too_many : (ix : Index) (depth : ℕ) (root : Option ℕ) (s : LeftContext) (block : ℕ) → IsRootAt ix depth root → IsTooMuch root s block → (depth ≡ 0) × (block ≢ ix.root) × (IsAfterRoot ix.root s → ⊥)
too_many ix depth None s block is much = absurd much
too_many ix depth (Some r) s block is much = (is.0, λ same. much.0 (same ∙ sym is.1), λ left_is_split. much.1 (subst (λ (b : ℕ). IsAfterRoot b s) (sym is.1) left_is_split))

-- a page at this place of the chain
place_same : {ix : Index} (h : Here ix) (depth place : ℕ) (s : LeftContext) (b : ℕ) → h.depth ≡ depth → h.place ≡ place
    → place_at ix depth place ≡ record { context = s; block = Some b } → (h.block ≡ b) × (context h ≡ s)
place_same {ix} h depth place s b deep there is =
    let whole : place_at ix h.depth h.place ≡ record { context = s; block = Some b } = (λ i. place_at ix (deep i) (there i)) ∙ is in
    (same_Some h.block b (sym h.is ∙ ap (λ (p : Place). p.block) whole), ap (λ (p : Place). p.context) whole)

module _ (ix : Index) (keys : Bool) (depth : ℕ) (root : Option ℕ) (stops : List Stop) (deep : depth ≤ ix.top) (root_is : IsRootAt ix depth root) (are : AreStops ix depth stops) where
  -- a damage at a stop is wrong there
  wrong_here : (h : Here ix) (n : ℕ) (s : Stop) → h.depth ≡ depth → slice_get stops h.place ≡ Some s → IsOfChain keys h n → IsWrong keys (ix.at s.block) root (context_at ix.at s) s.block n
  wrong_here h n s same there damage = by damage
    where
      told : (h.block ≡ s.block) × (context h ≡ context_at ix.at s)
      told = place_same h depth h.place (context_at ix.at s) s.block same refl (are.placed h.place s there)

      met : IsMetBefore h → ⊥
      met m =
          let lt = m.before in
          let inside = stop_inside stops h.place s there in
          let t = get_or stops m.earlier no_stop in
          let first : slice_get stops m.earlier ≡ Some t = slice_get-get_or stops m.earlier no_stop (omega arith) in
          let block : t.block ≡ h.block =
          same_Some t.block h.block (sym (ap (λ (p : Place). p.block) (are.placed m.earlier t first)) ∙ subst (λ (d : ℕ). (place_at ix d m.earlier).block ≡ Some h.block) same m.same) in
          are.once m.earlier h.place t s m.before first there (block ∙ told.0)

      by : IsOfChain keys h n → IsWrong keys (ix.at s.block) root (context_at ix.at s) s.block n
      by (off_level k off) = absurd (off (subst (λ (d : ℕ). IsOnLevel ix d h.block) (sym same) (subst (IsOnLevel ix depth) (sym told.0) (are.on_level h.place s there))))
      by (wrong_left k differs) = linked_wrongly k (subst (λ (b : ℕ). (ix.at b).left ≢ s.left) told.0 (subst (λ (t : LeftContext). (node h).left ≢ t.left) told.1 differs))
      by (met_before k earlier) = absurd (met earlier)
      by (deleted k gone) = still_there k (ap (λ (b : ℕ). (ix.at b).state) (sym told.0) ∙ gone)
      by (not_rising k live low) = too_low k (ap (λ (b : ℕ). (ix.at b).state) (sym told.0) ∙ live)
          (subst (λ (b : ℕ). Rises (context_at ix.at s).low (ix.at b).high → ⊥) told.0 (subst (λ (t : LeftContext). Rises t.low (node h).high → ⊥) told.1 low))
      by (not_beyond k has) = wrong_item k (record {
        is = subst (λ (b : ℕ). HasNotBeyond (context_at ix.at s).low (ix.at b)) told.0 (subst (λ (t : LeftContext). HasNotBeyond t.low (node h)) told.1 has);
      })
      by (beside_root k top not_root not_after) = too_much k (subst (λ (b : ℕ). IsTooMuch root (context_at ix.at s) b) told.0
          (subst (λ (t : LeftContext). IsTooMuch root t h.block) told.1 (is_too_much ix depth root (context h) h.block root_is (sym same ∙ top) not_root not_after)))
      by (dead_after_split k dead after) = half_dead_after k (ap (λ (b : ℕ). (ix.at b).state) (sym told.0) ∙ dead) (ap (λ (t : LeftContext). t.left_is_split) (sym told.1) ∙ after)
      by (shared_key k seen shared) = wrong_keys k seen (subst (λ (b : ℕ). IsUniqueNode (ix.at b) → ⊥) told.0 shared)

  wrong_at : (h : Here ix) (n : ℕ) → h.depth ≡ depth → h.place < length stops → IsOfChain keys h n → IsWrongAt ix.at keys root stops h.place n
  wrong_at h n same inside damage =
      let there : slice_get stops h.place ≡ Some (get_or stops h.place no_stop) = slice_get-get_or stops h.place no_stop inside in
      record { stop = get_or stops h.place no_stop; there = there; wrong = wrong_here h n (get_or stops h.place no_stop) same there damage }

  -- what is wrong at a stop is a damage there
  is_damage : (h : Here ix) (n : ℕ) → h.depth ≡ depth → IsWrong keys (node h) root (context h) h.block n → IsOfChain keys h n
  is_damage h n same (linked_wrongly k differs) = wrong_left k differs
  is_damage h n same (still_there k gone) = deleted k gone
  is_damage h n same (too_low k live low) = not_rising k live low
  is_damage h n same (wrong_item k wrong) = not_beyond k wrong.is
  is_damage h n same (too_much k much) = (let m = too_many ix depth root (context h) h.block root_is much in beside_root k (same ∙ m.0) m.1 m.2)
  is_damage h n same (half_dead_after k dead after) = dead_after_split k dead after
  is_damage h n same (wrong_keys k seen shared) = shared_key k seen shared

  pub first_at : (k n : ℕ) (s : Stop) → slice_get stops k ≡ Some s → IsFirstPlace (IsBad ix.at keys root stops) (Some k)
      → IsLeastNumber (IsWrongAt ix.at keys root stops k) (Some n) → IsFirstOfChain ix keys depth n s.block
  first_at k n s there first least =
      let placed = are.placed k s there in
      record {
        here = record { depth = depth; place = k; block = s.block; deep = deep; is = ap (λ (p : Place). p.block) placed };
        deep = refl;
        is = is_damage (record { depth = depth; place = k; block = s.block; deep = deep; is = ap (λ (p : Place). p.block) placed }) n refl
            (subst (λ (p : Place). IsWrong keys (ix.at s.block) root p.context s.block n) (sym placed) (wrong_there ix.at keys root stops k s n there least.0));
        block_is = refl;
        first = λ other m same damage earlier.
            let inside = stop_inside stops k s there in
            elim earlier [
              | inl lt ↦ first.1 other.place lt (record { number = m; wrong = wrong_at other m same (omega arith) damage })
              | inr here ↦ let e = here.0 in least.1 m here.1 (subst (λ (j : ℕ). IsWrongAt ix.at keys root stops j m) here.0 (wrong_at other m same (omega arith) damage))
            ];
      }

  -- if nothing is wrong at a stop, nothing is damaged before the end of the walk
  module _ (right : IsFirstPlace (IsBad ix.at keys root stops) None) where
    clear_before : (h : Here ix) (n : ℕ) → h.depth ≡ depth → h.place < length stops → IsOfChain keys h n → ⊥
    clear_before h n same inside damage = right h.place (record { number = n; wrong = wrong_at h n same inside damage })

    pub clear_whole : (place_at ix depth (length stops)).block ≡ None → IsClearChain ix keys depth
    clear_whole ended h n same damage = elim (cases_lt h.place (length stops)) [
      | inl lt ↦ clear_before h n same lt damage
      | inr ge ↦ let c = has_before ix depth h.place h.block (subst (λ (d : ℕ). (place_at ix d h.place).block ≡ Some h.block) same h.is) (length stops) ge in no_link (sym ended ∙ c.1)
    ]

    pub first_off : (b : ℕ) → (place_at ix depth (length stops)).block ≡ Some b → (IsOnLevel ix depth b → ⊥) → IsFirstOfChain ix keys depth 1 b
    first_off b is off = record {
      here = record { depth = depth; place = length stops; block = b; deep = deep; is = is };
      deep = refl;
      is = off_level refl off;
      block_is = refl;
      first = λ other m same damage earlier. elim earlier [
        | inl lt ↦ clear_before other m same lt damage
        | inr here ↦ let some = number_some keys other m damage in let lt = here.1 in absurd (omega arith)
      ];
    }

    module _ (s : Stop) (placed : IsStop ix depth (length stops) s) (on : IsOnLevel ix depth s.block) where
      on_it : (other : Here ix) → other.depth ≡ depth → other.place ≡ length stops → (IsOnLevel ix other.depth other.block → ⊥) → ⊥
      on_it other same there off =
          let told = place_same other depth (length stops) (context_at ix.at s) s.block same there placed in
          off (subst (λ (d : ℕ). IsOnLevel ix d other.block) (sym same) (subst (IsOnLevel ix depth) (sym told.0) on))

      pub first_two : (ix.at s.block).left ≢ s.left → IsFirstOfChain ix keys depth 2 s.block
      first_two differs = record {
        here = record { depth = depth; place = length stops; block = s.block; deep = deep; is = ap (λ (p : Place). p.block) placed };
        deep = refl;
        is = wrong_left refl (subst (λ (p : Place). (ix.at s.block).left ≢ p.context.left) (sym placed) differs);
        block_is = refl;
        first = λ other m same damage earlier. elim earlier [
          | inl lt ↦ clear_before other m same lt damage
          | inr here ↦ elim (number_cases keys other m damage) [
            | inl one ↦ on_it other same here.0 one.1
            | inr (inl two) ↦ let k = two.0 in let lt = here.1 in absurd (omega arith)
            | inr (inr more) ↦ let lt = here.1 in absurd (omega arith)
          ]
        ];
      }

      pub first_three : (ix.at s.block).left ≡ s.left → IsEarlier ix depth (length stops) s.block → IsFirstOfChain ix keys depth 3 s.block
      first_three left before = record {
        here = record { depth = depth; place = length stops; block = s.block; deep = deep; is = ap (λ (p : Place). p.block) placed };
        deep = refl;
        is = met_before refl (record { earlier = before.earlier; before = before.before; same = before.is });
        block_is = refl;
        first = λ other m same damage earlier. elim earlier [
          | inl lt ↦ clear_before other m same lt damage
          | inr here ↦ elim (number_cases keys other m damage) [
            | inl one ↦ on_it other same here.0 one.1
            | inr (inl two) ↦
                let told = place_same other depth (length stops) (context_at ix.at s) s.block same here.0 placed in
                two.1 (ap (λ (b : ℕ). (ix.at b).left) told.0 ∙ left ∙ ap (λ (t : LeftContext). t.left) (sym told.1))
            | inr (inr more) ↦ let lt = here.1 in absurd (omega arith)
          ]
        ];
      }

      pub first_met : (n : ℕ) → (n ≡ 2 → (ix.at s.block).left ≢ s.left) → (n ≡ 3 → (ix.at s.block).left ≡ s.left) → (n ≡ 2) ⊎ (n ≡ 3)
          → IsEarlier ix depth (length stops) s.block → IsFirstOfChain ix keys depth n s.block
      first_met n two three (inl e) before = subst (λ (k : ℕ). IsFirstOfChain ix keys depth k s.block) (sym e) (first_two (two e))
      first_met n two three (inr e) before = subst (λ (k : ℕ). IsFirstOfChain ix keys depth k s.block) (sym e) (first_three (three e) before)
