-- Which pages are changed, as acts change them and writes clean them.
use Rattle.std.proofs.Common.{◌≡◌, ◌≢◌, ℕ, zero, suc, ◌+◌, ◌<◌, ◌≤◌, Bool, true, false, ◌||◌, cond, eqb, ltb, Option, Some, None, List, [], ◌∷◌, ◌++◌, length, get_or, set, drop, refl, sym, ap, subst, ◌⊎◌, inl, inr, ◌∙◌, arith, length-set, get_or-set_other, get_or-set_same}
use Rattle.buffer_pool.proofs.Imports.{cases_eq, cases_lt, eqb-true, eq-eqb, ne_eqb, lt-ltb, ltb-true, or_left, or_right, get_or_default, length_push, drop_more, length-remove}
use Rattle.buffer_pool.proofs.Imports.{get_or-remove_below, get_or-remove_above, list_any-append, list_any_at, list_any_none, position-Some, all_pairs_push, all_pairs_remove, sum_by-set}
use Rattle.buffer_pool.proofs.Imports.{count_by-le-length, remove, count_by, option_map_or, has_block, BlocksAreApart, frame_in, act_in, ArePlaces, AreChanged}
use Rattle.buffer_pool.proofs.Placing.{as_frame, frame_is}

pub frame_cases : (o : Option ℕ) → (o ≡ None) ⊎ ((at : ℕ) × (o ≡ Some at))
frame_cases None = inl refl
frame_cases (Some at) = inr (at, refl)

-- the act of a block that a frame holds is the frame's
pub act_at : (blocks acts : List ℕ) (block at : ℕ) → frame_in blocks block ≡ Some at → act_in blocks acts block ≡ get_or acts at 0
act_at blocks acts block at is = ap (λ (o : Option ℕ). option_map_or (λ k. get_or acts k 0) o 0) is

pub act_none : (blocks acts : List ℕ) (block : ℕ) → frame_in blocks block ≡ None → act_in blocks acts block ≡ 0
act_none blocks acts block is = ap (λ (o : Option ℕ). option_map_or (λ k. get_or acts k 0) o 0) is

-- a frame holds one block alone
pub frame_apart : (blocks : List ℕ) (a b at : ℕ) → frame_in blocks a ≡ Some at → frame_in blocks b ≡ Some at → a ≡ b
frame_apart blocks a b at first second =
    sym (eqb-true (get_or blocks at 0) a (position-Some (λ x. eqb x a) blocks at 0 first).1)
    ∙ eqb-true (get_or blocks at 0) b (position-Some (λ x. eqb x b) blocks at 0 second).1

-- another act of a frame is that of no other block
pub act_other : (blocks acts : List ℕ) (block at act : ℕ) → frame_in blocks block ≢ Some at → act_in blocks (set acts at act) block ≡ act_in blocks acts block
act_other blocks acts block at act not =
    elim (frame_cases (frame_in blocks block)) [
      | inl e ↦ act_none blocks (set acts at act) block e ∙ sym (act_none blocks acts block e)
      | inr p ↦
          let other : p.0 ≢ at = λ same. not (p.1 ∙ ap (λ (n : ℕ). Some n) same) in
          act_at blocks (set acts at act) block p.0 p.1
          ∙ (get_or-set_other acts at p.0 act 0 other ∙ sym (act_at blocks acts block p.0 p.1))
    ]

pub act_same : (blocks acts : List ℕ) (block at act : ℕ) → frame_in blocks block ≡ Some at → at < length acts → act_in blocks (set acts at act) block ≡ act
act_same blocks acts block at act is less = act_at blocks (set acts at act) block at is ∙ get_or-set_same acts at act 0 less

-- one for each act
abbrev one_for : ℕ → ℕ
one_for n = cond (ltb 0 n) 1 0

-- how many acts aren't 0, as one of them is put
pub count_put : (acts : List ℕ) (at act : ℕ) → at < length acts
    → count_by (ltb 0) (set acts at act) + one_for (get_or acts at 0) ≡ count_by (ltb 0) acts + one_for act
count_put acts at act less = sum_by-set one_for acts at act 0 less

one_if : (n : ℕ) → 0 < n → one_for n ≡ 1
one_if n less = ap {B = ℕ} (λ (t : Bool). cond t 1 0) (lt-ltb 0 n less)

-- if one is 0, they are fewer than all
pub count_short : (acts : List ℕ) (at : ℕ) → at < length acts → get_or acts at 0 ≡ 0 → count_by (ltb 0) acts < length acts
count_short acts at less clean =
    omega (arith, count_put acts at 1 less, ap one_for clean, count_by-le-length (ltb 0) (set acts at 1), length-set acts at 1)

has_block-push : (blocks : List ℕ) (new block : ℕ) → has_block (blocks ++ new ∷ []) block ≡ (has_block blocks block || (eqb new block || false))
has_block-push blocks new block = list_any-append (λ b. eqb b block) blocks (new ∷ [])

-- a block that isn't among these is none of them
pub none_of : (blocks : List ℕ) (block k d : ℕ) → has_block blocks block ≡ false → k < length blocks → get_or blocks k d ≢ block
none_of blocks block k d not less = λ same.
    let yes = list_any_at (λ b. eqb b block) blocks k d less (eq-eqb (get_or blocks k d) block same) in absurd cc

pub has_block-at : (blocks : List ℕ) (k d : ℕ) → k < length blocks → has_block blocks (get_or blocks k d) ≡ true
has_block-at blocks k d less = list_any_at (λ b. eqb b (get_or blocks k d)) blocks k d less (eq-eqb (get_or blocks k d) (get_or blocks k d) refl)

-- if one stands once, it isn't among the others
pub has_block-remove_same : (blocks : List ℕ) (at : ℕ) → BlocksAreApart blocks → at < length blocks → has_block (remove blocks at) (get_or blocks at 0) ≡ false
has_block-remove_same blocks at apart less =
    let block = get_or blocks at 0 in
    let short = length-remove blocks at less in
    list_any_none (λ b. eqb b block) (remove blocks at) (λ k d within. ne_eqb (get_or (remove blocks at) k d) block (λ same.
    elim (cases_lt k at) [
      | inl lt ↦ apart k at d lt less (sym (get_or-remove_below blocks at d k lt less) ∙ (same ∙ get_or_default blocks at 0 d less))
      | inr ge ↦ apart at (k + 1) d (omega arith) (omega (arith, within, short)) (sym (sym (get_or-remove_above blocks at d k ge less) ∙ (same ∙ get_or_default blocks at 0 d less)))
    ]))

pub has_block-remove_other : (blocks : List ℕ) (at block : ℕ) → get_or blocks at 0 ≢ block → has_block (remove blocks at) block ≡ has_block blocks block
has_block-remove_other [] zero block other = refl
has_block-remove_other [] (suc at) block other = refl
has_block-remove_other (b ∷ blocks) zero block other = sym (ap (λ (t : Bool). t || has_block blocks block) (ne_eqb b block other))
has_block-remove_other (b ∷ blocks) (suc at) block other = ap (λ (t : Bool). eqb b block || t) (has_block-remove_other blocks at block other)

without : (a b : Bool) → b ≡ false → (a || (b || false)) ≡ a
without true b off = refl
without false b off = ap (λ (t : Bool). t || false) off

-- a clean page is changed: its block comes last
pub changed_first : (changed blocks acts : List ℕ) (block at act : ℕ) → AreChanged changed blocks acts → frame_in blocks block ≡ Some at → at < length acts
    → get_or acts at 0 ≡ 0 → 0 < act → AreChanged (changed ++ block ∷ []) blocks (set acts at act)
changed_first changed blocks acts block at act h is less clean some =
    let was : has_block changed block ≡ false = h.told block ∙ ap (ltb 0) (act_at blocks acts block at is ∙ clean) in
    record {
      told = λ b. elim (cases_eq b block) [
        | inl same ↦
            has_block-push changed block b
            ∙ (or_right (has_block changed b) (eqb block b || false) (or_left (eqb block b) false (eq-eqb block b (sym same)))
            ∙ sym (ap (ltb 0) (ap (act_in blocks (set acts at act)) same ∙ act_same blocks acts block at act is less) ∙ lt-ltb 0 act some))
        | inr other ↦
            let elsewhere : frame_in blocks b ≢ Some at = λ there. other (frame_apart blocks b block at there is) in
            has_block-push changed block b
            ∙ (without (has_block changed b) (eqb block b) (ne_eqb block b (λ e. other (sym e)))
            ∙ (h.told b ∙ sym (ap (ltb 0) (act_other blocks acts b at act elsewhere))))
      ];
      apart = all_pairs_push (λ a b. a ≢ b) changed block h.apart (λ k d within. none_of changed block k d was within);
      counted = omega (arith, length_push changed block, h.counted, count_put acts at act less, one_if act some, ap one_for clean);
    }

-- a changed page is changed again: the order stays
pub changed_again : (changed blocks acts : List ℕ) (block at act : ℕ) → AreChanged changed blocks acts → frame_in blocks block ≡ Some at → at < length acts
    → 0 < get_or acts at 0 → 0 < act → AreChanged changed blocks (set acts at act)
changed_again changed blocks acts block at act h is less before some = record {
  told = λ b. elim (cases_eq b block) [
    | inl same ↦
        h.told b ∙ (ap (ltb 0) (ap (act_in blocks acts) same ∙ act_at blocks acts block at is) ∙ (lt-ltb 0 (get_or acts at 0) before
        ∙ sym (ap (ltb 0) (ap (act_in blocks (set acts at act)) same ∙ act_same blocks acts block at act is less) ∙ lt-ltb 0 act some)))
    | inr other ↦
        let elsewhere : frame_in blocks b ≢ Some at = λ there. other (frame_apart blocks b block at there is) in
        h.told b ∙ sym (ap (ltb 0) (act_other blocks acts b at act elsewhere))
  ];
  apart = h.apart;
  counted = omega (arith, h.counted, count_put acts at act less, one_if act some, one_if (get_or acts at 0) before);
}

-- a block among the changed ones was changed by an act
pub changed_act : (changed blocks acts : List ℕ) (block : ℕ) → AreChanged changed blocks acts → has_block changed block ≡ true → 0 < act_in blocks acts block
changed_act changed blocks acts block h is = ltb-true 0 (act_in blocks acts block) (sym (h.told block) ∙ is)

-- a changed page is written: it leaves the order
pub changed_less : (changed blocks acts : List ℕ) (place at : ℕ) → AreChanged changed blocks acts → place < length changed
    → frame_in blocks (get_or changed place 0) ≡ Some at → at < length acts → AreChanged (remove changed place) blocks (set acts at 0)
changed_less changed blocks acts place at h less is within =
    let block = get_or changed place 0 in
    let before : 0 < get_or acts at 0 = omega (arith, changed_act changed blocks acts block h (has_block-at changed place 0 less), act_at blocks acts block at is) in
    record {
      told = λ b. elim (cases_eq b block) [
        | inl same ↦
            ap (has_block (remove changed place)) same ∙ (has_block-remove_same changed place h.apart less
            ∙ sym (ap (ltb 0) (ap (act_in blocks (set acts at 0)) same ∙ act_same blocks acts block at 0 is within)))
        | inr other ↦
            let elsewhere : frame_in blocks b ≢ Some at = λ there. other (frame_apart blocks b block at there is) in
            has_block-remove_other changed place b (λ e. other (sym e))
            ∙ (h.told b ∙ sym (ap (ltb 0) (act_other blocks acts b at 0 elsewhere)))
      ];
      apart = all_pairs_remove (λ a b. a ≢ b) changed place less h.apart;
      counted = omega (arith, h.counted, length-remove changed place less, count_put acts at 0 within, one_if (get_or acts at 0) before);
    }

-- if as many are changed as are held, each is
pub all_changed : (changed blocks acts : List ℕ) (at : ℕ) → AreChanged changed blocks acts → length acts ≤ length changed → at < length acts → 0 < get_or acts at 0
all_changed changed blocks acts at h many less =
    elim (cases_lt 0 (get_or acts at 0)) [
      | inl lt ↦ lt
      | inr ge ↦ absurd (omega (arith, h.counted, many, count_short acts at less (omega (arith, ge))))
    ]

-- the next of the pages that were written is clean
pub clean_next : (places blocks acts written others : List ℕ) (i at : ℕ) → ArePlaces places blocks → i < length written
    → get_or places (get_or written i 0) 0 ≡ suc at → at < length acts
    → AreChanged (drop i written ++ others) blocks acts → AreChanged (drop (i + 1) written ++ others) blocks (set acts at 0)
clean_next places blocks acts written others i at placed less place within h =
    let block = get_or written i 0 in
    let rest = drop (i + 1) written ++ others in
    let first : AreChanged (block ∷ rest) blocks acts = subst (λ (xs : List ℕ). AreChanged (xs ++ others) blocks acts) (drop_more written i 0 less) h in
    changed_less (block ∷ rest) blocks acts 0 at first (omega arith) (frame_is places blocks placed block ∙ ap as_frame place) within

-- an act that isn't cleaned stays as it was
pub clean_kept : (acts old : List ℕ) (at k : ℕ) → at < length acts → (0 < get_or acts k 0 → get_or acts k 0 ≡ get_or old k 0)
    → 0 < get_or (set acts at 0) k 0 → get_or (set acts at 0) k 0 ≡ get_or old k 0
clean_kept acts old at k less kept some =
    elim (cases_eq k at) [
      | inl e ↦ absurd (omega (arith, some, ap (λ (n : ℕ). get_or (set acts at 0) n 0) e, get_or-set_same acts at 0 0 less))
      | inr other ↦ let same = get_or-set_other acts at k 0 0 other in same ∙ kept (omega (arith, some, same))
    ]
