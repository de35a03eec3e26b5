-- The place of a block is its frame.
use Rattle.std.proofs.Common.{◌≡◌, ◌≢◌, ℕ, zero, suc, ◌<◌, Bool, true, cond, eqb, ltb, Option, Some, None, List, [], ◌∷◌, ◌++◌, length, get_or, set, refl, sym, ap, ◌⊎◌, inl, inr, ◌∙◌, arith, length-set, get_or-set_other, get_or-set_same}
use Rattle.buffer_pool.proofs.Imports.{cases_eq, cases_lt, eq-eqb, ne_eqb, lt-ltb, le-ltb, get_or_past, get_or_push, get_or_append_left, length_push, position_or_len_is, position_or_len}
use Rattle.buffer_pool.proofs.Imports.{option_map_or, frame_in, act_in, ArePlaces}

-- the frame that a place stands for
abbrev pub as_frame : ℕ → Option ℕ
as_frame zero = None
as_frame (suc at) = Some at

-- the act of the frame that a place stands for; 0 if it stands for none
abbrev pub act_by : List ℕ → ℕ → ℕ
act_by acts zero = 0
act_by acts (suc at) = get_or acts at 0

pub place_cases : (place : ℕ) → (place ≡ 0) ⊎ ((at : ℕ) × (place ≡ suc at))
place_cases zero = inl refl
place_cases (suc at) = inr (at, refl)

-- if the first block that is this one stands at `at`, that is its frame
found_at : (blocks : List ℕ) (block at : ℕ) → position_or_len (λ b. eqb b block) blocks ≡ at → at < length blocks → frame_in blocks block ≡ Some at
found_at blocks block at is less =
    let first = position_or_len (λ b. eqb b block) blocks in
    let yes : ltb first (length blocks) ≡ true = lt-ltb first (length blocks) (omega (arith, is)) in
    ap (λ (t : Bool). cond t (Some first) None) yes ∙ ap (λ (n : ℕ). Some n) is

found_none : (blocks : List ℕ) (block : ℕ) → position_or_len (λ b. eqb b block) blocks ≡ length blocks → frame_in blocks block ≡ None
found_none blocks block is =
    let first = position_or_len (λ b. eqb b block) blocks in
    ap (λ (t : Bool). cond t (Some first) None) (le-ltb first (length blocks) (omega (arith, is)))

-- a block whose place is told stands in that frame, and in no other
pub frame_is : (places blocks : List ℕ) → ArePlaces places blocks → (block : ℕ) → frame_in blocks block ≡ as_frame (get_or places block 0)
frame_is places blocks h block =
    elim (place_cases (get_or places block 0)) [
      | inl e ↦ found_none blocks block (position_or_len_is (λ b. eqb b block) blocks (length blocks) 0 (omega arith)
          (λ k less. ne_eqb (get_or blocks k 0) block (λ same. omega (arith, h.told k less, ap (λ (b : ℕ). get_or places b 0) same, e)))
          (λ less. absurd (omega (arith, less))))
          ∙ sym (ap as_frame e)
      | inr p ↦ let at = p.0 in found_at blocks block at (position_or_len_is (λ b. eqb b block) blocks at 0 (omega (arith, h.within block at p.1))
          (λ k less. ne_eqb (get_or blocks k 0) block
          (λ same. omega (arith, less, h.within block at p.1, h.told k (omega (arith, less, h.within block at p.1)), ap (λ (b : ℕ). get_or places b 0) same, p.1)))
          (λ less. eq-eqb (get_or blocks at 0) block (h.same block at p.1)))
          (h.within block at p.1)
          ∙ sym (ap as_frame p.1)
    ]

pub place_of_frame : (places blocks : List ℕ) → ArePlaces places blocks → (block at : ℕ) → frame_in blocks block ≡ Some at → get_or places block 0 ≡ suc at
place_of_frame places blocks h block at is =
    elim (place_cases (get_or places block 0)) [
      | inl e ↦ let both : None ≡ Some at = sym (ap as_frame e) ∙ (sym (frame_is places blocks h block) ∙ is) in absurd cc
      | inr p ↦ let both : Some p.0 ≡ Some at = sym (ap as_frame p.1) ∙ (sym (frame_is places blocks h block) ∙ is) in cc (p.1)
    ]

pub place_of_none : (places blocks : List ℕ) → ArePlaces places blocks → (block : ℕ) → frame_in blocks block ≡ None → get_or places block 0 ≡ 0
place_of_none places blocks h block is =
    elim (place_cases (get_or places block 0)) [
      | inl e ↦ e
      | inr p ↦ let both : Some p.0 ≡ None = sym (ap as_frame p.1) ∙ (sym (frame_is places blocks h block) ∙ is) in absurd cc
    ]

pub act_is : (places blocks acts : List ℕ) → ArePlaces places blocks → (block : ℕ) → act_in blocks acts block ≡ act_by acts (get_or places block 0)
act_is places blocks acts h block =
    elim (place_cases (get_or places block 0)) [
      | inl e ↦ ap (λ (o : Option ℕ). option_map_or (λ k. get_or acts k 0) o 0) (frame_is places blocks h block ∙ ap as_frame e) ∙ sym (ap (act_by acts) e)
      | inr p ↦ ap (λ (o : Option ℕ). option_map_or (λ k. get_or acts k 0) o 0) (frame_is places blocks h block ∙ ap as_frame p.1) ∙ sym (ap (act_by acts) p.1)
    ]

-- a block that has a place is below their number
pub placed_within : (places : List ℕ) (block at : ℕ) → get_or places block 0 ≡ suc at → block < length places
placed_within places block at is =
    elim (cases_lt block (length places)) [
      | inl lt ↦ lt
      | inr ge ↦ absurd (omega (arith, is, get_or_past places block 0 ge))
    ]

-- a page of another block comes into a new frame
pub placed_push : (places blocks : List ℕ) (new : ℕ) → ArePlaces places blocks → get_or places new 0 ≡ 0 → new < length places
    → ArePlaces (set places new (suc (length blocks))) (blocks ++ new ∷ [])
placed_push places blocks new h absent less = record {
  told = λ at within. elim (cases_lt at (length blocks)) [
    | inl lt ↦
        let there = get_or_append_left blocks (new ∷ []) 0 at lt in
        let other : get_or blocks at 0 ≢ new = λ same. omega (arith, h.told at lt, ap (λ (b : ℕ). get_or places b 0) same, absent) in
        ap (λ (b : ℕ). get_or (set places new (suc (length blocks))) b 0) there
        ∙ (get_or-set_other places new (get_or blocks at 0) (suc (length blocks)) 0 other ∙ h.told at lt)
    | inr ge ↦
        let last : at ≡ length blocks = omega (arith, within, ge, length_push blocks new) in
        ap (λ (b : ℕ). get_or (set places new (suc (length blocks))) b 0) (get_or_push blocks new 0 at (sym last))
        ∙ (get_or-set_same places new (suc (length blocks)) 0 less ∙ ap (λ (n : ℕ). suc n) (sym last))
  ];
  within = λ block at is. elim (cases_eq block new) [
    | inl same ↦
        let put = get_or-set_same places new (suc (length blocks)) 0 less in
        omega (arith, length_push blocks new, put, is, ap (λ (b : ℕ). get_or (set places new (suc (length blocks))) b 0) same)
    | inr other ↦
        omega (arith, length_push blocks new, h.within block at (sym (get_or-set_other places new block (suc (length blocks)) 0 other) ∙ is))
  ];
  same = λ block at is. elim (cases_eq block new) [
    | inl same ↦
        let put = get_or-set_same places new (suc (length blocks)) 0 less in
        let last : length blocks ≡ at = omega (arith, put, is, ap (λ (b : ℕ). get_or (set places new (suc (length blocks))) b 0) same) in
        get_or_push blocks new 0 at last ∙ sym same
    | inr other ↦
        let was = sym (get_or-set_other places new block (suc (length blocks)) 0 other) ∙ is in
        get_or_append_left blocks (new ∷ []) 0 at (h.within block at was) ∙ h.same block at was
  ];
}

-- a place that is left after one was cleared, is not of the block that was cleared
cleared_place : (places : List ℕ) (old block at : ℕ) → get_or (set places old 0) block 0 ≡ suc at → block ≢ old
cleared_place places old block at is = λ e.
    elim (cases_lt old (length places)) [
      | inl lt ↦ omega (arith, is, ap (λ (b : ℕ). get_or (set places old 0) b 0) e, get_or-set_same places old 0 0 lt)
      | inr ge ↦ omega (arith, is, get_or_past (set places old 0) block 0 (omega (arith, ge, e, length-set places old 0)))
    ]

-- and was there before
kept_place : (places : List ℕ) (old block at : ℕ) → get_or (set places old 0) block 0 ≡ suc at → get_or places block 0 ≡ suc at
kept_place places old block at is = sym (get_or-set_other places old block 0 0 (cleared_place places old block at is)) ∙ is

-- a page of another block comes into a frame in use
pub placed_set : (places blocks : List ℕ) (at new : ℕ) → ArePlaces places blocks → at < length blocks → get_or places new 0 ≡ 0 → new < length places
    → ArePlaces (set (set places (get_or blocks at 0) 0) new (suc at)) (set blocks at new)
placed_set places blocks at new h here absent less =
    let old = get_or blocks at 0 in
    let cleared = set places old 0 in
    let put : get_or (set cleared new (suc at)) new 0 ≡ suc at = get_or-set_same cleared new (suc at) 0 (omega (arith, less, length-set places old 0)) in
    record {
      told = λ k within. elim (cases_eq k at) [
        | inl same ↦
            ap (λ (b : ℕ). get_or (set cleared new (suc at)) b 0) (ap (λ (n : ℕ). get_or (set blocks at new) n 0) same ∙ get_or-set_same blocks at new 0 here)
            ∙ (put ∙ ap (λ (n : ℕ). suc n) (sym same))
        | inr other ↦
            let in' : k < length blocks = omega (arith, within, length-set blocks at new) in
            let not_new : get_or blocks k 0 ≢ new = λ e. omega (arith, h.told k in', ap (λ (b : ℕ). get_or places b 0) e, absent) in
            let not_old : get_or blocks k 0 ≢ old = λ e. omega (arith, h.told k in', ap (λ (b : ℕ). get_or places b 0) e, h.told at here, other) in
            ap (λ (b : ℕ). get_or (set cleared new (suc at)) b 0) (get_or-set_other blocks at k new 0 other)
            ∙ (get_or-set_other cleared new (get_or blocks k 0) (suc at) 0 not_new
            ∙ (get_or-set_other places old (get_or blocks k 0) 0 0 not_old ∙ h.told k in'))
      ];
      within = λ block k is. elim (cases_eq block new) [
        | inl same ↦ omega (arith, length-set blocks at new, put, is, here, ap (λ (b : ℕ). get_or (set cleared new (suc at)) b 0) same)
        | inr other ↦
            omega (arith, length-set blocks at new, h.within block k (kept_place places old block k (sym (get_or-set_other cleared new block (suc at) 0 other) ∙ is)))
      ];
      same = λ block k is. elim (cases_eq block new) [
        | inl same ↦
            let there : k ≡ at = omega (arith, put, is, ap (λ (b : ℕ). get_or (set cleared new (suc at)) b 0) same) in
            ap (λ (n : ℕ). get_or (set blocks at new) n 0) there ∙ (get_or-set_same blocks at new 0 here ∙ sym same)
        | inr other ↦
            let still = sym (get_or-set_other cleared new block (suc at) 0 other) ∙ is in
            let was = kept_place places old block k still in
            let elsewhere : k ≢ at = λ e. cleared_place places old block k still (sym (h.same block k was) ∙ ap (λ (n : ℕ). get_or blocks n 0) e) in
            get_or-set_other blocks at k new 0 elsewhere ∙ h.same block k was
      ];
    }
