-- Those that wait in an order, while it is changed.
use Rattle.std.proofs.Common.{◌≡◌, ◌≢◌, inl, inr, ℕ, ◌+◌, ◌-◌, ◌<◌, ◌≤◌, true, false, eqb, Some, List, [], ◌∷◌, ◌++◌, length, take, drop, get_or, refl, sym, ap, ◌∙◌, arith}
use Rattle.std.specs.List.{remove, insert, swap, list_any, position}
use Rattle.buffer_pool.proofs.Imports.{cases_eq, cases_lt, eqb-true, eq-eqb, ne_eqb, length-take, length-drop, length-append, get_or-take, get_or-drop, get_or_append_left, get_or_at, take_all}
use Rattle.buffer_pool.proofs.Imports.{Swapped, swapped_from_swap, length-swap, length-remove, length-insert, get_or-insert_above, get_or-remove_below, get_or-remove_above, slice_get-get_or}
use Rattle.buffer_pool.proofs.Imports.{move_index, position-Some, has_block}
use Rattle.buffer_pool.proofs.Changing.{has_block-at}
use lib.Seq.{ext_get_or}

-- `count` of these, from a place on
abbrev pub window : List ℕ → ℕ → ℕ → List ℕ
window keys first count = take count (drop first keys)

-- a key is looked up by the same question, the other way round
pub contains_has : (keys : List ℕ) (b : ℕ) → list_any (eqb b) keys ≡ has_block keys b
contains_has [] b = refl
contains_has (k ∷ keys) b = elim (cases_eq k b) [
  | inl same ↦ rw (eq-eqb k b same) (rw (eq-eqb b k (sym same)) refl)
  | inr ne ↦ rw (ne_eqb k b ne) (rw (ne_eqb b k (λ e. ne (sym e))) (contains_has keys b))
]

module _ (keys : List ℕ) (first count : ℕ) (within : first + count ≤ length keys) where
  pub window_long : length (window keys first count) ≡ count
  window_long = omega (arith, length-take count (drop first keys), length-drop first keys)

  pub window_at : (k : ℕ) → k < count → get_or (window keys first count) k 0 ≡ get_or keys (first + k) 0
  window_at k less = get_or-take count (drop first keys) k 0 less ∙ get_or-drop first keys k 0

  -- one that stands in the window is among those that wait
  pub window_has : (at : ℕ) → first ≤ at → at < first + count → has_block (window keys first count) (get_or keys at 0) ≡ true
  window_has at from to =
      let k = at - first in
      let there : get_or (window keys first count) k 0 ≡ get_or keys at 0 = window_at k (omega (arith, from, to)) ∙ ap (λ (n : ℕ). get_or keys n 0) (omega (arith, from)) in
      ap (has_block (window keys first count)) (sym there) ∙ has_block-at (window keys first count) k 0 (omega (arith, window_long, from, to))

-- if all wait, each is among them
pub all_wait : (keys : List ℕ) (first count b : ℕ) → first + count ≤ length keys → length keys ≤ count → has_block keys b ≡ true → has_block (window keys first count) b ≡ true
all_wait keys first count b within long among =
    let none : first ≡ 0 = omega (arith, within, long) in
    let all : window keys first count ≡ keys = ap (λ (n : ℕ). take count (drop n keys)) none ∙ take_all count keys long in
    ap (λ (l : List ℕ). has_block l b) all ∙ among

-- two windows with the same at each place are the same
pub window_same : (keys others : List ℕ) (first from count : ℕ) → first + count ≤ length keys → from + count ≤ length others
    → ((k : ℕ) → k < count → get_or keys (first + k) 0 ≡ get_or others (from + k) 0) → window keys first count ≡ window others from count
window_same keys others first from count within inside same =
    ext_get_or 0 (window keys first count) (window others from count) (window_long keys first count within ∙ sym (window_long others from count inside))
    (λ k less.
    let few : k < count = omega (arith, less, window_long keys first count within) in
    window_at keys first count within k few ∙ (same k few ∙ sym (window_at others from count inside k few)))

-- a block that didn't wait comes after those that do
module _ (keys : List ℕ) (first count at block : ℕ) (room : first + count < length keys) (fresh : has_block (window keys first count) block ≡ false) (found : position (eqb block) keys ≡ Some at) where
  pub found_within : at < length keys
  found_within = (position-Some (eqb block) keys at 0 found).0

  found_is : get_or keys at 0 ≡ block
  found_is = sym (eqb-true block (get_or keys at 0) (position-Some (eqb block) keys at 0 found).1)

  -- it stands elsewhere
  elsewhere : (k : ℕ) → k < count → first + k ≢ at
  elsewhere k less e =
      let among = window_has keys first count (omega (arith, room)) (first + k) (omega arith) (omega (arith, less)) in
      let is : get_or keys (first + k) 0 ≡ block = ap (λ (n : ℕ). get_or keys n 0) e ∙ found_is in
      let both : true ≡ false = sym among ∙ (ap (has_block (window keys first count)) is ∙ fresh) in
      cc

  pub pushed : (after : List ℕ) → after ≡ swap keys at (first + count) → window after first (count + 1) ≡ window keys first count ++ block ∷ []
  pushed after is =
      let moved = swapped_from_swap keys after at (first + count) 0 found_within room is in
      let long : length after ≡ length keys = ap (λ (l : List ℕ). length l) is ∙ length-swap keys at (first + count) in
      let short : length (window keys first count) ≡ count = window_long keys first count (omega (arith, room)) in
      let more : length (window after first (count + 1)) ≡ count + 1 = window_long after first (count + 1) (omega (arith, room, long)) in
      let all : length (window keys first count ++ block ∷ []) ≡ count + 1 = length-append (window keys first count) (block ∷ []) ∙ omega (arith, short) in
      ext_get_or 0 (window after first (count + 1)) (window keys first count ++ block ∷ []) (more ∙ sym all)
      (λ k less.
      let few : k < count + 1 = omega (arith, less, more) in
      window_at after first (count + 1) (omega (arith, room, long)) k few ∙ (elim (cases_lt k count) [
        | inl before ↦
            moved.2 (first + k) (elsewhere k before) (omega (arith, before))
            ∙ (sym (window_at keys first count (omega (arith, room)) k before) ∙ sym (get_or_append_left (window keys first count) (block ∷ []) 0 k (omega (arith, before, short))))
        | inr last ↦
            let here : k ≡ count = omega (arith, last, few) in
            ap (λ (n : ℕ). get_or after (first + n) 0) here ∙ (moved.1 ∙ (found_is
            ∙ (sym (get_or_at (window keys first count) block [] 0 count short) ∙ ap (λ (n : ℕ). get_or (window keys first count ++ block ∷ []) n 0) (sym here))))
      ]))

-- one left its place, and those before it moved up
module _ (keys : List ℕ) (first count place : ℕ) (within : first + count ≤ length keys) (less : place < count) where
  moved_is : move_index keys (first + place) first ≡ insert (remove keys (first + place)) first (get_or keys (first + place) 0)
  moved_is = rw (slice_get-get_or keys (first + place) 0 (omega (arith, within, less))) refl

  pub moved_long : length (move_index keys (first + place) first) ≡ length keys
  moved_long =
      let one = length-remove keys (first + place) (omega (arith, within, less)) in
      ap (λ (l : List ℕ). length l) moved_is
      ∙ (length-insert (remove keys (first + place)) first (get_or keys (first + place) 0) (omega (arith, one, within, less)) ∙ one)

  moved_at : (k : ℕ) → k < count - 1 → get_or (move_index keys (first + place) first) (first + 1 + k) 0 ≡ get_or (remove keys (first + place)) (first + k) 0
  moved_at k few =
      let one = length-remove keys (first + place) (omega (arith, within, less)) in
      ap (λ (l : List ℕ). get_or l (first + 1 + k) 0) moved_is
      ∙ (ap (λ (n : ℕ). get_or (insert (remove keys (first + place)) first (get_or keys (first + place) 0)) n 0) (omega arith)
      ∙ get_or-insert_above (remove keys (first + place)) first (get_or keys (first + place) 0) 0 (first + k) (omega arith) (omega (arith, one, within, less)))

  left_at : (k : ℕ) → k < count - 1 → get_or (remove keys (first + place)) (first + k) 0 ≡ get_or (remove (window keys first count) place) k 0
  left_at k few = elim (cases_lt k place) [
    | inl before ↦
        get_or-remove_below keys (first + place) 0 (first + k) (omega (arith, before)) (omega (arith, within, less))
        ∙ (sym (window_at keys first count within k (omega (arith, few)))
        ∙ sym (get_or-remove_below (window keys first count) place 0 k before (omega (arith, less, window_long keys first count within))))
    | inr later ↦
        get_or-remove_above keys (first + place) 0 (first + k) (omega (arith, later)) (omega (arith, within, less))
        ∙ (ap (λ (n : ℕ). get_or keys n 0) (omega arith)
        ∙ (sym (window_at keys first count within (k + 1) (omega (arith, few)))
        ∙ sym (get_or-remove_above (window keys first count) place 0 k later (omega (arith, less, window_long keys first count within)))))
  ]

  pub removed : (after : List ℕ) → after ≡ move_index keys (first + place) first → window after (first + 1) (count - 1) ≡ remove (window keys first count) place
  removed after is =
      let long : length after ≡ length keys = ap (λ (l : List ℕ). length l) is ∙ moved_long in
      let inside : first + 1 + (count - 1) ≤ length after = omega (arith, long, within, less) in
      let short = window_long after (first + 1) (count - 1) inside in
      let one = length-remove (window keys first count) place (omega (arith, less, window_long keys first count within)) in
      ext_get_or 0 (window after (first + 1) (count - 1)) (remove (window keys first count) place) (omega (arith, short, one, window_long keys first count within, less))
      (λ k below.
      let few : k < count - 1 = omega (arith, below, short) in
      window_at after (first + 1) (count - 1) inside k few ∙ (ap (λ (l : List ℕ). get_or l (first + 1 + k) 0) is ∙ (moved_at k few ∙ left_at k few)))

-- the window without its first `more`
pub dropped : (keys : List ℕ) (first count more : ℕ) → first + count ≤ length keys → more ≤ count → window keys (first + more) (count - more) ≡ drop more (window keys first count)
dropped keys first count more within few =
    let inside : first + more + (count - more) ≤ length keys = omega (arith, within, few) in
    let short = window_long keys (first + more) (count - more) inside in
    let long = length-drop more (window keys first count) in
    ext_get_or 0 (window keys (first + more) (count - more)) (drop more (window keys first count)) (omega (arith, short, long, window_long keys first count within))
    (λ k below.
    let less : k < count - more = omega (arith, below, short) in
    window_at keys (first + more) (count - more) inside k less
    ∙ (ap (λ (n : ℕ). get_or keys n 0) (omega arith)
    ∙ (sym (window_at keys first count within (more + k) (omega (arith, less, few))) ∙ sym (get_or-drop more (window keys first count) k 0))))

-- one more of them was moved to the beginning
module _ (keys was : List ℕ) (first at : ℕ) (inside : first + at < length keys) (done : (k : ℕ) → k < at → get_or keys k 0 ≡ get_or was (first + k) 0)
    (left : (k : ℕ) → at ≤ k → get_or keys (first + k) 0 ≡ get_or was (first + k) 0) (after : List ℕ) (is : after ≡ swap keys at (first + at)) where
  moved : Swapped (λ (i : ℕ). get_or keys i 0) (λ (i : ℕ). get_or after i 0) at (first + at)
  moved = swapped_from_swap keys after at (first + at) 0 (omega (arith, inside)) inside is

  pub front_left : (k : ℕ) → at + 1 ≤ k → get_or after (first + k) 0 ≡ get_or was (first + k) 0
  front_left k more = moved.2 (first + k) (omega (arith, more)) (omega (arith, more)) ∙ left k (omega (arith, more))
