-- Blocks in order: which are among others, and how many are new.
use Rattle.std.proofs.Common.{◌≡◌, ◌≢◌, ℕ, zero, suc, ◌+◌, ◌<◌, ◌≤◌, ◌==◌, ◌||◌, Bool, true, false, cond, List, [], ◌∷◌, ◌++◌, length, get_or, set, Option, Some, None, refl, sym, ◌∙◌, ap, subst, arith, ⊎_elim, length-append}
use Rattle.std.specs.Bool.{⊤}
use Rattle.redo_log.proofs.Imports.{IfSome, IfNone, is_some, cases_Bool, cases_lt, or_cases, or_left, or_right, or_parts, or_from, eqb-true, eqb-false, eq-eqb, ne_eqb, false_from_ne_true}
use Rattle.redo_log.proofs.Imports.{true≢false, false≢true, get_or_append_left, get_or_push, get_or-set_same, get_or-set_other, Format, Page, AreImages, image_blocks, is_among_blocks, with_block}
use Rattle.redo_log.proofs.Imports.{with_blocks, new_count, AreInside}

-- each of these blocks stands there once
abbrev pub EachStandsOnce : List ℕ → Type 0
EachStandsOnce [] = ⊤
EachStandsOnce (b ∷ blocks) = (is_among_blocks blocks b ≡ false) × EachStandsOnce blocks

-- a block that stands at a place is among them
pub is_among-at : (blocks : List ℕ) (block k : ℕ) → k < length blocks → get_or blocks k 0 ≡ block → is_among_blocks blocks block ≡ true
is_among-at [] block k lt e = absurd (omega arith)
is_among-at (b ∷ blocks) block zero lt e = or_left (b == block) (is_among_blocks blocks block) (eq-eqb b block e)
is_among-at (b ∷ blocks) block (suc k) lt e = or_right (b == block) (is_among_blocks blocks block) (is_among-at blocks block k (omega arith) e)

-- a block that is among them stands at a place
pub place_among : (blocks : List ℕ) (block : ℕ) → is_among_blocks blocks block ≡ true → (k : ℕ) × (k < length blocks) × (get_or blocks k 0 ≡ block)
place_among [] block e = absurd (false≢true e)
place_among (b ∷ blocks) block e = ⊎_elim
    (λ here. (0, omega arith, eqb-true b block here))
    (λ there. let w = place_among blocks block there in (suc w.0, omega (arith, w.1), w.2))
    (or_cases (b == block) (is_among_blocks blocks block) e)

-- a look for a block's place tells whether it is among them
pub found_among : (blocks : List ℕ) (block : ℕ) (o : Option ℕ) → IfSome o (λ k. (k < length blocks) × (get_or blocks k 0 ≡ block))
    → IfNone o (is_among_blocks blocks block ≡ false) → is_some o ≡ is_among_blocks blocks block
found_among blocks block None found none = sym none
found_among blocks block (Some k) found none = sym (is_among-at blocks block k found.0 found.1)

-- with one more after them that one is among them, and so are those that were
pub is_among-push : (blocks : List ℕ) (b block : ℕ) → is_among_blocks (blocks ++ b ∷ []) block ≡ (is_among_blocks blocks block || (b == block))
is_among-push [] b block = or_none (b == block)
  where
    or_none : (t : Bool) → (t || false) ≡ (false || t)
    or_none true = refl
    or_none false = refl
is_among-push (c ∷ blocks) b block = ap (λ (t : Bool). (c == block) || t) (is_among-push blocks b block) ∙ or_assoc (c == block) (is_among_blocks blocks block) (b == block)
  where
    or_assoc : (s t u : Bool) → (s || (t || u)) ≡ ((s || t) || u)
    or_assoc true t u = refl
    or_assoc false t u = refl

-- a table has the place of each of these blocks
abbrev pub ArePlaced : List ℕ → List ℕ → Type 0
ArePlaced places blocks = (k : ℕ) → k < length blocks → get_or places (get_or blocks k 0) 0 ≡ k

-- a block that doesn't stand at the place that the table has for it isn't among them
pub is_among-none : (places blocks : List ℕ) (block place : ℕ) → ArePlaced places blocks → place ≡ get_or places block 0
    → (place < length blocks → get_or blocks place 0 ≡ block → ⊥) → is_among_blocks blocks block ≡ false
is_among-none places blocks block place placed is apart = false_from_ne_true (is_among_blocks blocks block) (λ among.
    let w = place_among blocks block among in
    let e : w.0 ≡ place = sym (placed w.0 w.1) ∙ (ap (λ (b : ℕ). get_or places b 0) w.2 ∙ sym is) in
    apart (subst (λ (n : ℕ). n < length blocks) e w.1) (subst (λ (n : ℕ). get_or blocks n 0 ≡ block) e w.2))

-- with one more after them the table has the places of all
pub placed-push : (places blocks : List ℕ) (block n : ℕ) → ArePlaced places blocks → is_among_blocks blocks block ≡ false → block < length places → n ≡ length blocks
    → ArePlaced (set places block n) (blocks ++ block ∷ [])
placed-push places blocks block n placed new inside here k lt = ⊎_elim
    (λ old.
    let stays : get_or (blocks ++ block ∷ []) k 0 ≡ get_or blocks k 0 = get_or_append_left blocks (block ∷ []) 0 k old in
    let apart : get_or blocks k 0 ≢ block = λ e. true≢false (sym (is_among-at blocks block k old e) ∙ new) in
    ap (λ (b : ℕ). get_or (set places block n) b 0) stays ∙ (get_or-set_other places block (get_or blocks k 0) n 0 apart ∙ placed k old))
    (λ last.
    let e : length blocks ≡ k = omega (arith, length-append blocks (block ∷ []), lt) in
    ap (λ (b : ℕ). get_or (set places block n) b 0) (get_or_push blocks block 0 k e) ∙ (get_or-set_same places block n 0 inside ∙ (here ∙ e)))
    (cases_lt k (length blocks))

-- and each is in the table
pub inside-push : (blocks : List ℕ) (block size : ℕ) → ((k : ℕ) → k < length blocks → get_or blocks k 0 < size) → block < size → (k : ℕ)
    → k < length (blocks ++ block ∷ []) → get_or (blocks ++ block ∷ []) k 0 < size
inside-push blocks block size inside below k lt = ⊎_elim
    (λ old. subst (λ (b : ℕ). b < size) (sym (get_or_append_left blocks (block ∷ []) 0 k old)) (inside k old))
    (λ last. subst (λ (b : ℕ). b < size) (sym (get_or_push blocks block 0 k (omega (arith, length-append blocks (block ∷ []), lt)))) below)
    (cases_lt k (length blocks))

-- if a table has each of them at its own place, they are distinct
distinct_placed : (places blocks : List ℕ) (from : ℕ) → ((k : ℕ) → k < length blocks → get_or places (get_or blocks k 0) 0 ≡ from + k) → EachStandsOnce blocks
distinct_placed places [] from placed = tt
distinct_placed places (b ∷ blocks) from placed = (
  false_from_ne_true (is_among_blocks blocks b) (λ among.
      let w = place_among blocks b among in
      absurd (omega (arith, placed 0 (omega arith), placed (suc w.0) (omega (arith, w.1)), ap (λ (n : ℕ). get_or places n 0) w.2))),
  distinct_placed places blocks (suc from) (λ k lt. omega (arith, placed (suc k) (omega arith))),
)

-- so those that a table has the places of are
pub distinct : (places blocks : List ℕ) → ArePlaced places blocks → EachStandsOnce blocks
distinct places blocks placed = distinct_placed places blocks 0 (λ k lt. omega (arith, placed k lt))

-- with a new one after them they are distinct
pub distinct-push : (blocks : List ℕ) (block : ℕ) → EachStandsOnce blocks → is_among_blocks blocks block ≡ false → EachStandsOnce (blocks ++ block ∷ [])
distinct-push [] block distinct new = (refl, tt)
distinct-push (b ∷ blocks) block distinct new =
    let parts = or_parts (b == block) (is_among_blocks blocks block) new in
    let apart : (block == b) ≡ false = ne_eqb block b (λ e. eqb-false b block parts.0 (sym e)) in
    (is_among-push blocks block b ∙ or_from (is_among_blocks blocks b) (block == b) distinct.0 apart, distinct-push blocks block distinct.1 parts.1)

-- a block that is among them changes nothing
pub with_block-old : (blocks : List ℕ) (block : ℕ) → is_among_blocks blocks block ≡ true → with_block blocks block ≡ blocks
with_block-old blocks block old = ap (λ (t : Bool). cond t blocks (blocks ++ block ∷ [])) old

-- another one stands after them
pub with_block-new : (blocks : List ℕ) (block : ℕ) → is_among_blocks blocks block ≡ false → with_block blocks block ≡ blocks ++ block ∷ []
with_block-new blocks block new = ap (λ (t : Bool). cond t blocks (blocks ++ block ∷ [])) new

-- either way they stay distinct
pub distinct-with_block : (blocks : List ℕ) (block : ℕ) → EachStandsOnce blocks → EachStandsOnce (with_block blocks block)
distinct-with_block blocks block distinct = ⊎_elim
    (λ old. subst EachStandsOnce (sym (with_block-old blocks block old)) distinct)
    (λ new. subst EachStandsOnce (sym (with_block-new blocks block new)) (distinct-push blocks block distinct new))
    (cases_Bool (is_among_blocks blocks block))

-- the step of the next lemma but one, in tests: a, whether the block of an image is among those that wait; e,
-- whether it is the block that waits too now; n and m, whether these two are among the blocks of the later
-- images
one_less : (a e n m : Bool) (before after : ℕ) → before ≡ after + cond m 1 0 → (e ≡ true → (a ≡ false) × (n ≡ m))
    → cond (a || n) before (suc before) ≡ cond ((a || e) || n) after (suc after) + cond (e || m) 1 0
one_less true false n m before after is same = is
one_less false false true m before after is same = is
one_less false false false m before after is same = omega arith
one_less true true n m before after is same = absurd (true≢false (same refl).0)
one_less false true true true before after is same = is
one_less false true false false before after is same = omega arith
one_less false true true false before after is same = absurd (true≢false (same refl).1)
one_less false true false true before after is same = absurd (false≢true (same refl).1)

-- the test of two numbers is the same both ways
eqb_comm : (a b : ℕ) → (a == b) ≡ (b == a)
eqb_comm a b = ⊎_elim
    (λ yes. yes ∙ sym (eq-eqb b a (sym (eqb-true a b yes))))
    (λ no. no ∙ sym (ne_eqb b a (λ e. eqb-false a b no (sym e))))
    (cases_Bool (a == b))

-- a block that waits too takes one from those that are new, if an image is of it
new_count-push : (blocks : List ℕ) (block : ℕ) (ps : List Page) → is_among_blocks blocks block ≡ false
    → new_count blocks ps ≡ new_count (blocks ++ block ∷ []) ps + cond (is_among_blocks (image_blocks ps) block) 1 0
new_count-push blocks block [] new = refl
new_count-push blocks block (p ∷ ps) new =
    let less = one_less (is_among_blocks blocks p.block) (block == p.block) (is_among_blocks (image_blocks ps) p.block)
    (is_among_blocks (image_blocks ps) block) _ _ (new_count-push blocks block ps new)
    (λ same. let e : block ≡ p.block = eqb-true block p.block same in (ap (is_among_blocks blocks) (sym e) ∙ new, ap (is_among_blocks (image_blocks ps)) (sym e))) in
    less ∙ (ap (λ (t : Bool).
    cond (t || is_among_blocks (image_blocks ps) p.block) (new_count (blocks ++ block ∷ []) ps) (suc (new_count (blocks ++ block ∷ []) ps)) + cond
    ((block == p.block) || is_among_blocks (image_blocks ps) block) 1 0) (sym (is_among-push blocks block p.block))
    ∙ ap (λ (t : Bool). cond (is_among_blocks (blocks ++ block ∷ []) p.block || is_among_blocks (image_blocks ps) p.block)
    (new_count (blocks ++ block ∷ []) ps) (suc (new_count (blocks ++ block ∷ []) ps)) + cond (t || is_among_blocks (image_blocks ps) block) 1 0) (eqb_comm block p.block))

-- an image of a block that is among them counts for nothing
new_count-old : (blocks : List ℕ) (p : Page) (ps : List Page) → is_among_blocks blocks p.block ≡ true → new_count blocks (p ∷ ps) ≡ new_count blocks ps
new_count-old blocks p ps old = ap (λ (t : Bool). cond (t || is_among_blocks (image_blocks ps) p.block) (new_count blocks ps) (suc (new_count blocks ps))) old

-- and one of another block counts for one, once its block is among them too
new_count-new : (blocks : List ℕ) (p : Page) (ps : List Page) → is_among_blocks blocks p.block ≡ false → new_count blocks (p ∷ ps) ≡ suc (new_count (blocks ++ p.block ∷ []) ps)
new_count-new blocks p ps new =
    ap (λ (t : Bool). cond (t || is_among_blocks (image_blocks ps) p.block) (new_count blocks ps) (suc (new_count blocks ps))) new
    ∙ once (is_among_blocks (image_blocks ps) p.block) (new_count-push blocks p.block ps new)
  where
    once : (t : Bool) → new_count blocks ps ≡ new_count (blocks ++ p.block ∷ []) ps + cond t 1 0
        → cond t (new_count blocks ps) (suc (new_count blocks ps)) ≡ suc (new_count (blocks ++ p.block ∷ []) ps)
    once true e = omega arith
    once false e = omega arith

-- then the blocks are more by the new ones of these pages
pub length-with_blocks : (blocks : List ℕ) (ps : List Page) → length (with_blocks blocks ps) ≡ length blocks + new_count blocks ps
length-with_blocks blocks [] = omega arith
length-with_blocks blocks (p ∷ ps) = ⊎_elim
    (λ old. ap (λ (l : List ℕ). length (with_blocks l ps)) (with_block-old blocks p.block old)
    ∙ (length-with_blocks blocks ps ∙ ap (λ (n : ℕ). length blocks + n) (sym (new_count-old blocks p ps old))))
    (λ new. ap (λ (l : List ℕ). length (with_blocks l ps)) (with_block-new blocks p.block new)
    ∙ omega (arith, length-with_blocks (blocks ++ p.block ∷ []) ps, length-append blocks (p.block ∷ []), new_count-new blocks p ps new))
    (cases_Bool (is_among_blocks blocks p.block))

-- the block of the first image is among them then
pub with_blocks-first : (blocks : List ℕ) (ps : List Page) (p : Page) → 0 < length ps → p ≡ get_or ps 0 p → length (with_block blocks p.block) ≤ length (with_blocks blocks ps)
with_blocks-first blocks [] p some is = absurd (omega arith)
with_blocks-first blocks (q ∷ ps) p some is = omega (arith, length-with_blocks (with_block blocks q.block) ps, ap (λ (r : Page). length (with_block blocks r.block)) is)

-- they are no more than the images
pub new_count-most : (blocks : List ℕ) (ps : List Page) → new_count blocks ps ≤ length ps
new_count-most blocks [] = omega arith
new_count-most blocks (p ∷ ps) = one_more (is_among_blocks blocks p.block || is_among_blocks (image_blocks ps) p.block) (new_count blocks ps) (length ps) (new_count-most blocks ps)
  where
    one_more : (t : Bool) (n most : ℕ) → n ≤ most → cond t n (suc n) ≤ suc most
    one_more true n most le = omega arith
    one_more false n most le = omega arith

-- images of an index have blocks below its number of pages
pub images_inside : (format : Format) (ps : List Page) → AreImages format ps → AreInside format.pages ps
images_inside format [] are = tt
images_inside format (p ∷ ps) are = (are.0.within.block, images_inside format ps are.1)
