-- Bytes are ordered as the numbers that they spell.
use Rattle.std.proofs.Common.{◌≡◌, ℕ, zero, suc, ◌+◌, ◌*◌, ◌≤◌, ◌<◌, List, [], ◌∷◌, length, take, drop, get_or, refl, sym, ap, ◌∙◌, subst, arith}
use Rattle.index_model.proofs.Imports.{nat_cmp_is, ranks, get_or-drop, drop-drop, length-drop, slice_cmp, nat_cmp, ordering_then, MatchOrdering, nat_cmp_total, tied_itself, Ordering, Less, Equal}
use Rattle.index_model.proofs.Imports.{Greater, spelled}

abbrev pub Bytes : List ℕ → Type 0
Bytes xs = (k : ℕ) → get_or xs k 0 < 256

pub bytes_after : (n : ℕ) (xs : List ℕ) → Bytes xs → Bytes (drop n xs)
bytes_after n xs h k = subst (λ (b : ℕ). b < 256) (sym (get_or-drop n xs k 0)) (h (n + k))

-- the greater number in front spells the greater number
rises : (n a b : ℕ) (us vs : List ℕ) → n ≤ length us → n ≤ length vs → Bytes us → a < b → spelled a (take n us) < spelled b (take n vs)
rises zero a b us vs p q h l = l
rises (suc n) a b [] vs p q h l = absurd (omega arith)
rises (suc n) a b (u ∷ us) [] p q h l = absurd (omega arith)
rises (suc n) a b (u ∷ us) (v ∷ vs) p q h l =
    let small : u < 256 = h 0 in
    rises n (a * 256 + u) (b * 256 + v) us vs (omega arith) (omega arith) (λ k. h (suc k)) (omega arith)

below : (x y : ℕ) → x < y → nat_cmp x y ≡ Less
below x y l = sym (nat_cmp_is x y Less l)

above : (x y : ℕ) → y < x → nat_cmp x y ≡ Greater
above x y l = sym (nat_cmp_is x y Greater l)

-- n bytes after one number are ordered as the numbers that they spell
pub as_spelled : (n a : ℕ) (us vs : List ℕ) → n ≤ length us → n ≤ length vs → Bytes us → Bytes vs
    → slice_cmp nat_cmp (take n us) (take n vs) ≡ nat_cmp (spelled a (take n us)) (spelled a (take n vs))
as_spelled zero a us vs p q g h = sym (tied_itself nat_cmp_total a)
as_spelled (suc n) a [] vs p q g h = absurd (omega arith)
as_spelled (suc n) a (u ∷ us) [] p q g h = absurd (omega arith)
as_spelled (suc n) a (u ∷ us) (v ∷ vs) p q g h =
    by (as_spelled n (a * 256 + u) us vs (omega arith) (omega arith) (λ k. g (suc k)) (λ k. h (suc k))) (nat_cmp u v) (ranks u v)
  where
    by : slice_cmp nat_cmp (take n us) (take n vs) ≡ nat_cmp (spelled (a * 256 + u) (take n us)) (spelled (a * 256 + u) (take n vs))
        → (r : Ordering) → MatchOrdering r (u < v) (u ≡ v) (v < u)
        → ordering_then r (slice_cmp nat_cmp (take n us) (take n vs)) ≡ nat_cmp (spelled (a * 256 + u) (take n us)) (spelled (a * 256 + v) (take n vs))
    by rest Less l = let t : u < v = l in sym (below _ _ (rises n (a * 256 + u) (a * 256 + v) us vs (omega arith) (omega arith) (λ k. g (suc k)) (omega arith)))
    by rest Greater l = let t : v < u = l in sym (above _ _ (rises n (a * 256 + v) (a * 256 + u) vs us (omega arith) (omega arith) (λ k. h (suc k)) (omega arith)))
    by rest Equal l =
        let t : u ≡ v = l in
        rest ∙ ap (λ (m : ℕ). nat_cmp (spelled (a * 256 + u) (take n us)) (spelled (a * 256 + m) (take n vs))) t

-- the first n decide, and else what is after them does
pub in_two : (n : ℕ) (xs ys : List ℕ) → n ≤ length xs → n ≤ length ys
    → slice_cmp nat_cmp xs ys ≡ ordering_then (slice_cmp nat_cmp (take n xs) (take n ys)) (slice_cmp nat_cmp (drop n xs) (drop n ys))
in_two zero xs ys p q = refl
in_two (suc n) [] ys p q = absurd (omega arith)
in_two (suc n) (x ∷ xs) [] p q = absurd (omega arith)
in_two (suc n) (x ∷ xs) (y ∷ ys) p q =
    ap (λ (o : Ordering). ordering_then (nat_cmp x y) o) (in_two n xs ys (omega arith) (omega arith)) ∙ regroup (nat_cmp x y) _ _
  where
    regroup : (r s t : Ordering) → ordering_then r (ordering_then s t) ≡ ordering_then (ordering_then r s) t
    regroup Less s t = refl
    regroup Equal s t = refl
    regroup Greater s t = refl

-- the next eight bytes decide, and else what is after them does
pub next_word : (n : ℕ) (xs ys : List ℕ) → n + 8 ≤ length xs → n + 8 ≤ length ys → Bytes xs → Bytes ys
    → slice_cmp nat_cmp (drop n xs) (drop n ys)
    ≡ ordering_then (nat_cmp (spelled 0 (take 8 (drop n xs))) (spelled 0 (take 8 (drop n ys)))) (slice_cmp nat_cmp (drop (n + 8) xs) (drop (n + 8) ys))
next_word n xs ys p q g h =
    let long : (zs : List ℕ) → n + 8 ≤ length zs → 8 ≤ length (drop n zs) = λ zs l. omega (arith, length-drop n zs) in
    in_two 8 (drop n xs) (drop n ys) (long xs p) (long ys q)
    ∙ (λ i. ordering_then
    (as_spelled 8 0 (drop n xs) (drop n ys) (long xs p) (long ys q) (bytes_after n xs g) (bytes_after n ys h) i)
    (slice_cmp nat_cmp (drop-drop 8 n xs i) (drop-drop 8 n ys i)))
