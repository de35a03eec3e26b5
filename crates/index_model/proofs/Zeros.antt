-- Keys are ordered as their cells, and else as their lengths.
use Rattle.std.proofs.Common.{◌≡◌, ℕ, zero, suc, ◌-◌, ◌≤◌, ◌<◌, List, [], ◌∷◌, ◌++◌, length, replicate, refl, sym, ap, ◌∙◌, arith}
use Rattle.index_model.proofs.Imports.{nat_cmp_is, ranks, slice_cmp, nat_cmp, ordering_then, MatchOrdering, nat_list_cmp_total, tied_itself, Ordering, Less, Equal, Greater}

-- the list, and zeros after it up to n
abbrev ending : ℕ → List ℕ → List ℕ
ending n [] = replicate n 0
ending zero (x ∷ xs) = x ∷ xs
ending (suc n) (x ∷ xs) = x ∷ ending n xs

is_ending : (n : ℕ) (xs : List ℕ) → length xs ≤ n → ending n xs ≡ xs ++ replicate (n - length xs) 0
is_ending n [] le = let all : n ≡ n - 0 = omega arith in ap (λ (k : ℕ). replicate k 0) all
is_ending zero (x ∷ xs) le = absurd (omega arith)
is_ending (suc n) (x ∷ xs) le =
    let less : n - length xs ≡ suc n - suc (length xs) = omega arith in
    ap (λ (zs : List ℕ). x ∷ zs) (is_ending n xs (omega arith) ∙ ap (λ (k : ℕ). xs ++ replicate k 0) less)

-- zeros stand at or before every list
zeros_before : (n : ℕ) (ys : List ℕ) → length ys ≤ n → ordering_then (slice_cmp nat_cmp (replicate n 0) (ending n ys)) Less ≡ Less
zeros_before n [] le = ap (λ (o : Ordering). ordering_then o Less) (tied_itself nat_list_cmp_total (replicate n 0))
zeros_before zero (y ∷ ys) le = absurd (omega arith)
zeros_before (suc n) (y ∷ ys) le = by (zeros_before n ys (omega arith)) (nat_cmp 0 y) (ranks 0 y)
  where
    by : ordering_then (slice_cmp nat_cmp (replicate n 0) (ending n ys)) Less ≡ Less
        → (o : Ordering) → MatchOrdering o (0 < y) (0 ≡ y) (y < 0)
        → ordering_then (ordering_then o (slice_cmp nat_cmp (replicate n 0) (ending n ys))) Less ≡ Less
    by rest Less l = refl
    by rest Equal l = rest
    by rest Greater l = let t : y < 0 = l in absurd (omega arith)

zeros_after : (n : ℕ) (xs : List ℕ) → length xs ≤ n → ordering_then (slice_cmp nat_cmp (ending n xs) (replicate n 0)) Greater ≡ Greater
zeros_after n [] le = ap (λ (o : Ordering). ordering_then o Greater) (tied_itself nat_list_cmp_total (replicate n 0))
zeros_after zero (x ∷ xs) le = absurd (omega arith)
zeros_after (suc n) (x ∷ xs) le = by (zeros_after n xs (omega arith)) (nat_cmp x 0) (ranks x 0)
  where
    by : ordering_then (slice_cmp nat_cmp (ending n xs) (replicate n 0)) Greater ≡ Greater
        → (o : Ordering) → MatchOrdering o (x < 0) (x ≡ 0) (0 < x)
        → ordering_then (ordering_then o (slice_cmp nat_cmp (ending n xs) (replicate n 0))) Greater ≡ Greater
    by rest Less l = let t : x < 0 = l in absurd (omega arith)
    by rest Equal l = rest
    by rest Greater l = refl

none_before : (n : ℕ) → nat_cmp 0 (suc n) ≡ Less
none_before n = sym (nat_cmp_is 0 (suc n) Less (omega arith))

some_after : (n : ℕ) → nat_cmp (suc n) 0 ≡ Greater
some_after n = sym (nat_cmp_is (suc n) 0 Greater (omega arith))

one_more : (a b : ℕ) → nat_cmp a b ≡ nat_cmp (suc a) (suc b)
one_more a b = nat_cmp_is (suc a) (suc b) (nat_cmp a b) (by (nat_cmp a b) (ranks a b))
  where
    by : (o : Ordering) → MatchOrdering o (a < b) (a ≡ b) (b < a) → MatchOrdering o (suc a < suc b) (suc a ≡ suc b) (suc b < suc a)
    by Less l = let t : a < b = l in omega arith
    by Equal l = ap suc l
    by Greater l = let t : b < a = l in omega arith

by_ending : (n : ℕ) (xs ys : List ℕ) → length xs ≤ n → length ys ≤ n
    → slice_cmp nat_cmp xs ys ≡ ordering_then (slice_cmp nat_cmp (ending n xs) (ending n ys)) (nat_cmp (length xs) (length ys))
by_ending n [] [] p q = ap (λ (o : Ordering). ordering_then o (nat_cmp 0 0)) (sym (tied_itself nat_list_cmp_total (replicate n 0)))
by_ending n [] (y ∷ ys) p q =
    sym (ap (λ (o : Ordering). ordering_then (slice_cmp nat_cmp (replicate n 0) (ending n (y ∷ ys))) o) (none_before (length ys)) ∙ zeros_before n (y ∷ ys) q)
by_ending n (x ∷ xs) [] p q =
    sym (ap (λ (o : Ordering). ordering_then (slice_cmp nat_cmp (ending n (x ∷ xs)) (replicate n 0)) o) (some_after (length xs)) ∙ zeros_after n (x ∷ xs) p)
by_ending zero (x ∷ xs) (y ∷ ys) p q = absurd (omega arith)
by_ending (suc n) (x ∷ xs) (y ∷ ys) p q =
    ap (λ (o : Ordering). ordering_then (nat_cmp x y) o) (by_ending n xs ys (omega arith) (omega arith)
    ∙ ap (λ (o : Ordering). ordering_then (slice_cmp nat_cmp (ending n xs) (ending n ys)) o) (one_more (length xs) (length ys)))
    ∙ regroup (nat_cmp x y) _ _
  where
    regroup : (r s t : Ordering) → ordering_then r (ordering_then s t) ≡ ordering_then (ordering_then r s) t
    regroup Less s t = refl
    regroup Equal s t = refl
    regroup Greater s t = refl

-- two lists with zeros after them decide, and else their lengths do
pub with_zeros : (n : ℕ) (xs ys : List ℕ) → length xs ≤ n → length ys ≤ n
    → slice_cmp nat_cmp xs ys ≡ ordering_then (slice_cmp nat_cmp (xs ++ replicate (n - length xs) 0) (ys ++ replicate (n - length ys) 0)) (nat_cmp (length xs) (length ys))
with_zeros n xs ys p q =
    by_ending n xs ys p q ∙ (λ i. ordering_then (slice_cmp nat_cmp (is_ending n xs p i) (is_ending n ys q i)) (nat_cmp (length xs) (length ys)))
