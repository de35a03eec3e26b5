-- Different numbers below a bound are no more than it.
use Rattle.std.proofs.Common.{◌≡◌, ◌≢◌, ◌⊎◌, ℕ, zero, suc, ◌<◌, ◌≤◌, inl, inr, List, [], ◌∷◌, ◌++◌, length, length-append, refl, sym, ap, subst, ◌∙◌, arith}
use Rattle.tree_shape.proofs.Imports.{cases_eq, IsIn, AreDistinct}
use Rattle.tree_shape.proofs.Runs.{split_at}
use Rattle.tree_shape.proofs.Members.{in_append_left, in_append_right, in_append_cases, not_in_apart, not_in_from}

-- what is left without one of different numbers: different ones, and not that
without : (n : ℕ) (front back : List ℕ) → AreDistinct (front ++ n ∷ back) → AreDistinct (front ++ back) × ((c : ℕ) → IsIn c (front ++ back) → c ≢ n)
without n [] back d = (d.1, λ c i same. not_in_apart n c back d.0 i (sym same))
without n (x ∷ xs) back d =
    let r = without n xs back d.1 in (
      (not_in_from x (xs ++ back) (λ c i. not_in_apart x c (xs ++ n ∷ back) d.0 (widen c i)), r.0),
      λ c i. elim i as (λ w. c ≢ n) [
        | inl same ↦ λ e. not_in_apart x n (xs ++ n ∷ back) d.0 (in_append_right n xs (n ∷ back) (inl refl)) (sym same ∙ e)
        | inr j ↦ r.1 c j
      ],
    )
  where
    widen : (c : ℕ) → IsIn c (xs ++ back) → IsIn c (xs ++ n ∷ back)
    widen c i = elim (in_append_cases c xs back i) [ inl l ↦ in_append_left c xs (n ∷ back) l | inr r ↦ in_append_right c xs (n ∷ back) (inr r) ]

-- a number is one of these, or none of them
pub is_in_or : (n : ℕ) (xs : List ℕ) → IsIn n xs ⊎ ((c : ℕ) → IsIn c xs → c ≢ n)
is_in_or n [] = inr (λ c i. absurd i)
is_in_or n (x ∷ xs) = elim (cases_eq n x) [
  | inl same ↦ inl (inl same)
  | inr not ↦ elim (is_in_or n xs) [
    | inl i ↦ inl (inr i)
    | inr none' ↦ inr (λ c i. elim i as (λ w. c ≢ n) [ inl e ↦ λ same. not (sym same ∙ e) | inr j ↦ none' c j ])
  ]
]

-- a list of different numbers below a bound is no longer than that
pub few_below : (n : ℕ) (xs : List ℕ) → AreDistinct xs → ((c : ℕ) → IsIn c xs → c < n) → length xs ≤ n
few_below zero [] d below = omega arith
few_below zero (x ∷ xs) d below = absurd (let lt = below x (inl refl) in omega arith)
few_below (suc n) xs d below = elim (is_in_or n xs) [
  | inl i ↦
      let w = split_at n xs i in
      let r = without n w.front w.back (subst AreDistinct w.is d) in
      let less = few_below n (w.front ++ w.back) r.0 (λ c j. tighter c (below c (subst (IsIn c) (sym w.is) (widen c w.front w.back j))) (r.1 c j)) in
      let size = ap length w.is in
      omega (arith, length-append w.front (n ∷ w.back), length-append w.front w.back)
  | inr none' ↦
      let less = few_below n xs d (λ c j. tighter c (below c j) (none' c j)) in
      omega arith
]
  where
    tighter : (c : ℕ) → c < suc n → c ≢ n → c < n
    tighter c lt ne = omega arith

    widen : (c : ℕ) (front back : List ℕ) → IsIn c (front ++ back) → IsIn c (front ++ n ∷ back)
    widen c front back i = elim (in_append_cases c front back i) [ inl l ↦ in_append_left c front (n ∷ back) l | inr r ↦ in_append_right c front (n ∷ back) (inr r) ]

-- different blocks in use are fewer than those in use, as block 0 is none of them
pub few_blocks : (used : ℕ) (xs : List ℕ) → 0 < used → AreDistinct xs → ((c : ℕ) → IsIn c xs → (0 < c) × (c < used)) → length xs < used
few_blocks used xs some d inside =
    let few = few_below used (0 ∷ xs) (not_in_from 0 xs (λ c i. let p = (inside c i).0 in λ (same : 0 ≡ c). absurd (omega arith)), d)
    (λ c i. elim i as (λ w. c < used) [ inl e ↦ omega arith | inr j ↦ (inside c j).1 ]) in
    omega arith
