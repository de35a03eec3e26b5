-- The first place at which a search in pieces stopped.
use Rattle.std.proofs.Common.{◌≡◌, ◌↔◌, ℕ, zero, suc, ◌+◌, ◌-◌, ◌<◌, ◌≤◌, ◌^◌, inl, inr, Bool, true, false, List, [], ◌∷◌, Option, Some, None, IsTrue, min, refl, sym, subst, arith}
use Rattle.std.specs.Option.{option_map}
use Rattle.amcheck.proofs.Imports.{AllZip, range_with_len, cases_lt, first_true, IsFirstPlace}

-- of `n` places from this one on
abbrev IsFirstIn : (ℕ → Type 0) → ℕ → ℕ → Option ℕ → Type 0
IsFirstIn P a n None = (k : ℕ) → a ≤ k → k < a + n → P k → ⊥
IsFirstIn P a n (Some j) = (j < n) × P (a + j) × ((k : ℕ) → a ≤ k → k < a + j → P k → ⊥)

one_more : (P : ℕ → Type 0) (a n : ℕ) (o : Option ℕ) → suc n < 2 ^ 64 → (P a → ⊥) → IsFirstIn P (suc a) n o
    → IsFirstIn P a (suc n) (option_map (λ k. min (k + 1) (2 ^ 64 - 1)) o)
one_more P a n None few not rest = λ k low high p. elim (cases_lt a k) [
  | inl lt ↦ rest k (omega arith) (omega arith) p
  | inr ge ↦ let e : k ≡ a = omega arith in not (subst P e p)
]
one_more P a n (Some j) few not rest =
    let in_n = rest.0 in
    let small : min (j + 1) (2 ^ 64 - 1) ≡ suc j = omega arith in
    let moved : suc a + j ≡ a + suc j = omega arith in
    subst (λ (i : ℕ). IsFirstIn P a (suc n) (Some i)) (sym small) (
      omega arith,
      subst P moved rest.1,
      λ k low high p. elim (cases_lt a k) [
        | inl lt ↦ rest.2 k (omega arith) (omega arith) p
        | inr ge ↦ let e : k ≡ a = omega arith in not (subst P e p)
      ],
    )

pub first_in : (P : ℕ → Type 0) (a n : ℕ) (bs : List Bool) → n < 2 ^ 64 → AllZip (λ k b. IsTrue b ↔ P k) (range_with_len a n) bs → IsFirstIn P a n (first_true bs)
first_in P a zero [] few all = λ k low high p. absurd (omega arith)
first_in P a zero (b ∷ bs) few all = absurd all
first_in P a (suc n) [] few all = absurd all
first_in P a (suc n) (true ∷ bs) few all =
    let e : a ≡ a + 0 = omega arith in
    (omega arith, subst P e (all.0.0 refl), λ k low high p. absurd (omega arith))
first_in P a (suc n) (false ∷ bs) few all =
    let e : a + 1 ≡ suc a = omega arith in
    one_more P a n (first_true bs) few (λ p. let k : false ≡ true = all.0.1 p in cc)
    (first_in P (suc a) n bs (omega arith) (subst (λ (b : ℕ). AllZip (λ k t. IsTrue t ↔ P k) (range_with_len b n) bs) e all.1))

-- ... and beyond the end there is none
pub first_place : (P : ℕ → Type 0) (n : ℕ) (o : Option ℕ) → ((k : ℕ) → P k → k < n) → IsFirstIn P 0 n o → IsFirstPlace P o
first_place P n None inside first = λ k p. first k (omega arith) (let lt = inside k p in omega arith) p
first_place P n (Some j) inside first =
    let e : 0 + j ≡ j = omega arith in
    (subst P e first.1, λ k lt p. first.2 k (omega arith) (omega arith) p)
