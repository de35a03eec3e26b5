-- What is written and forced while all pages are read.
use Rattle.std.proofs.Common.{◌≡◌, ℕ, zero, suc, ◌<◌, ◌≤◌, true, false, List, [], ◌∷◌, ◌++◌, length, inl, inr, refl, sym, ap, ◌∙◌, arith, append_assoc}
use Rattle.std.proofs.lemmas.List.Elements.{All-cons}
use Rattle.amcheck.proofs.Imports.{All, cases_lt, append-nil, Memory, is_block_among, FrameCosts, TakesFrames, Backing, blocks_below, without_first, IsRestBut, cases_Bool}

-- the blocks below a number are the first of those below a greater one
pub below_split : (n k : ℕ) → k ≤ n → (rest : List ℕ) × (blocks_below n ≡ blocks_below k ++ rest)
below_split zero zero le = ([], refl)
below_split zero (suc k) le = absurd (omega (arith, le))
below_split (suc n) k le = elim (cases_lt n k) [
  | inl lt ↦ (let same : k ≡ suc n = omega (arith, le, lt) in ([], ap blocks_below (sym same) ∙ sym (append-nil (blocks_below k))))
  | inr ge ↦ (let early = below_split n k ge in (early.0 ++ n ∷ [], ap (λ (l : List ℕ). l ++ n ∷ []) early.1 ∙ append_assoc (blocks_below k) early.0 (n ∷ [])))
]

-- ... and that one
pub below_next : (n k : ℕ) → k < n → (rest : List ℕ) × (blocks_below n ≡ (blocks_below k ++ k ∷ []) ++ rest)
below_next n k lt = below_split n (suc k) (omega (arith, lt))

-- what is kept of one block more
without_kept : (pinned : List ℕ) (k x : ℕ) (xs : List ℕ) → is_block_among pinned x ≡ true → without_first pinned (suc k) (x ∷ xs) ≡ x ∷ without_first pinned k xs
without_kept pinned k x xs among = rw among refl

without_gone : (pinned : List ℕ) (k x : ℕ) (xs : List ℕ) → is_block_among pinned x ≡ false → without_first pinned (suc k) (x ∷ xs) ≡ without_first pinned k xs
without_gone pinned k x xs not = rw not refl

-- some first ones, and then some first ones of the rest, are some first ones
abbrev Twice : List ℕ → List ℕ → ℕ → ℕ → Type 0
Twice pinned xs k j = (count : ℕ) × (without_first pinned j (without_first pinned k xs) ≡ without_first pinned count xs)

twice_kept : (pinned xs : List ℕ) (k x : ℕ) → is_block_among pinned x ≡ true → ((j : ℕ) → Twice pinned xs k j) → (j : ℕ) → Twice pinned (x ∷ xs) (suc k) j
twice_kept pinned xs k x among early zero = (suc k, refl)
twice_kept pinned xs k x among early (suc j) = (
  suc (early j).0,
  ap (without_first pinned (suc j)) (without_kept pinned k x xs among)
      ∙ (without_kept pinned j x (without_first pinned k xs) among
      ∙ (ap (λ (l : List ℕ). x ∷ l) (early j).1 ∙ sym (without_kept pinned (early j).0 x xs among))),
)

rest_twice : (pinned xs : List ℕ) (k j : ℕ) → Twice pinned xs k j
rest_twice pinned xs zero j = (j, refl)
rest_twice pinned [] (suc k) zero = (0, refl)
rest_twice pinned [] (suc k) (suc j) = (0, refl)
rest_twice pinned (x ∷ xs) (suc k) j = elim (cases_Bool (is_block_among pinned x)) [
  | inl among ↦ twice_kept pinned xs k x among (λ (i : ℕ). rest_twice pinned xs k i) j
  | inr not ↦
      let early = rest_twice pinned xs k j in
      (suc early.0, ap (without_first pinned j) (without_gone pinned k x xs not) ∙ (early.1 ∙ sym (without_gone pinned early.0 x xs not)))
]

-- after pinned ones, one that isn't and some more
all_tail : (P : ℕ → Type 0) (x : ℕ) (xs : List ℕ) → All P (x ∷ xs) → All P xs
all_tail P x xs all = λ k d less. all (suc k) d (omega (arith, less))

without_pinned : (pinned more rest : List ℕ) → All (λ b. is_block_among pinned b ≡ false) more → without_first pinned (length more) (more ++ rest) ≡ rest
without_pinned pinned [] rest all = refl
without_pinned pinned (x ∷ more) rest all =
    without_gone pinned (length more) x (more ++ rest) (all 0 0 (omega arith)) ∙ without_pinned pinned more rest (all_tail (λ b. is_block_among pinned b ≡ false) x more all)

gone_after : (pinned front more rest : List ℕ) → All (λ b. is_block_among pinned b ≡ true) front → All (λ b. is_block_among pinned b ≡ false) more
    → (count : ℕ) × (without_first pinned count (front ++ (more ++ rest)) ≡ front ++ rest)
gone_after pinned [] more rest front_all all = (length more, without_pinned pinned more rest all)
gone_after pinned (x ∷ front) more rest front_all all =
    let early = gone_after pinned front more rest (all_tail (λ b. is_block_among pinned b ≡ true) x front front_all) all in
    (suc early.0, without_kept pinned early.0 x (front ++ (more ++ rest)) (front_all 0 0 (omega arith)) ∙ ap (λ (l : List ℕ). x ∷ l) early.1)

rest_same : (pinned xs ys : List ℕ) → ys ≡ xs → IsRestBut pinned ys xs
rest_same pinned xs ys same = record { count = 0; is = same }

-- what one frame costs
rest_one : (frames : ℕ) (pinned : List ℕ) (m m' : Memory) (old new : Backing) → FrameCosts frames pinned m m' old new → IsRestBut pinned new.changed old.changed
rest_one frames pinned m m' old new (inl none) = rest_same pinned old.changed new.changed none.changed
rest_one frames pinned m m' old new (inr over) = elim over.left [
  | inl none ↦ rest_same pinned old.changed new.changed none
  | inr some ↦
      let gone : All (λ b. is_block_among pinned b ≡ false) (over.block ∷ some.more) =
      All-cons (λ b. is_block_among pinned b ≡ false) over.block some.more over.unpinned (λ k d less. (some.each k d less).0) in
      let after = gone_after pinned over.front (over.block ∷ some.more) some.rest over.passed gone in
      record {
        count = after.0;
        is = some.left ∙ (sym after.1 ∙ ap (without_first pinned after.0) (ap (λ (l : List ℕ). over.front ++ over.block ∷ l) (sym some.was) ∙ sym over.was));
      }
]

-- what all cost
pub rest_all : (frames : ℕ) (pinned blocks : List ℕ) (m m' : Memory) (old new : Backing) → TakesFrames frames pinned blocks m m' old new → IsRestBut pinned new.changed old.changed
rest_all frames pinned [] m m' old new same = rest_same pinned old.changed new.changed (ap (λ (b : Backing). b.changed) same.1)
rest_all frames pinned (block ∷ blocks) m m' old new takes =
    let first = rest_one frames pinned m takes.0 old takes.1 takes.2.cost in
    let others = rest_all frames pinned blocks takes.0 m' takes.1 new takes.3 in
    let both = rest_twice pinned old.changed first.count others.count in
    record { count = both.0; is = others.is ∙ (ap (without_first pinned others.count) first.is ∙ both.1) }
