-- What the law of a pool gives: changed pages in their order, frames, and pages that are clean.
use Rattle.std.proofs.Common.{◌≡◌, ◌≢◌, ◌⊎◌, inl, inr, ℕ, zero, suc, ◌<◌, Bool, true, false, Option, Some, None, List, [], ◌∷◌, take, slice_get, refl, sym, ap, ◌∙◌, arith}
use Rattle.buffer_pool.specs.Pools.{act_of, held_page, frame_of, page_at, changed_of, CanBeTaken, IsPool}
use Rattle.page_store.proofs.Imports.{cases_eq, cases_lt, eq-eqb, ne_eqb, lt-ltb, le-ltb, ◌==◌, ◌||◌, is_some, slice_get_within, get_or_from_slice_get, has_block, BlocksAreApart, Pool}

or_true : (b : Bool) → (b || true) ≡ true
or_true true = refl
or_true false = refl

-- the first is the block
pub first_has : (x b : ℕ) (xs : List ℕ) → x ≡ b → has_block (x ∷ xs) b ≡ true
first_has x b xs e = rw (eq-eqb x b e) refl

pub later_has : (x b : ℕ) (xs : List ℕ) → has_block xs b ≡ true → has_block (x ∷ xs) b ≡ true
later_has x b xs h = rw h (or_true (x == b))

-- what stands in a list is in it
pub has_at : (xs : List ℕ) (k b : ℕ) → slice_get xs k ≡ Some b → has_block xs b ≡ true
has_at [] k b e = absurd cc
has_at (x ∷ xs) zero b e = let is : x ≡ b = cc in first_has x b xs is
has_at (x ∷ xs) (suc k) b e = later_has x b xs (has_at xs k b e)

-- a block among the first `k` and one more: one of those, or that one
pub has_next : (xs : List ℕ) (k b : ℕ) → has_block (take (suc k) xs) b ≡ true
    → (has_block (take k xs) b ≡ true) ⊎ (slice_get xs k ≡ Some b)
has_next [] k b h = absurd cc
has_next (x ∷ xs) zero b h = elim (cases_eq x b) [
  | inl same ↦ inr (ap Some same)
  | inr ne ↦ (let never : has_block (x ∷ []) b ≡ false = rw (ne_eqb x b ne) refl in let both : true ≡ false = sym h ∙ never in absurd cc)
]
has_next (x ∷ xs) (suc k) b h = elim (cases_eq x b) [
  | inl same ↦ inl (first_has x b (take k xs) same)
  | inr ne ↦ elim (has_next xs k b (sym (rest ne) ∙ h)) [
    | inl among ↦ inl (later_has x b (take k xs) among)
    | inr at ↦ inr at
  ]
]
  where
    rest : x ≢ b → has_block (x ∷ take (suc k) xs) b ≡ has_block (take (suc k) xs) b
    rest ne = rw (ne_eqb x b ne) refl

-- a block among the first `k` stands at a place before
before : (xs : List ℕ) (k b : ℕ) → has_block (take k xs) b ≡ true → (j : ℕ) × (j < k) × (slice_get xs j ≡ Some b)
before xs zero b h = absurd cc
before xs (suc k) b h = elim (has_next xs k b h) [
  | inl early ↦ (let there = before xs k b early in (there.0, omega (arith, there.1), there.2))
  | inr last ↦ (k, omega arith, last)
]

-- if no block stands twice, the next isn't one of those before
pub next_apart : (xs : List ℕ) (k b : ℕ) → BlocksAreApart xs → slice_get xs k ≡ Some b → has_block (take k xs) b ≡ true → ⊥
next_apart xs k b apart at h =
    let there = before xs k b h in
    apart there.0 k b there.1 (slice_get_within xs k b at) (get_or_from_slice_get xs there.0 b b there.2 ∙ sym (get_or_from_slice_get xs k b b at))

-- a block among the first `k` is among all
pub has_all : (xs : List ℕ) (k b : ℕ) → has_block (take k xs) b ≡ true → has_block xs b ≡ true
has_all [] zero b h = h
has_all [] (suc k) b h = h
has_all (x ∷ xs) zero b h = absurd cc
has_all (x ∷ xs) (suc k) b h = elim (cases_eq x b) [
  | inl same ↦ first_has x b xs same
  | inr ne ↦ later_has x b xs (has_all xs k b (sym (rest ne) ∙ h))
]
  where
    rest : x ≢ b → has_block (x ∷ take k xs) b ≡ has_block (take k xs) b
    rest ne = rw (ne_eqb x b ne) refl

pub bool_cases : (b : Bool) → (b ≡ true) ⊎ (b ≡ false)
bool_cases true = inl refl
bool_cases false = inr refl

pub some_of : {A : Type 0} (o : Option A) → is_some o ≡ true → (x : A) × (o ≡ Some x)
some_of (Some x) h = (x, refl)
some_of None h = absurd cc

pub option_cases : {A : Type 0} (o : Option A) → (o ≡ None) ⊎ (is_some o ≡ true)
option_cases None = inl refl
option_cases (Some x) = inr refl

pub none_isn't : {A : Type 0} (o : Option A) → o ≡ None → is_some o ≡ true → ⊥
none_isn't o none some = (let both : true ≡ false = sym some ∙ ap is_some none in cc)

module _ (pool : Pool) (is : IsPool pool) where
  -- what is changed stands in the order, and the other way round
  pub changed_some : (b : ℕ) → has_block (changed_of pool) b ≡ true → 0 < act_of pool b
  changed_some b h = elim (cases_lt 0 (act_of pool b)) [
    | inl some ↦ some
    | inr none ↦ (let both : true ≡ false = sym h ∙ (is.changed b ∙ le-ltb 0 (act_of pool b) none) in absurd cc)
  ]

  pub unchanged : (b : ℕ) → has_block (changed_of pool) b ≡ false → act_of pool b ≡ 0
  unchanged b h = elim (cases_lt 0 (act_of pool b)) [
    | inl some ↦ (let both : true ≡ false = sym (is.changed b ∙ lt-ltb 0 (act_of pool b) some) ∙ h in absurd cc)
    | inr none ↦ omega arith
  ]

  pub changed_at : (k b : ℕ) → slice_get (changed_of pool) k ≡ Some b → 0 < act_of pool b
  changed_at k b at = changed_some b (has_at (changed_of pool) k b at)

  -- a block without a frame has no changed page
  pub clean_of_absent : (b : ℕ) → frame_of pool b ≡ None → act_of pool b ≡ 0
  clean_of_absent b none = elim (cases_lt 0 (act_of pool b)) [
    | inl some ↦ absurd (none_isn't (held_page pool b) (is.absent b none) (is.kept b some))
    | inr few ↦ omega arith
  ]

  -- a changed page has its frame alone
  pub same_block : (b k at : ℕ) → frame_of pool b ≡ Some at → frame_of pool k ≡ Some at → 0 < act_of pool k → k ≡ b
  same_block b k at frame e some =
      let there = some_of (held_page pool k) (is.kept k some) in
      let page = there.0 in
      let in_frame : page_at pool at ≡ Some page = sym (is.held k at e) ∙ there.1 in
      let at_b : held_page pool b ≡ Some page = is.held b at frame ∙ in_frame in
      sym (is.same k page there.1) ∙ is.same b page at_b

  -- the frame of a clean page can be taken
  pub can_be_taken : (b at : ℕ) → frame_of pool b ≡ Some at → act_of pool b ≡ 0 → CanBeTaken pool at
  can_be_taken b at frame clean = record {
    next = omega (arith, is.in_use b at frame);
    within = omega (arith, is.in_use b at frame, is.few);
    clean = λ k some e.
        let none : act_of pool k ≡ 0 = ap (act_of pool) (same_block b k at frame e some) ∙ clean in
        omega (arith, none, some);
  }
