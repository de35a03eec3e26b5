-- How many pages are deleted after a step of a cleanup.
use Rattle.std.proofs.Common.{◌≡◌, ◌≢◌, ℕ, zero, suc, ◌+◌, ◌<◌, inl, inr, Bool, true, false, if◌then◌else◌, Option, Some, None, List, length, slice_get, refl, sym, ap, ◌∙◌, arith}
use Rattle.page_action.specs.Reuse.{is_deleted_state, is_deleted_page, is_deleted}
use Rattle.page_delete.proofs.Imports.{cases_eq, Page, Live, HalfDead, State, node_from, nodes_of, deleted_count, deleted_in, LeafDies, PageIsDeleted, slice_get_within}

-- the state of a page tells whether it is deleted
told_by_state : (pages : List Page) (b : ℕ) → is_deleted pages b ≡ is_deleted_state (nodes_of pages b).state
told_by_state pages b = by (slice_get pages b)
  where
    by : (o : Option Page) → is_deleted_page o ≡ is_deleted_state (node_from o).state
    by None = refl
    by (Some page) = refl

-- if the same of the first blocks are deleted
same_below : (old new : State) (n : ℕ) → ((b : ℕ) → b < n → is_deleted new.pages b ≡ is_deleted old.pages b) → deleted_count new n ≡ deleted_count old n
same_below old new zero same = refl
same_below old new (suc n) same =
    ap (λ (d : Bool). (if d then 1 else 0) + deleted_count new n) (same n (omega arith))
    ∙ ap (λ (k : ℕ). (if is_deleted old.pages n then 1 else 0) + k) (same_below old new n (λ b lt. same b (omega (arith, lt))))

-- the last of these blocks is the one that is deleted now, or isn't
here_more : (a b : Bool) (x y : ℕ) → a ≡ true → b ≡ false → x ≡ y → (if a then 1 else 0) + x ≡ suc ((if b then 1 else 0) + y)
here_more true true x y p q r = absurd (let k : true ≡ false = q in cc)
here_more true false x y p q r = omega (arith, r)
here_more false b x y p q r = absurd (let k : false ≡ true = p in cc)

there_more : (a : Bool) (x y : ℕ) → x ≡ suc y → (if a then 1 else 0) + x ≡ suc ((if a then 1 else 0) + y)
there_more true x y r = omega (arith, r)
there_more false x y r = omega (arith, r)

-- one more is deleted
one_more : (old new : State) (block n : ℕ) → block < n → is_deleted old.pages block ≡ false → is_deleted new.pages block ≡ true
    → ((b : ℕ) → b ≢ block → is_deleted new.pages b ≡ is_deleted old.pages b)
    → deleted_count new n ≡ suc (deleted_count old n)
one_more old new block zero lt was is others = absurd (omega (arith, lt))
one_more old new block (suc n) lt was is others = elim (cases_eq n block) [
  | inl same ↦ here_more (is_deleted new.pages n) (is_deleted old.pages n) (deleted_count new n) (deleted_count old n) (ap (is_deleted new.pages) same ∙ is) (ap (is_deleted old.pages) same ∙ was)
      (same_below old new n (λ b below. others b (λ e. (let k : b ≡ block = e in omega (arith, below, k, same)))))
  | inr differ ↦ (
      let one = one_more old new block n (omega (arith, lt, differ)) was is others in
      ap (λ (d : Bool). (if d then 1 else 0) + deleted_count new n) (others n differ) ∙ there_more (is_deleted old.pages n) (deleted_count new n) (deleted_count old n) one)
]

-- a half-dead page is one in use
dead_inside : (pages : List Page) (b : ℕ) → (nodes_of pages b).state ≡ HalfDead → b < length pages
dead_inside pages b dead = by (slice_get pages b) refl
  where
    clash : Live ≡ HalfDead → ⊥
    clash e = cc

    by : (o : Option Page) → slice_get pages b ≡ o → b < length pages
    by None is = absurd (clash (sym (ap (λ (o : Option Page). (node_from o).state) is) ∙ dead))
    by (Some page) is = slice_get_within pages b page is

-- how many pages are deleted is of the pages alone
pub deleted_alike : (old new : State) → new.pages ≡ old.pages → deleted_in new ≡ deleted_in old
deleted_alike old new same =
    ap (λ (ps : List Page). deleted_count new (length ps)) same ∙ same_below old new (length old.pages) (λ b lt. ap (λ (ps : List Page). is_deleted ps b) same)

-- a leaf that becomes half-dead isn't deleted
pub none_deleted : (old new : State) (block : ℕ) → length new.pages ≡ length old.pages → LeafDies block old new → deleted_in new ≡ deleted_in old
none_deleted old new block used moves =
    ap (λ (n : ℕ). deleted_count new n) used ∙ same_below old new (length old.pages) (λ b lt. elim (cases_eq b block) [
      | inl same ↦ ap (is_deleted new.pages) same ∙ told_by_state new.pages block ∙ ap is_deleted_state moves.after
          ∙ sym (ap (is_deleted old.pages) same ∙ told_by_state old.pages block ∙ ap is_deleted_state moves.before)
      | inr differ ↦ told_by_state new.pages b ∙ ap is_deleted_state (moves.others b differ) ∙ sym (told_by_state old.pages b)
    ])

-- a half-dead page that is deleted is one more
pub one_deleted : (old new : State) (block : ℕ) → length new.pages ≡ length old.pages → PageIsDeleted block old new → deleted_in new ≡ suc (deleted_in old)
one_deleted old new block used moves =
    ap (λ (n : ℕ). deleted_count new n) used
    ∙ one_more old new block (length old.pages) (dead_inside old.pages block moves.before)
    (told_by_state old.pages block ∙ ap is_deleted_state moves.before) (told_by_state new.pages block ∙ ap is_deleted_state moves.after)
    (λ b differ. told_by_state new.pages b ∙ ap is_deleted_state (moves.others b differ) ∙ sym (told_by_state old.pages b))
