-- A walk along the right links of a level without damage: it ends, and what it came to is a chain.
use Rattle.std.proofs.Common.{◌≡◌, ℕ, zero, suc, ◌+◌, ◌<◌, ◌≤◌, inl, inr, Option, Some, None, List, [], ◌∷◌, length, refl, sym, ap, subst, ◌∙◌, arith}
use Rattle.damages.proofs.Imports.{cases_eq, Page, Node, nodes_of, LeftContext, past, first_context, first_or, IsPlaced, IsRunOf, IsIn, IsNotIn, AreDistinct, not_in_from, Index, index_of, or_block}
use Rattle.damages.proofs.Imports.{head, Place, next_place, place_at, few_blocks}
use Rattle.damages.proofs.Decided.{no_link}
use Rattle.damages.proofs.Fitting.{IsRight}

-- right links on, so many blocks at most
abbrev pub follow : (ℕ → Node) → ℕ → Option ℕ → List ℕ
follow at zero next = []
follow at (suc n) None = []
follow at (suc n) (Some b) = b ∷ follow at n (at b).right

-- the first places of a chain, the last of them first
abbrev passed : Index → ℕ → ℕ → List ℕ
passed ix depth zero = []
passed ix depth (suc k) = or_block (place_at ix depth k).block 0 ∷ passed ix depth k

size : (ix : Index) (depth k : ℕ) → length (passed ix depth k) ≡ k
size ix depth zero = refl
size ix depth (suc k) = (let r = size ix depth k in omega (arith, r))

record IsPassed (ix : Index) (depth k block : ℕ) : Type 0 where
  place : ℕ
  before : place < k
  is : block ≡ or_block (place_at ix depth place).block 0

is_passed : (ix : Index) (depth k block : ℕ) → IsIn block (passed ix depth k) → IsPassed ix depth k block
is_passed ix depth zero block i = absurd i
is_passed ix depth (suc k) block (inl e) = record { place = k; before = omega arith; is = e }
is_passed ix depth (suc k) block (inr i) = (let r = is_passed ix depth k block i in let lt = r.before in record { place = r.place; before = omega arith; is = r.is })

-- where a place has a page, each earlier place has one
before_last : (ix : Index) (depth k b : ℕ) → (place_at ix depth (suc k)).block ≡ Some b → (c : ℕ) × ((place_at ix depth k).block ≡ Some c)
before_last ix depth k b is = by (place_at ix depth k).block refl
  where
    by : (o : Option ℕ) → (place_at ix depth k).block ≡ o → (c : ℕ) × ((place_at ix depth k).block ≡ Some c)
    by None e = absurd (no_link (sym (ap (λ (o : Option ℕ). (next_place ix.at (place_at ix depth k).context o).block) e) ∙ is))
    by (Some c) e = (c, e)

pub has_before : (ix : Index) (depth k b : ℕ) → (place_at ix depth k).block ≡ Some b → (j : ℕ) → j ≤ k → (c : ℕ) × ((place_at ix depth j).block ≡ Some c)
has_before ix depth zero b is j le = (b, subst (λ (n : ℕ). (place_at ix depth n).block ≡ Some b) (let e : 0 ≡ j = omega arith in e) is)
has_before ix depth (suc k) b is j le = elim (cases_eq j (suc k)) [
  | inl last ↦ (b, subst (λ (n : ℕ). (place_at ix depth n).block ≡ Some b) (sym last) is)
  | inr differs ↦ (let c = before_last ix depth k b is in has_before ix depth k c.0 c.1 j (omega arith))
]

module _ (pages : List Page) (depth level : ℕ)
    (right : (k b : ℕ) → (place_at (index_of pages) depth k).block ≡ Some b → IsRight pages depth level (place_at (index_of pages) depth k).context b)
    (once : (j k b : ℕ) → j < k → (place_at (index_of pages) depth j).block ≡ Some b → (place_at (index_of pages) depth k).block ≡ Some b → ⊥) where
  new_here : (k b : ℕ) → (place_at (index_of pages) depth k).block ≡ Some b
      → IsNotIn (or_block (place_at (index_of pages) depth k).block 0) (passed (index_of pages) depth k)
  new_here k b is = not_in_from (or_block (place_at (index_of pages) depth k).block 0) (passed (index_of pages) depth k) (λ c i same.
      let m = is_passed (index_of pages) depth k c i in
      let lt = m.before in
      let d = has_before (index_of pages) depth k b is m.place (omega arith) in
      let alike : d.0 ≡ b = sym (ap (λ (o : Option ℕ). or_block o 0) d.1) ∙ sym m.is ∙ sym same ∙ ap (λ (o : Option ℕ). or_block o 0) is in
      once m.place k b m.before (d.1 ∙ ap Some alike) is)

  distinct_so_far : (k b : ℕ) → (place_at (index_of pages) depth k).block ≡ Some b → AreDistinct (passed (index_of pages) depth (suc k))
  distinct_so_far zero b is = (new_here 0 b is, tt)
  distinct_so_far (suc k) b is = (new_here (suc k) b is, let c = before_last (index_of pages) depth k b is in distinct_so_far k c.0 c.1)

  -- there are fewer places than pages
  pub few : (k b : ℕ) → (place_at (index_of pages) depth k).block ≡ Some b → k < length pages
  few k b is =
      let on = (right k b is).on_level in
      let some : 0 < length pages = (let p = on.in_use in omega arith) in
      let r = few_blocks (length pages) (passed (index_of pages) depth (suc k)) some (distinct_so_far k b is) (λ c i.
      let m = is_passed (index_of pages) depth (suc k) c i in
      let lt = m.before in
      let d = has_before (index_of pages) depth k b is m.place (omega arith) in
      let there = (right m.place d.0 d.1).on_level in
      let same : c ≡ d.0 = m.is ∙ ap (λ (o : Option ℕ). or_block o 0) d.1 in
      subst (λ (n : ℕ). (0 < n) × (n < length pages)) (sym same) (there.after_meta, there.in_use)) in
      omega (arith, r, size (index_of pages) depth (suc k))

  -- from a place on, the walk is a chain
  run_from : (n k : ℕ) (s : LeftContext) (o : Option ℕ) → place_at (index_of pages) depth k ≡ record { context = s; block = o } → k + n ≡ length pages
      → IsRunOf (nodes_of pages) level s (follow (nodes_of pages) n o) None × (first_or (follow (nodes_of pages) n o) None ≡ o)
  run_from zero k s None is sum = (tt, refl)
  run_from zero k s (Some b) is sum = absurd (let lt = few k b (ap (λ (p : Place). p.block) is) in omega arith)
  run_from (suc n) k s None is sum = (tt, refl)
  run_from (suc n) k s (Some b) is sum =
      let r = run_from n (suc k) (past b (nodes_of pages b) s) (nodes_of pages b).right (ap (λ (p : Place). next_place (nodes_of pages) p.context p.block) is) (omega arith) in
      let here = (right k b (ap (λ (p : Place). p.block) is)).placed in (
        (
          subst (λ (o : Option ℕ). IsPlaced (nodes_of pages b) level s o) (sym r.1)
              (subst (λ (t : LeftContext). IsPlaced (nodes_of pages b) level t (nodes_of pages b).right) (ap (λ (p : Place). p.context) is) here),
          r.0,
        ),
        refl,
      )

  pub run : IsRunOf (nodes_of pages) level first_context (follow (nodes_of pages) (length pages) (Some (head (index_of pages) depth))) None
  run = (run_from (length pages) 0 first_context (Some (head (index_of pages) depth)) refl (omega arith)).0

  pub begins : first_or (follow (nodes_of pages) (length pages) (Some (head (index_of pages) depth))) None ≡ Some (head (index_of pages) depth)
  begins = (run_from (length pages) 0 first_context (Some (head (index_of pages) depth)) refl (omega arith)).1
