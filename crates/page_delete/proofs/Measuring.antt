-- How much is left to do after a step.
use Rattle.std.proofs.Common.{◌≡◌, ℕ, zero, suc, ◌+◌, ◌-◌, ◌*◌, ◌<◌, ◌≤◌, inl, inr, refl, sym, ap, subst, ◌∙◌, arith}
use Rattle.page_delete.proofs.Imports.{Bound, IsShorter, Position, steps_for_page, turn_left, pages_left, cleanup_left, CleanupAt, Look, Start, Down, Judge, Unlink}

pub mul_le : (a b k : ℕ) → a ≤ b → a * k ≤ b * k
mul_le zero b k le = omega arith
mul_le (suc a) zero k le = absurd (omega (arith, le))
mul_le (suc a) (suc b) k le = (let r = mul_le a b k (omega (arith, le)) in omega (arith, r))

block_less : (n k m : ℕ) → m < k → n * k + m < suc n * k
block_less n k m lt = omega (arith, lt)

one_less : (used cursor : ℕ) → cursor < used → used - cursor ≡ suc (used - suc cursor)
one_less used cursor lt = omega (arith, lt)

module _ (most used cursor : ℕ) where
  -- from looking at a page to another step for it
  from_look : (n t : ℕ) → cursor < used → n ≡ used - suc cursor → t < steps_for_page most → n * steps_for_page most + t < cleanup_left most used cursor Look
  from_look n t inside is lt =
      let whole : used - cursor ≡ suc n = one_less used cursor inside ∙ ap suc (sym is) in
      let less = block_less n (steps_for_page most) t lt in
      subst (λ (k : ℕ). n * steps_for_page most + t < k * steps_for_page most + 0) (sym whole) (omega (arith, less))

  pub look_starts : (high : Bound) → cursor < used → cleanup_left most used cursor (Start high) < cleanup_left most used cursor Look
  look_starts high inside = from_look (used - suc cursor) (32 * (most + 2) + 3) inside refl (omega arith)

  pub look_unlinks : cursor < used → cleanup_left most used cursor Unlink < cleanup_left most used cursor Look
  look_unlinks inside = from_look (used - suc cursor) 1 inside refl (omega arith)

  pub look_passes : cursor < used → cleanup_left most used (suc cursor) Look < cleanup_left most used cursor Look
  look_passes inside = from_look (used - suc cursor) 0 inside refl (omega arith)

  more : (n s t : ℕ) → s < t → n + s < n + t
  more n s t lt = omega (arith, lt)

  pub start_passes : (high : Bound) → cleanup_left most used (suc cursor) Look < cleanup_left most used cursor (Start high)
  start_passes high = more ((used - suc cursor) * steps_for_page most) 0 (32 * (most + 2) + 3) (omega arith)

  pub start_goes_down : (high : Bound) (position : Position) → position.level ≤ 31 → cleanup_left most used cursor (Down high position) < cleanup_left most used cursor (Start high)
  start_goes_down high position low = more ((used - suc cursor) * steps_for_page most) (position.level * (most + 2) + ((suc most - position.moves) + 2)) (32 * (most + 2) + 3)
      (let m = mul_le position.level 31 (most + 2) low in omega (arith, m))

  down_less : (level' level k x y : ℕ) → (level' < level) → x < k + y → level' * k + x < level * k + y
  down_less level' level k x y lt few = (let m = mul_le (suc level') level k (omega (arith, lt)) in omega (arith, m, few))

  pub down_goes_on : (high : Bound) (position on : Position) → IsShorter 1 most position on → cleanup_left most used cursor (Down high on) < cleanup_left most used cursor (Down high position)
  down_goes_on high position on shorter = elim shorter.shorter [
    | inl lower ↦ more ((used - suc cursor) * steps_for_page most) _ _ (down_less on.level position.level (most + 2) ((suc most - on.moves) + 2) ((suc most - position.moves) + 2) lower (omega arith))
    | inr same ↦ more ((used - suc cursor) * steps_for_page most) _ _
        (subst (λ (l : ℕ). l * (most + 2) + ((suc most - on.moves) + 2) < position.level * (most + 2) + ((suc most - position.moves) + 2)) (sym same.0)
        (let a = same.1.0 in let b = same.1.1 in omega (arith, a, b)))
  ]

  pub down_judges : (high : Bound) (position : Position) (parent : ℕ) → 0 < position.level → cleanup_left most used cursor (Judge high parent) < cleanup_left most used cursor (Down high position)
  down_judges high position parent some = more ((used - suc cursor) * steps_for_page most) 2 (position.level * (most + 2) + ((suc most - position.moves) + 2))
      (let m = mul_le 1 position.level (most + 2) some in omega (arith, m))

  pub judge_unlinks : (high : Bound) (parent : ℕ) → cleanup_left most used cursor Unlink < cleanup_left most used cursor (Judge high parent)
  judge_unlinks high parent = more ((used - suc cursor) * steps_for_page most) 1 2 (omega arith)

  pub judge_passes : (high : Bound) (parent : ℕ) → cleanup_left most used (suc cursor) Look < cleanup_left most used cursor (Judge high parent)
  judge_passes high parent = more ((used - suc cursor) * steps_for_page most) 0 2 (omega arith)

  pub unlink_passes : cleanup_left most used (suc cursor) Look < cleanup_left most used cursor Unlink
  unlink_passes = more ((used - suc cursor) * steps_for_page most) 0 1 (omega arith)

-- within the limits all of it is bounded
pub bounded : (most used cursor : ℕ) (at : CleanupAt) → most ≤ 65536 → used ≤ 65536 → turn_left most at < steps_for_page most
    → pages_left used cursor at ≤ used → cleanup_left most used cursor at < 4398046511104
bounded most used cursor at few in_use turn pages =
    let a = mul_le (pages_left used cursor at) 65536 (steps_for_page most) (omega (arith, in_use, pages)) in
    omega (arith, a, few, turn)
