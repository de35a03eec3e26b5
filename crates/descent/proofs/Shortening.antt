-- A way that leads on gets shorter, and none is as long as a walk.
use Rattle.std.proofs.Common.{◌≡◌, ◌⊎◌, ℕ, suc, ◌+◌, ◌*◌, ◌<◌, ◌≤◌, inl, inr, ap, arith}
use Rattle.std.proofs.Math.Nat.{mul-le-mul_right}
use Rattle.descent.proofs.Imports.{IsShorter, way_left, walk_length, Position}

-- a way is shorter than a walk
pub walk_is_long : (most : ℕ) (position : Position) → position.level ≤ 255 → way_left most position < walk_length most
walk_is_long most position low =
    let k : position.level * (most + 4) ≤ 255 * (most + 4) = mul-le-mul_right (most + 4) low in
    omega arith

-- a way that leads on gets shorter
pub way_shortens : (to most : ℕ) (position on : Position) → IsShorter to most position on → way_left most on < way_left most position
way_shortens to most position on h = shorter h.shorter
  where
    shorter : (on.level < position.level) ⊎ ((on.level ≡ position.level) × ((on.moves ≡ suc position.moves) × (on.moves ≤ most))) → way_left most on < way_left most position
    shorter (inl lt) =
        let k : suc on.level * (most + 4) ≤ position.level * (most + 4) = mul-le-mul_right (most + 4) lt in
        let e : suc on.level * (most + 4) ≡ on.level * (most + 4) + (most + 4) = omega arith in
        omega arith
    shorter (inr e) =
        let same : on.level * (most + 4) ≡ position.level * (most + 4) = ap (λ (n : ℕ). n * (most + 4)) e.0 in
        let moved = e.1.0 in
        let few = e.1.1 in
        omega arith
