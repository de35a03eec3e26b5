-- The way to the leftmost page of a level, and its first damage.
use Rattle.std.specs.Prelude.{◌≡◌, ◌⊎◌, ℕ, ◌<◌}
use Rattle.damages.specs.Damages.{Index, left_after_steps, IsOfPath}

-- on the way to the leftmost page of this level nothing is damaged
abbrev pub IsClearPath : Index → ℕ → Type 0
IsClearPath ix depth = (step number : ℕ) → IsOfPath ix depth step number → ⊥

-- there is a damage of this number and block, and none that comes before it: at an earlier step, or of a
-- lesser number at the same step
pub record IsFirstOfPath (ix : Index) (depth number block : ℕ) : Type 0 where
  pub step : ℕ
  pub is : IsOfPath ix depth step number
  pub block_is : block ≡ left_after_steps ix depth step
  pub first : (s n : ℕ) → IsOfPath ix depth s n → (s < step) ⊎ ((s ≡ step) × (n < number)) → ⊥
