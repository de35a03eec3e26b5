-- The blocks that were met on the chains so far.
use Rattle.std.specs.Prelude.{◌≡◌, ◌↔◌, ℕ, ◌<◌, ◌≤◌, true, false, length, get_or, vec_capacity}
use Rattle.tree_shape.specs.Chains.{IsIn, AreDistinct}
use Rattle.amcheck.specs.declared.marks.Met.{Met}

-- the blocks, each once and in use, and there is room for all; the marks say which they are
pub record IsMet (met : Met) (used : ℕ) : Type 0 where
  pub size : length met.marks.items ≡ used
  pub room : used ≤ vec_capacity met.blocks
  pub distinct : AreDistinct met.blocks.items
  pub in_use : (b : ℕ) → IsIn b met.blocks.items → (0 < b) × (b < used)
  pub marked : (b : ℕ) → (get_or met.marks.items b false ≡ true) ↔ IsIn b met.blocks.items
