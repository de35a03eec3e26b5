-- How much is left to do for a bulk delete, while the pages are as they are.
use Rattle.std.specs.Prelude.{ℕ, suc, ◌+◌, ◌-◌, ◌*◌, Option, Some, None}
use Rattle.vacuum.specs.declared.steps.Backtrack.{Backtrack}

-- how many moves back are left, of `most` and one more
abbrev pub moves_left : ℕ → Option Backtrack → ℕ
moves_left most None = 0
moves_left most (Some backtrack) = suc (suc most - backtrack.moves)

-- the blocks in use from the cursor on, and the moves back that each may bring
abbrev pub bulk_delete_left : ℕ → ℕ → ℕ → Option Backtrack → ℕ
bulk_delete_left most used cursor backtrack = (used - cursor) * (most + 3) + moves_left most backtrack
