-- How many sessions hold something.
use Rattle.std.specs.Prelude.{ℕ, ◌+◌, Bool, true, false, not, ◌||◌, ◌==◌, [], ◌∷◌, length}
use Rattle.latch_table.specs.Holdings.{Holding, Table}

-- there is a latch or a pin
abbrev pub holds_any : Holding → Bool
holds_any holding = not (length holding.latches == 0) || not (length holding.pins == 0)

-- 1 for true
abbrev pub one_if : Bool → ℕ
one_if true = 1
one_if false = 0

-- how many sessions hold something
abbrev pub holder_count : Table → ℕ
holder_count [] = 0
holder_count (holding ∷ table) = one_if (holds_any holding) + holder_count table
