-- Numbers of blocks, and which of them are low enough.
use Rattle.std.specs.Prelude.{◌≡◌, ℕ, ◌<◌, Bool, true, false, nat_le, min, Option, Some, None, List, slice_index_or}

-- the number of a block; none if it has none, or there is no such block
abbrev pub number_at : List (Option ℕ) → ℕ → Option ℕ
number_at numbers block = slice_index_or numbers block None

-- the lesser of two numbers; none is the greatest
abbrev pub lesser : Option ℕ → Option ℕ → Option ℕ
lesser None other = other
lesser (Some first) None = Some first
lesser (Some first) (Some second) = Some (min first second)

-- there is a number, and it is at most this, if there is one
abbrev pub is_at_most : Option ℕ → Option ℕ → Bool
is_at_most most None = false
is_at_most None (Some number) = true
is_at_most (Some most) (Some number) = nat_le number most

-- no block's number is at most this
abbrev pub AreBeyond : Option ℕ → List (Option ℕ) → Type 0
AreBeyond most numbers = (block : ℕ) → is_at_most most (number_at numbers block) ≡ false

-- the lowest block whose number is at most this
pub record IsLowest (most : Option ℕ) (numbers : List (Option ℕ)) (block : ℕ) : Type 0 where
  pub at_most : is_at_most most (number_at numbers block) ≡ true
  pub lowest : (b : ℕ) → b < block → is_at_most most (number_at numbers b) ≡ false
