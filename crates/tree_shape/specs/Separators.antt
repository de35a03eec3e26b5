-- Beginnings of keys, and the bound that parts two neighbours.
use Rattle.std.specs.Prelude.{◌≡◌, ℕ, suc, ◌-◌, slice_get, ◌==◌, if◌then◌else◌, ◌<◌, ◌≤◌, true, false, None, Some, List, [], ◌∷◌, length, take}
use Rattle.std.specs.Ordering.{is_lt}
use Rattle.index_model.specs.Order.{key_cmp, bound_of}
use Rattle.index_model.specs.declared.bound.Bound.{Bound}
use Rattle.index_model.specs.declared.entry.Entry.{Entry}

-- the key stands before the other
abbrev pub IsKeyBefore : List ℕ → List ℕ → Type 0
IsKeyBefore a b = is_lt (key_cmp a b) ≡ true

-- with how many bytes the two begin alike
abbrev pub shared : List ℕ → List ℕ → ℕ
shared [] ys = 0
shared (x ∷ xs) [] = 0
shared (x ∷ xs) (y ∷ ys) = if x == y then suc (shared xs ys) else 0

-- of the beginnings of `next`, this is the shortest that is greater than `last`; it has one byte or more
pub record IsShortestPast (last next key : List ℕ) : Type 0 where
  pub count : ℕ
  pub some : 0 < count
  pub within : count ≤ length next
  pub is : key ≡ take count next
  pub greater : IsKeyBefore last key
  pub shortest : (fewer : ℕ) → fewer < count → is_lt (key_cmp last (take fewer next)) ≡ false

-- The separator of a leaf whose left half ends with `last` and whose right half begins with `next`: if
-- their keys differ, the place before all rows of the shortest beginning of next's key that is greater than
-- last's; else last.
pub record IsSeparator (last next : Entry) (s : Bound) : Type 0 where
  pub shortened : IsKeyBefore last.key next.key
      → IsShortestPast last.key next.key s.key × (s.row ≡ None)
  pub whole : last.key ≡ next.key → s ≡ bound_of last

-- the separator of two halves: of the last entry of the one and the first of the other
pub record IsCutOf (left right : List Entry) (s : Bound) : Type 0 where
  pub last : Entry
  pub next : Entry
  pub ends : slice_get left (length left - 1) ≡ Some last
  pub begins : slice_get right 0 ≡ Some next
  pub is : IsSeparator last next s
