-- How much is left to do for a cleanup, while the pages are as they are.
use Rattle.std.specs.Prelude.{ℕ, suc, ◌+◌, ◌-◌, ◌*◌}
use Rattle.page_delete.specs.declared.steps.CleanupAt.{CleanupAt}
use Rattle.page_delete.specs.declared.steps.CleanupAt.TheVariants.{Look, Start, Down, Judge, Unlink}

-- the most steps for one page
abbrev pub steps_for_page : ℕ → ℕ
steps_for_page most = 33 * (most + 2) + 4

-- the steps for the page at the cursor, after the first
abbrev pub turn_left : ℕ → CleanupAt → ℕ
turn_left most Look = 0
turn_left most (Start high) = 32 * (most + 2) + 3
turn_left most (Down high position) = position.level * (most + 2) + ((suc most - position.moves) + 2)
turn_left most (Judge high parent) = 2
turn_left most Unlink = 1

-- the pages that are still to be looked at
abbrev pub pages_left : ℕ → ℕ → CleanupAt → ℕ
pages_left used cursor Look = used - cursor
pages_left used cursor (Start high) = used - suc cursor
pages_left used cursor (Down high position) = used - suc cursor
pages_left used cursor (Judge high parent) = used - suc cursor
pages_left used cursor Unlink = used - suc cursor

abbrev pub cleanup_left : ℕ → ℕ → ℕ → CleanupAt → ℕ
cleanup_left most used cursor at = pages_left used cursor at * steps_for_page most + turn_left most at
