-- The room for the pages that are read.
use Rattle.std.specs.Prelude.{ℕ, ◌≤◌, vec_capacity}
use Rattle.amcheck.specs.Sketches.{HoldSketches}
use Rattle.amcheck.specs.declared.page_room.PageRoom.{PageRoom}

-- there is room for `used` pages, and those that were read are kept
pub record HasPageRoom (room : PageRoom) (used : ℕ) : Type 0 where
  pub sketches : used ≤ vec_capacity room.sketches
  pub whole : used ≤ vec_capacity room.whole
  pub kept : HoldSketches room.list.value room.whole.items room.sketches.items
