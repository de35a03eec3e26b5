-- The levels of pages, as the pages say them, and the level of the root.
use Rattle.std.specs.Prelude.{ℕ, Option, Some, None, List, slice_get}
use Rattle.page_codec.specs.declared.page.Items.{Items}
use Rattle.page_codec.specs.declared.page.Items.TheVariants.{Meta, Entries, Downlinks}
use Rattle.page_codec.specs.declared.page.Page.{Page}

-- the level that a page with these items says: a leaf's is 0, and the metapage has the root's
abbrev pub level_with : Items → ℕ → ℕ
level_with Meta level = level
level_with (Entries entries) level = 0
level_with (Downlinks links) level = level

-- the level of a page, or 0 if there is none
abbrev pub level_of : Option Page → ℕ
level_of None = 0
level_of (Some page) = level_with page.items page.level

-- the level of the page of this block
abbrev pub level_at : List Page → ℕ → ℕ
level_at pages block = level_of (slice_get pages block)

-- the level of the root, which the metapage names
abbrev pub root_level : List Page → ℕ
root_level pages = level_at pages 0
