-- The bytes of a log: groups of images, each after a gate.
use Rattle.std.specs.Prelude.{◌≡◌, ◌≢◌, ℕ, ◌^◌, ◌<◌, ◌≤◌, List, [], ◌∷◌, ◌++◌, length, take, drop, get_or}
use Rattle.std.specs.Int.{w32, to_le_bytes}
use Rattle.std.specs.List.{AllByRecursion}
use Rattle.page_codec.specs.Places.{log_start}
use Rattle.index_model.specs.Limits.{Admits}
use Rattle.index_model.specs.declared.format.Format.{Format}
use Rattle.page_codec.specs.declared.page.Page.{Page}
use Rattle.page_codec.specs.Grammar.{IsPage}
use Rattle.page_codec.specs.Spelling.{count_of}
use Rattle.redo_log.specs.Images.{images_bytes}

-- its block is below the number of pages, it has no more items than a page may, and is of a layout that the
-- index may have
pub record IsWithin (format : Format) (p : Page) : Type 0 where
  pub block : p.block < format.pages
  pub items : count_of p.items ≤ format.items
  pub layout : Admits format.layout p.layout

-- a page that an index of these limits may have
pub record IsImage (format : Format) (p : Page) : Type 0 where
  pub page : IsPage p
  pub within : IsWithin format p

-- each of them is an image
abbrev pub AreImages : Format → List Page → Type 0
AreImages format ps = AllByRecursion (IsImage format) ps

-- one image or more, whose number fits into its place
pub record IsGroup (format : Format) (group : List Page) : Type 0 where
  pub some : 0 < length group
  pub few : length group < 2 ^ 32
  pub images : AreImages format group

-- each of them is a group
abbrev pub AreGroups : Format → List (List Page) → Type 0
AreGroups format groups = AllByRecursion (IsGroup format) groups

-- the number of images and the images
abbrev pub body : List Page → List ℕ
body group = to_le_bytes w32 (length group) ++ images_bytes group

-- the groups, each after an open gate
abbrev pub spelled_groups : List (List Page) → List ℕ
spelled_groups [] = []
spelled_groups (group ∷ groups) = 1 ∷ body group ++ spelled_groups groups

-- the bytes are these groups, open, then a gate that isn't 1, and anything
pub record SpellsGroups (format : Format) (bytes : List ℕ) (groups : List (List Page))
    : Type 0 where
  pub good : AreGroups format groups
  pub gate : ℕ
  pub closed : gate ≢ 1
  pub rest : List ℕ
  pub is : bytes ≡ spelled_groups groups ++ gate ∷ rest

-- the log's range of a device
abbrev pub log_range : Format → List ℕ → List ℕ
log_range format file = take format.log_bytes (drop log_start file)

-- the log's first gate isn't open on this device
abbrev pub IsClosedAtStart : List ℕ → Type 0
IsClosedAtStart file = get_or file log_start 0 ≢ 1
