-- Pages as they are read from a device: the blocks in use, and what damages one.
use Rattle.std.specs.Prelude.{◌≡◌, ◌≢◌, ◌⊎◌, ℕ, ◌+◌, ◌<◌, ◌≤◌, max, Bool, IsTrue, Option, Some, None, List, [], ◌∷◌, length, replicate, slice_get, slice_range}
use Rattle.index_model.specs.declared.fault.Fault.{Fault}
use Rattle.index_model.specs.declared.fault.Fault.TheVariants.{PageDamaged}
use Rattle.index_model.specs.declared.format.Format.{Format}
use Rattle.page_action.specs.Stored.{IsStored, AreStored}
use Rattle.page_codec.specs.Grammar.{IsPage}
use Rattle.page_codec.specs.Spelling.{page_bytes}
use Rattle.page_codec.specs.declared.page.Page.{Page}
use Rattle.page_codec.specs.Places.{place}
use Rattle.page_store.specs.Rooms.{format_of_room, pages_of_room, counts_of_room}
use Rattle.recovery.specs.declared.reading.Found.{Found}

-- the 4,096 bytes at the place of a block
abbrev pub block_bytes : Format → ℕ → List ℕ → List ℕ
block_bytes format block file = slice_range file (place format block) (place format block + 4096)

-- these are the bytes of the blocks from there up to there
abbrev pub AreBlocks : Format → ℕ → ℕ → List ℕ → List ℕ → Type 0
AreBlocks format from end bytes file = bytes ≡ slice_range file (place format from) (place format end)

-- the bytes are those of the page, which the format admits; or zeros, if there is none
abbrev pub AreBytesOf : Option Page → List ℕ → Type 0
AreBytesOf None bytes = bytes ≡ replicate 4096 0
AreBytesOf (Some page) bytes = IsPage page × (bytes ≡ page_bytes page)

-- each of these pages stands at the place of its block
abbrev pub StandFirst : Format → List Page → List ℕ → Type 0
StandFirst format pages file = (block : ℕ) (page : Page) → slice_get pages block ≡ Some page
    → block_bytes format block file ≡ page_bytes page

-- after `used` blocks none is in use: there is no block more, or zeros stand at the place of the next one
abbrev pub IsEnd : Format → ℕ → List ℕ → Type 0
IsEnd format used file = (used ≡ format.pages) ⊎ (block_bytes format used file ≡ replicate 4096 0)

-- these are the pages of all blocks in use
pub record AreInUse (format : Format) (pages : List Page) (file : List ℕ) : Type 0 where
  pub stored : AreStored format 0 pages
  pub few : length pages ≤ format.pages
  pub stand : StandFirst format pages file
  pub end : IsEnd format (length pages) file

-- in front of the block pages stand, and at its place no page that may be stored there; nor zeros, except for
-- block 0
pub record IsDamagedAt (format : Format) (block : ℕ) (file : List ℕ) : Type 0 where
  pub before : List Page
  pub stored : AreStored format 0 before
  pub stand : StandFirst format before file
  pub count : length before ≡ block
  pub within : block < format.pages
  pub no_page : (page : Page) → IsStored format block page
      → block_bytes format block file ≢ page_bytes page
  pub in_use : block_bytes format block file ≡ replicate 4096 0 → block ≡ 0

-- refused for a block that is damaged
abbrev pub IsDamagedBlock : Format → Bool → List ℕ → Fault → Type 0
IsDamagedBlock format honest file fault = (block : ℕ) × (fault ≡ PageDamaged block)
    × (IsTrue honest → IsDamagedAt format block file)

-- the greatest cycle number of these pages, 0 if there is none
abbrev pub greatest_cycle : List Page → ℕ
greatest_cycle [] = 0
greatest_cycle (page ∷ pages) = max page.cycle (greatest_cycle pages)

-- what was read: pages that may be stored, no deletion number that counts, and the greatest cycle number; the
-- pages stand on the device, if it is honest
pub record HasReadPages (format : Format) (honest : Bool) (file : List ℕ) (found : Found)
    : Type 0 where
  pub format_is : format_of_room found.room ≡ format
  pub stored : AreStored format 0 (pages_of_room found.room)
  pub counts : counts_of_room found.room ≡ replicate (length (pages_of_room found.room)) 0
  pub last_cycle : found.last_cycle ≡ greatest_cycle (pages_of_room found.room)
  pub stand : IsTrue honest → StandFirst format (pages_of_room found.room) file

-- and these are all: one page or more
pub record IsAllRead (format : Format) (honest : Bool) (file : List ℕ) (found : Found)
    : Type 0 where
  pub read : HasReadPages format honest file found
  pub some : 0 < length (pages_of_room found.room)
  pub few : length (pages_of_room found.room) ≤ format.pages
  pub end : IsTrue honest → IsEnd format (length (pages_of_room found.room)) file
