-- What the bytes of a device restart to.
use Rattle.std.specs.Prelude.{◌≡◌, ◌⊎◌, ℕ, ◌<◌, ◌≤◌, Some, None, List, length, replicate, slice_get}
use Rattle.device.specs.Disk.{DiskMoment, MayCrashTo}
use Rattle.device.specs.Places.{Has}
use Rattle.page_codec.specs.Places.{superblock, place}
use Rattle.index_model.specs.declared.format.Format.{Format}
use Rattle.page_codec.specs.Spelling.{page_bytes}
use Rattle.page_codec.specs.declared.page.Page.{Page}
use Rattle.page_action.specs.Stored.{AreStored}
use Rattle.redo_log.specs.Images.{last_image, images_of}
use Rattle.redo_log.specs.Groups.{SpellsGroups, log_range}
use Rattle.page_store.specs.Histories.{pages_after}
use Rattle.page_store.specs.declared.history.History.{History}

-- the block has no image among these, and these bytes stand at its place
pub record StandsAtHome (format : Format) (images : List Page) (block : ℕ) (bytes image : List ℕ)
    : Type 0 where
  pub unnamed : last_image images block ≡ None
  pub has : Has (place format block) bytes image

-- the bytes restart to these pages: of each block in use the last image in the log is the page, or there is
-- none, and the page stands at its place; no later block has an image, and zeros stand at its place
pub record RestartsTo (format : Format) (image : List ℕ) (pages : List Page) : Type 0 where
  pub superblock_is : Has 0 (superblock format) image
  pub groups : List (List Page)
  pub spells : SpellsGroups format (log_range format image) groups
  pub long : place format format.pages ≤ length image
  pub few : length pages ≤ format.pages
  pub stored : AreStored format 0 pages
  pub used : (block : ℕ) (page : Page) → slice_get pages block ≡ Some page
      → (last_image (images_of groups) block ≡ Some page)
      ⊎ StandsAtHome format (images_of groups) block (page_bytes page) image
  pub unused : (block : ℕ) → length pages ≤ block → block < format.pages
      → StandsAtHome format (images_of groups) block (replicate 4096 0) image

-- they restart to the pages after some prefix of the acts, of at least `least` acts
pub record RestartsToPart (format : Format) (h : History) (least : ℕ) (image : List ℕ)
    : Type 0 where
  pub part : ℕ
  pub from : least ≤ part
  pub to : part ≤ length h.acts
  pub restarts : RestartsTo format image (pages_after h part)

-- each image that a crash at this moment may leave does
abbrev pub CrashesToPart : Format → History → ℕ → DiskMoment → Type 0
CrashesToPart format h least m =
    (image : List ℕ) → MayCrashTo m image → RestartsToPart format h least image

-- each image that a crash at this moment may leave restarts to these pages
abbrev pub CrashesToPages : Format → List Page → DiskMoment → Type 0
CrashesToPages format pages m = (image : List ℕ) → MayCrashTo m image → RestartsTo format image pages
