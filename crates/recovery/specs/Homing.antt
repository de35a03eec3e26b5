-- The images of a log are written to their places.
use Rattle.std.specs.Prelude.{◌≡◌, ℕ, ◌*◌, ◌<◌, Some, None, List, length}
use Rattle.device.specs.Disk.{DiskMoment}
use Rattle.device.specs.Places.{Has, OnDisk, ChangesOnly}
use Rattle.index_model.specs.declared.format.Format.{Format}
use Rattle.page_codec.specs.Places.{place}
use Rattle.redo_log.specs.Reading.{kept_image}
use Rattle.redo_log.specs.declared.log.Replayed.{Replayed}

-- nothing but places of blocks that have an image in the log changed
pub record ChangesNamed (format : Format) (found : Replayed) (old m : DiskMoment) : Type 0 where
  pub only : ChangesOnly (place format 0) (4096 * format.pages) old m
  pub others : (block : ℕ) (bytes : List ℕ) → length bytes ≡ 4096 → kept_image found block ≡ None
      → OnDisk (place format block) bytes old → OnDisk (place format block) bytes m

-- the last image of each block stands at its place
abbrev pub HasImages : Format → Replayed → List ℕ → Type 0
HasImages format found file = (block : ℕ) (bytes : List ℕ) → block < format.pages
    → kept_image found block ≡ Some bytes → Has (place format block) bytes file

-- and no crash changes it
abbrev pub AreHomed : Format → Replayed → DiskMoment → Type 0
AreHomed format found m = (block : ℕ) (bytes : List ℕ) → block < format.pages
    → kept_image found block ≡ Some bytes → OnDisk (place format block) bytes m
