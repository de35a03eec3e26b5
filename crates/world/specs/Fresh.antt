-- A device on which an index was made.
use Rattle.std.specs.Prelude.{◌≡◌, ℕ, Bool, false, List}
use Rattle.device.specs.Disk.{DiskMoment, MayCrashTo}
use Rattle.index_model.specs.declared.entry.Entry.{Entry}
use Rattle.index_model.specs.declared.format.Format.{Format}
use Rattle.page_action.specs.Contents.{entry_on_live_leaf}
use Rattle.page_codec.specs.declared.page.Page.{Page}
use Rattle.recovery.specs.Fresh.{CrashesToEmpty}
use Rattle.recovery.specs.Index.{HasIndex}
use Rattle.tree_acts.specs.TheoremKeys.{IsTreeFor}

-- what is seen now, and whatever a crash leaves, is an index of the same pages: a B-link tree, keyed if it is
-- unique, with no entry on it
pub record CrashesToEmptyTree (format : Format) (m : DiskMoment) : Type 0 where
  pub pages : List Page
  pub now : HasIndex format pages m.seen
  pub leaves : (image : List ℕ) → MayCrashTo m image → HasIndex format pages image
  pub tree : IsTreeFor format pages
  pub empty : (e : Entry) → entry_on_live_leaf pages e ≡ false

-- the pages of an index that was made are such a tree
abbrev pub NewIndexesAreTrees : Type 0
NewIndexesAreTrees = (format : Format) (m : DiskMoment) → CrashesToEmpty format m → CrashesToEmptyTree format m
