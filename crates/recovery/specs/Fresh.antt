-- A device with an empty index on it.
use Rattle.std.specs.Prelude.{◌≡◌, ◌≢◌, ◌⊎◌, ℕ, suc, ◌<◌, ◌≤◌, true, false, take, Some, None, List, [], ◌∷◌, length, replicate, Result, MatchResult}
use Rattle.device.specs.Disk.{DiskMoment, Trace, MayCrashTo}
use Rattle.device.specs.Places.{Has, OnDisk, ChangesOnly}
use Rattle.index_model.specs.Limits.{AreLimits}
use Rattle.index_model.specs.declared.fault.Fault.{Fault}
use Rattle.index_model.specs.declared.fault.Fault.TheVariants.{Io, BadLimits, DeviceTooSmall}
use Rattle.index_model.specs.declared.format.Format.{Format}
use Rattle.index_model.specs.declared.layout.Layout.TheVariants.{Two}
use Rattle.page_codec.specs.Edits.{entries_of, HasEntries}
use Rattle.page_codec.specs.Grammar.{IsPage}
use Rattle.page_codec.specs.Spelling.{page_bytes}
use Rattle.page_codec.specs.declared.page.Items.TheVariants.{Meta}
use Rattle.page_codec.specs.declared.page.Page.{Page}
use Rattle.page_codec.specs.declared.page.PageState.TheVariants.{Live}
use Rattle.recovery.specs.Index.{HasIndex}
use Rattle.page_codec.specs.Places.{magic, superblock, log_start, place, needed_length}

-- the metapage of an empty index: its root is the leaf at block 1
pub record IsFirstMeta (p : Page) : Type 0 where
  pub page : IsPage p
  pub layout : p.layout ≡ Two
  pub block : p.block ≡ 0
  pub kind : p.items ≡ Meta
  pub level : p.level ≡ 0
  pub root : p.right ≡ Some 1

-- the leaf of an empty index: live, whole and alone, without entries
pub record IsFirstLeaf (p : Page) : Type 0 where
  pub page : IsPage p
  pub layout : p.layout ≡ Two
  pub block : p.block ≡ 1
  pub kind : HasEntries p.items
  pub empty : entries_of p.items ≡ []
  pub state : p.state ≡ Live
  pub whole : p.split ≡ false
  pub left : p.left ≡ None
  pub right : p.right ≡ None
  pub high : p.high ≡ None
  pub cycle : p.cycle ≡ 0

-- the bytes of each block from there to there are zeros
abbrev pub AreZero : Format → ℕ → ℕ → List ℕ → Type 0
AreZero format from to file = (block : ℕ) → from ≤ block → block < to
    → Has (place format block) (replicate 4096 0) file

-- the pages of an empty index, and zeros in all other blocks
pub record HasPages (format : Format) (file : List ℕ) : Type 0 where
  pub meta : Page
  pub is_meta : IsFirstMeta meta
  pub leaf : Page
  pub is_leaf : IsFirstLeaf leaf
  pub has_meta : Has (place format 0) (page_bytes meta) file
  pub has_leaf : Has (place format 1) (page_bytes leaf) file
  pub unused : AreZero format 2 format.pages file

-- these pages and a closed log, and no crash changes them
pub record HasBody (format : Format) (m : DiskMoment) : Type 0 where
  pub pages : HasPages format m.seen
  pub gate : OnDisk log_start (0 ∷ []) m
  pub firm : (i : ℕ) → log_start ≤ i → m.loose i ≡ false

-- a crash may leave any bytes in place of the superblock
abbrev pub IsFrontLoose : DiskMoment → Type 0
IsFrontLoose m = (i : ℕ) → i < log_start → m.loose i ≡ true

-- nothing but the superblock's bytes has changed: they are being written, or these stand there
pub record WritesFront (bytes : List ℕ) (old m : DiskMoment) : Type 0 where
  pub only : ChangesOnly 0 log_start old m
  pub either : IsFrontLoose m ⊎ OnDisk 0 bytes m

-- the superblock that was there is being written over, and nothing else has changed
pub record IsClearing (old m : DiskMoment) : Type 0 where
  pub front : IsFrontLoose m
  pub only : ChangesOnly 0 log_start old m

-- no image that a crash leaves begins as an index does
abbrev pub CrashesToNoMagic : DiskMoment → Type 0
CrashesToNoMagic m = (image : List ℕ) → MayCrashTo m image → take 8 image ≢ magic

-- all of the new index stands except for its superblock, which is being written, or stands too
pub record IsFinishing (format : Format) (m : DiskMoment) : Type 0 where
  pub body : HasBody format m
  pub either : IsFrontLoose m ⊎ OnDisk 0 (superblock format) m

-- a moment while an index is made: what was there loses its superblock, alone; or no crash leaves an index;
-- or the new one gets its superblock, last
abbrev pub IsMaking : Format → DiskMoment → DiskMoment → Type 0
IsMaking format old m = IsClearing old m ⊎ CrashesToNoMagic m ⊎ IsFinishing format m

-- an empty index, which no crash changes
pub record IsEmptyIndex (format : Format) (m : DiskMoment) : Type 0 where
  pub superblock : OnDisk 0 (superblock format) m
  pub body : HasBody format m

-- whatever a crash leaves is an index of two pages: the metapage and the leaf of an empty one
pub record CrashesToEmpty (format : Format) (m : DiskMoment) : Type 0 where
  pub meta : Page
  pub is_meta : IsFirstMeta meta
  pub leaf : Page
  pub is_leaf : IsFirstLeaf leaf
  pub leaves : (image : List ℕ) → MayCrashTo m image → HasIndex format (meta ∷ leaf ∷ []) image

-- it is done: the limits are in their ranges, the device is long enough, and no call of it failed; or it is
-- refused, and nothing is changed: for bad limits, or else for a device that is too short; or it is refused
-- because a call of the device failed, once
abbrev pub CreateEnds : {T : Type 0} → Format → Result T Fault → Trace → Trace → ℕ → ℕ → Type 0
CreateEnds format result old new failed fails = MatchResult result
    (λ _. AreLimits format × (needed_length format ≤ length old.now.seen) × (fails ≡ failed))
    (λ e. ((e ≡ BadLimits) × (AreLimits format → ⊥) × (new ≡ old) × (fails ≡ failed))
    ⊎ ((e ≡ DeviceTooSmall) × AreLimits format × (length old.now.seen < needed_length format)
    × (new ≡ old) × (fails ≡ failed))
    ⊎ ((e ≡ Io) × (fails ≡ suc failed)))
