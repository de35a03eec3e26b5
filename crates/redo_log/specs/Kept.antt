-- What a log stands for, at a moment of its device and after a crash.
use Rattle.std.specs.Prelude.{◌≡◌, ◌≢◌, ◌⊎◌, ℕ, suc, Result, MatchResult, ◌+◌, ◌-◌, ◌*◌, ◌^◌, ◌≤◌, Bool, false, true, List, [], ◌∷◌, ◌++◌, length, take, drop}
use Rattle.device.specs.Disk.{DiskMoment, Trace, MayCrashTo}
use Rattle.device.specs.Moments.{AtEachMoment}
use Rattle.device.specs.Places.{Has, OnDisk, ChangesOnly, IsUntouched}
use Rattle.page_codec.specs.Places.{log_start}
use Rattle.index_model.specs.declared.fault.Fault.{Fault}
use Rattle.index_model.specs.declared.fault.Fault.TheVariants.{Io, Stopped}
use Rattle.index_model.specs.declared.format.Format.{Format}
use Rattle.page_codec.specs.declared.page.Page.{Page}
use Rattle.redo_log.specs.Images.{SameImages, images_of}
use Rattle.redo_log.specs.Groups.{AreGroups, IsGroup, body, spelled_groups, SpellsGroups, log_range}
use Rattle.redo_log.specs.Blocks.{AreOfBlocks}
use Rattle.redo_log.specs.declared.log.Log.{Log}

-- the sizes that it was made with
abbrev pub format_of : Log → Format
format_of log = log.format

-- a write or sync of it failed before
abbrev pub is_stopped : Log → Bool
is_stopped log = log.stopped

-- how many actions were appended since it was opened
abbrev pub actions_of : Log → ℕ
actions_of log = log.actions

-- the blocks whose images wait for a force, in the order of their images
abbrev pub waiting_blocks : Log → List ℕ
waiting_blocks log = log.waiting.blocks.items

-- these images, in this order
abbrev pub waiting_images : Log → List Page
waiting_images log = log.images.value

-- how many images wait for a force
abbrev pub waiting_count : Log → ℕ
waiting_count log = length (waiting_blocks log)

-- how many of these are laid out for a force, from the first one on
abbrev pub laid_count : Log → ℕ
laid_count log = log.laid

-- all are
abbrev pub IsLaid : Log → Type 0
IsLaid log = laid_count log ≡ waiting_count log

-- the group that waits stands on the device after its gate, and nothing was appended since
abbrev pub is_written : Log → Bool
is_written log = log.written

-- the gate after its groups may be open, and a group stands after it that no sync has let in
abbrev pub is_ajar : Log → Bool
is_ajar log = log.ajar

-- where its open groups end, in its range
abbrev pub groups_end : Log → ℕ
groups_end log = log.at

-- where the group that waits would end with `n` images more, the closed gate after it included
abbrev pub end_with : Log → ℕ → ℕ
end_with log n = log.at + (6 + 4096 * (waiting_count log + n))

-- n images more would fit
abbrev pub ImagesFit : Log → ℕ → Type 0
ImagesFit log n = end_with log n ≤ log.format.log_bytes

-- it is stopped, or the greatest number was given
abbrev pub TakesNoMore : Log → Type 0
TakesNoMore log = (is_stopped log ≡ true) ⊎ (actions_of log ≡ 2 ^ 64 - 1)

-- it has the same sizes and the same number of actions
pub record SameLog (old new : Log) : Type 0 where
  pub format : format_of new ≡ format_of old
  pub actions : actions_of new ≡ actions_of old

-- it is as it was, but for how much is laid out for a force
pub record WaitsAlike (old new : Log) : Type 0 where
  pub same : SameLog old new
  pub stopped : is_stopped new ≡ is_stopped old
  pub written : is_written new ≡ is_written old
  pub ajar : is_ajar new ≡ is_ajar old
  pub end : groups_end new ≡ groups_end old
  pub blocks : waiting_blocks new ≡ waiting_blocks old
  pub images : waiting_images new ≡ waiting_images old

-- refused with Io if the device failed once in this call, and with Stopped on a log that was
-- stopped; nothing else fails
abbrev pub IoOrStopped : {T : Type 0} → Result T Fault → Bool → ℕ → ℕ → Type 0
IoOrStopped result was_stopped old new = MatchResult result (λ _. new ≡ old)
    (λ e. ((e ≡ Io) × (new ≡ suc old)) ⊎ ((e ≡ Stopped) × (was_stopped ≡ true) × (new ≡ old)))

-- its groups stand on the disk, and after them a gate that isn't 1
pub record IsSettled (format : Format) (start at : ℕ) (groups : List (List Page)) (m : DiskMoment)
    : Type 0 where
  pub good : AreGroups format groups
  pub end : at ≡ length (spelled_groups groups)
  pub gate : ℕ
  pub closed : gate ≢ 1
  pub on_disk : OnDisk start (spelled_groups groups ++ gate ∷ []) m

-- Its groups stand on the disk. A group stands after them, and no crash changes that. The gate between may
-- be open or not.
pub record IsAjar (format : Format) (start at : ℕ) (groups : List (List Page)) (group : List Page) (m : DiskMoment)
    : Type 0 where
  pub good : AreGroups format groups
  pub one : IsGroup format group
  pub room : at + (6 + 4096 * length group) ≤ format.log_bytes
  pub end : at ≡ length (spelled_groups groups)
  pub front : OnDisk start (spelled_groups groups) m
  pub after : OnDisk (start + at + 1) (body group ++ 0 ∷ []) m

-- these images wait, one of each block that waits
abbrev pub Waits : Log → List Page → Type 0
Waits log waiting = AreOfBlocks log.format (waiting_blocks log) (waiting_images log) waiting

-- A group stands after a gate that may be open. Its images and those of the groups are the last ones of a
-- part of the actions, which has every one that was forced. If nothing was appended since, it is all that
-- waits, and a read finds its gate open.
pub record MayBeLetIn (log : Log) (m : DiskMoment) (acts : List (List Page)) (forced : ℕ) (groups : List (List Page)) (waiting : List Page)
    : Type 0 where
  pub group : List Page
  pub ajar : IsAjar log.format log_start log.at groups group m
  pub part : ℕ
  pub from : forced ≤ part
  pub to : part ≤ length acts
  pub same : SameImages (images_of (groups ++ group ∷ [])) (images_of (take part acts))
  pub whole : is_written log ≡ true → (group ≡ waiting) × Has (log_start + log.at) (1 ∷ []) m.seen

-- the log keeps these actions, of which the first `forced` are forced: on the disk stand the last images of
-- these, and the last images of the others wait
pub record LogHolds (log : Log) (m : DiskMoment) (acts : List (List Page)) (forced : ℕ) : Type 0 where
  pub alive : log.stopped ≡ false
  pub groups : List (List Page)
  pub waiting : List Page
  pub gate : ((is_ajar log ≡ false) × IsSettled log.format log_start log.at groups m)
      ⊎ ((is_ajar log ≡ true) × MayBeLetIn log m acts forced groups waiting)
  pub written : is_written log ≡ true → Has (log_start + log.at + 1) (body waiting ++ 0 ∷ []) m.seen
  pub waits : Waits log waiting
  pub few : forced ≤ length acts
  pub durable : SameImages (images_of groups) (images_of (take forced acts))
  pub unforced : SameImages waiting (images_of (drop forced acts))

-- a replay of these bytes gives for each block the last image that these actions have of it, and nothing for
-- a block that they don't name
pub record Holds (format : Format) (image : List ℕ) (acts : List (List Page)) : Type 0 where
  pub groups : List (List Page)
  pub spells : SpellsGroups format (log_range format image) groups
  pub same : SameImages (images_of groups) (images_of acts)

-- the bytes hold some prefix of the actions with every forced one
pub record HoldsFirst (format : Format) (acts : List (List Page)) (forced : ℕ) (image : List ℕ)
    : Type 0 where
  pub part : ℕ
  pub from : forced ≤ part
  pub to : part ≤ length acts
  pub holds : Holds format image (take part acts)

-- a crash at this moment leaves some prefix of the actions with every forced one
abbrev pub Restarts : Format → List (List Page) → ℕ → DiskMoment → Type 0
Restarts format acts forced m =
    (image : List ℕ) → MayCrashTo m image → HoldsFirst format acts forced image

-- a crash at this moment leaves these actions, or nothing
abbrev pub RestartsOrEmpty : Format → List (List Page) → DiskMoment → Type 0
RestartsOrEmpty format acts m =
    (image : List ℕ) → MayCrashTo m image → Holds format image acts ⊎ Holds format image []

-- whatever actions the log kept, it keeps these images as one more, which isn't forced
abbrev pub AddsAction : List Page → Log → Log → Type 0
AddsAction images old new = (m : DiskMoment) (acts : List (List Page)) (forced : ℕ)
    → LogHolds old m acts forced → LogHolds new m (acts ++ images ∷ []) forced

-- whatever actions the log kept, it keeps them, and those are forced that were
abbrev pub KeepsActions : Log → DiskMoment → Log → DiskMoment → Type 0
KeepsActions old before new after = (acts : List (List Page)) (forced : ℕ)
    → LogHolds old before acts forced → LogHolds new after acts forced

-- whatever actions the log kept, all of them are forced now
abbrev pub ForcesAll : Log → DiskMoment → Log → DiskMoment → Type 0
ForcesAll old before new after = (acts : List (List Page)) (forced : ℕ)
    → LogHolds old before acts forced → LogHolds new after acts (length acts)

-- whatever actions the log kept, it keeps those that weren't forced, and none of them is forced now
abbrev pub ForgetsForced : Log → DiskMoment → Log → DiskMoment → Type 0
ForgetsForced old before new after = (acts : List (List Page)) (forced : ℕ)
    → LogHolds old before acts forced → LogHolds new after (drop forced acts) 0

-- a crash at each moment in between leaves a prefix of the actions that the log kept, which has
-- every one that was forced at the beginning
abbrev pub RestartsThroughout : Log → Trace → Trace → Type 0
RestartsThroughout log old new = (acts : List (List Page)) (forced : ℕ)
    → LogHolds log old.now acts forced → AtEachMoment (Restarts (format_of log) acts forced) old new

-- a crash at each moment in between leaves the forced actions that the log kept, or none
abbrev pub RestartsOrEmptyThroughout : Log → Trace → Trace → Type 0
RestartsOrEmptyThroughout log old new = (acts : List (List Page)) (forced : ℕ)
    → LogHolds log old.now acts forced
    → AtEachMoment (RestartsOrEmpty (format_of log) (take forced acts)) old new

-- at each moment in between nothing but the log's range has changed
abbrev pub ChangesItsRange : Format → Trace → Trace → Type 0
ChangesItsRange format old new = AtEachMoment (ChangesOnly log_start format.log_bytes old.now) old new

-- nothing in the log's range has changed, and no crash changes more of it
abbrev pub RangeIsUntouched : Format → DiskMoment → DiskMoment → Type 0
RangeIsUntouched format old new = IsUntouched log_start format.log_bytes old new

-- whatever actions the log keeps at one moment, it keeps at each at which its range is untouched
abbrev pub KeepsWhileUntouched : Log → Type 0
KeepsWhileUntouched log = (old new : DiskMoment) (acts : List (List Page)) (forced : ℕ)
    → RangeIsUntouched (format_of log) old new
    → LogHolds log old acts forced → LogHolds log new acts forced

-- whatever actions the log keeps, a crash leaves a prefix of them with every forced one
abbrev pub WhatItKeepsRestarts : Log → Type 0
WhatItKeepsRestarts log = (m : DiskMoment) (acts : List (List Page)) (forced : ℕ)
    → LogHolds log m acts forced → Restarts (format_of log) acts forced m
