-- What the device and the pool have of the pages.
use Rattle.std.specs.Prelude.{◌≡◌, ◌⊎◌, ℕ, suc, ◌<◌, ◌≤◌, Bool, true, Some, is_some, List, Result, MatchResult, length, take, slice_get}
use Rattle.index_model.specs.declared.fault.Fault.{Fault}
use Rattle.index_model.specs.declared.fault.Fault.TheVariants.{Io, PageDamaged}
use Rattle.device.specs.Disk.{DiskMoment}
use Rattle.device.specs.Places.{Has, OnDisk}
use Rattle.buffer_pool.specs.Frames.{has_block}
use Rattle.buffer_pool.specs.Pools.{act_of, held_page, changed_of}
use Rattle.buffer_pool.specs.declared.pool.Pool.{Pool}
use Rattle.index_model.specs.declared.format.Format.{Format}
use Rattle.page_codec.specs.Spelling.{page_bytes}
use Rattle.page_codec.specs.declared.page.Page.{Page}
use Rattle.page_action.specs.Stored.{IsStored}
use Rattle.page_codec.specs.Places.{place}
use Rattle.redo_log.specs.Images.{last_image}

-- a read gives each of these pages at its place
abbrev pub AreSeen : Format → List Page → DiskMoment → Type 0
AreSeen format pages m = (block : ℕ) (page : Page) → slice_get pages block ≡ Some page
    → Has (place format block) (page_bytes page) m.seen

-- What the pool holds of these pages, after `acts` acts: changed pages as the acts have left them; and if the
-- device kept its model, each as it is, and the others at their places.
pub record HoldsPages (format : Format) (pages : List Page) (acts : ℕ) (pool : Pool) (honest : Bool)
    (m : DiskMoment) : Type 0 where
  pub few : (block : ℕ) → act_of pool block ≤ acts
  pub in_use : (block : ℕ) → 0 < act_of pool block → block < length pages
  pub stored : (block : ℕ) (page : Page) → block < length pages → held_page pool block ≡ Some page
      → IsStored format block page
  pub changed : (block : ℕ) (held page : Page) → 0 < act_of pool block
      → held_page pool block ≡ Some held → slice_get pages block ≡ Some page
      → page_bytes held ≡ page_bytes page
  pub held : honest ≡ true → (block : ℕ) (held page : Page) → held_page pool block ≡ Some held
      → slice_get pages block ≡ Some page → page_bytes held ≡ page_bytes page
  pub seen : honest ≡ true → (block : ℕ) (page : Page) → slice_get pages block ≡ Some page
      → act_of pool block ≡ 0 → Has (place format block) (page_bytes page) m.seen

-- What waits in the log is held: each block of these images was changed last by an act after the first
-- `durable` ones, and its page has the bytes of its last image.
pub record HoldsWaiting (images : List Page) (durable : ℕ) (pool : Pool) : Type 0 where
  pub acted : (block : ℕ) → is_some (last_image images block) ≡ true → durable < act_of pool block
  pub held : (block : ℕ) (held page : Page) → held_page pool block ≡ Some held
      → last_image images block ≡ Some page → page_bytes held ≡ page_bytes page

-- the first `count` of the changed pages stand at their places, as a read gives them
abbrev pub AreWrittenUpTo : Format → Pool → ℕ → DiskMoment → Type 0
AreWrittenUpTo format pool count m = (block : ℕ) (page : Page)
    → has_block (take count (changed_of pool)) block ≡ true → held_page pool block ≡ Some page
    → Has (place format block) (page_bytes page) m.seen

-- a read gave this page, or the device failed
abbrev pub GivesPage : {T : Type 0} → Page → Page → Result T Fault → Type 0
GivesPage page given result = MatchResult result (λ _. given ≡ page) (λ e. e ≡ Io)

-- a page isn't read: the device has failed, or no page stands there
abbrev pub ReadingFails : {T : Type 0} → ℕ → Result T Fault → ℕ → ℕ → Type 0
ReadingFails block result old new = MatchResult result (λ _. new ≡ old)
    (λ e. ((e ≡ Io) × (new ≡ suc old)) ⊎ ((e ≡ PageDamaged block) × (new ≡ old)))

-- no page is changed
abbrev pub IsClean : Pool → Type 0
IsClean pool = (block : ℕ) → act_of pool block ≡ 0

-- what a read gives, a crash leaves
abbrev pub IsAllFirm : DiskMoment → Type 0
IsAllFirm m = (at : ℕ) (bytes : List ℕ) → Has at bytes m.seen → OnDisk at bytes m
