-- What is held while frames are taken for other pages, and why none can be had.
use Rattle.std.specs.Prelude.{◌≡◌, ◌⊎◌, ℕ, ◌<◌, ◌≤◌, ◌/◌, Bool, true, false, Some, None, IsSome, List, ◌∷◌, ◌++◌, length, slice_get, All}
use Rattle.index_model.specs.declared.fault.Fault.{Fault}
use Rattle.index_model.specs.declared.fault.Fault.TheVariants.{Io, Stopped, NoFrame, PageDamaged}
use Rattle.device.specs.declared.device.Device.{Ghosts}
use Rattle.buffer_pool.specs.Choices.{count_distinct}
use Rattle.buffer_pool.specs.Frames.{has_block}
use Rattle.buffer_pool.specs.Pools.{most_of, frame_of, act_of, changed_of, IsWritten}
use Rattle.buffer_pool.specs.declared.pool.Pool.{Pool}
use Rattle.page_action.specs.Frames.{FrameCosts, TakesFrame, TakesFrames}
use Rattle.page_store.specs.Logged.{held_of, backing_of, memory_in}
use Rattle.page_store.specs.declared.logged_pages.LoggedPages.{LoggedPages}

-- which of the pinned pages was held, is held still
pub record SameFrames (pinned : List ℕ) (old new : Pool) : Type 0 where
  pub most : most_of new ≡ most_of old
  pub kept : (block : ℕ) → has_block pinned block ≡ true → IsSome (frame_of old block)
      → IsSome (frame_of new block)

-- The changed page at this place of the order was written, which isn't pinned, and whose acts were durable
-- already.
pub record IsWrittenNext (pinned : List ℕ) (durable place : ℕ) (old new : Pool) : Type 0 where
  pub block : ℕ
  pub at : slice_get (changed_of old) place ≡ Some block
  pub unpinned : has_block pinned block ≡ false
  pub early : act_of old block ≤ durable
  pub written : IsWritten old new place
  pub others : (b : ℕ) → has_block (changed_of new) b ≡ true → act_of new b ≡ act_of old b

-- Some changed pages from this place of their order on were written, of which none is pinned, and whose acts
-- were durable already: at most a quarter of what there are frames.
pub record AreWrittenAhead (pinned : List ℕ) (durable place : ℕ) (old new : Pool) : Type 0 where
  pub front : List ℕ
  pub more : List ℕ
  pub rest : List ℕ
  pub passed : length front ≡ place
  pub was : changed_of old ≡ front ++ (more ++ rest)
  pub left : changed_of new ≡ front ++ rest
  pub few : length more ≤ most_of old / 4
  pub each : All (λ b. (has_block pinned b ≡ false) × (act_of old b ≤ durable)) more
  pub others : (b : ℕ) → has_block (changed_of new) b ≡ true → act_of new b ≡ act_of old b

module _ {D : Type 0} (g : Ghosts D) where
  -- what a frame costs, while the pages of these blocks are pinned
  abbrev pub CostsFrame : List ℕ → LoggedPages D g → LoggedPages D g → Type 0
  CostsFrame pinned old new =
      FrameCosts (most_of old.pool) pinned (memory_in old.pool) (memory_in new.pool)
      (backing_of (held_of g old)) (backing_of (held_of g new))

  -- the page of this block is brought into memory
  abbrev pub GetsFrame : List ℕ → ℕ → LoggedPages D g → LoggedPages D g → Type 0
  GetsFrame pinned block old new =
      TakesFrame (most_of old.pool) pinned block (memory_in old.pool) (memory_in new.pool)
      (backing_of (held_of g old)) (backing_of (held_of g new))

  -- the pages of these blocks are, one after the other
  abbrev pub GetFrames : List ℕ → List ℕ → LoggedPages D g → LoggedPages D g → Type 0
  GetFrames pinned blocks old new =
      TakesFrames (most_of old.pool) pinned blocks (memory_in old.pool) (memory_in new.pool)
      (backing_of (held_of g old)) (backing_of (held_of g new))

-- the pinned blocks with one that isn't held are more than the frames
abbrev pub AreTooMany : Pool → List ℕ → Type 0
AreTooMany pool pinned =
    (block : ℕ) → frame_of pool block ≡ None → most_of pool < count_distinct (block ∷ pinned)

-- a changed page could not be written: a device call failed, or the log had failed before
abbrev pub WritingFails : Bool → ℕ → ℕ → Fault → Type 0
WritingFails stopped old new fault =
    ((fault ≡ Io) × (old < new)) ⊎ ((fault ≡ Stopped) × (stopped ≡ true))

-- no frame can be had for another page: all are pinned, or a changed page could not be written before
abbrev pub FrameFails : Pool → List ℕ → Bool → ℕ → ℕ → Fault → Type 0
FrameFails pool pinned stopped old new fault =
    ((fault ≡ NoFrame) × AreTooMany pool pinned) ⊎ WritingFails stopped old new fault

-- there are fewer frames than these blocks, or a device call failed, or the log had failed before
abbrev pub TakingFails : Pool → List ℕ → Bool → ℕ → ℕ → Fault → Type 0
TakingFails pool blocks stopped old new fault =
    ((fault ≡ NoFrame) × (most_of pool < count_distinct blocks)) ⊎ WritingFails stopped old new fault

-- ... or the page isn't one of the format, which a device that keeps its model doesn't show
abbrev pub FetchFails : Pool → List ℕ → Bool → ℕ → ℕ → ℕ → Bool → Fault → Type 0
FetchFails pool pinned stopped old new block honest fault =
    TakingFails pool (block ∷ pinned) stopped old new fault
    ⊎ ((fault ≡ PageDamaged block) × (honest ≡ false))
