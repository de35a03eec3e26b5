-- Which frame is taken for another page, or which page is written first.
use Rattle.std.specs.Prelude.{◌≡◌, ◌≢◌, ℕ, suc, ◌<◌, true, false, not, if◌then◌else◌, Some, None, List, [], ◌∷◌, slice_get, position, All}
use Rattle.buffer_pool.specs.Frames.{has_block}
use Rattle.buffer_pool.specs.Pools.{most_of, pool_count, pool_blocks, frame_of, act_of, changed_of, CanBeTaken}
use Rattle.buffer_pool.specs.declared.pool.Pool.{Pool}
use Rattle.buffer_pool.specs.declared.choice.Choice.{Choice}
use Rattle.buffer_pool.specs.declared.choice.Choice.TheVariants.{Free, Oldest, AllPinned}

-- the frame can be taken, and doesn't hold a pinned page
pub record IsFreeFrame (pool : Pool) (pinned : List ℕ) (at : ℕ) : Type 0 where
  pub taken : CanBeTaken pool at
  pub unpinned : (block : ℕ) → has_block pinned block ≡ true → frame_of pool block ≢ Some at

-- the frame is free; if some are unused, it is the next of those
pub record IsFreeFirst (pool : Pool) (pinned : List ℕ) (at : ℕ) : Type 0 where
  pub free : IsFreeFrame pool pinned at
  pub unused : pool_count pool < most_of pool → at ≡ pool_count pool

-- each clean page is pinned
abbrev pub AreCleanPinned : Pool → List ℕ → Type 0
AreCleanPinned pool pinned = All (λ b. act_of pool b ≡ 0 → has_block pinned b ≡ true) (pool_blocks pool)

-- no frame is free, and this block is the first of the changed ones that isn't pinned
pub record IsOldest (pool : Pool) (pinned : List ℕ) (place block act : ℕ) : Type 0 where
  pub full : pool_count pool ≡ most_of pool
  pub clean : AreCleanPinned pool pinned
  pub first : position (λ b. not (has_block pinned b)) (changed_of pool) ≡ Some place
  pub at : slice_get (changed_of pool) place ≡ Some block
  pub unpinned : has_block pinned block ≡ false
  pub changed : act ≡ act_of pool block

-- how many different blocks these are
abbrev pub count_distinct : List ℕ → ℕ
count_distinct [] = 0
count_distinct (b ∷ blocks) = if has_block blocks b then count_distinct blocks else suc (count_distinct blocks)

-- each frame holds a pinned page, so that the pinned blocks with one that isn't held are more than the frames
pub record AreAllPinned (pool : Pool) (pinned : List ℕ) : Type 0 where
  pub full : pool_count pool ≡ most_of pool
  pub every : All (λ b. has_block pinned b ≡ true) (pool_blocks pool)
  pub more : (block : ℕ) → frame_of pool block ≡ None → most_of pool < count_distinct (block ∷ pinned)

-- what is chosen while these blocks are pinned
abbrev pub IsChoice : Pool → List ℕ → Choice → Type 0
IsChoice pool pinned (Free at) = IsFreeFirst pool pinned at
IsChoice pool pinned (Oldest place block act) = IsOldest pool pinned place block act
IsChoice pool pinned AllPinned = AreAllPinned pool pinned
