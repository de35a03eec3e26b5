-- What a pool holds, and what was changed of it.
use Rattle.std.specs.Prelude.{◌≡◌, ◌≢◌, ℕ, suc, max, ◌<◌, ◌≤◌, true, false, nat_lt, if◌then◌else◌, Option, Some, None, IsSome, is_some, List, [], ◌∷◌, ◌++◌, length, take, drop, remove, slice_get, slice_index, slice_set}
use Rattle.std.specs.Option.{option_and_then}
use Rattle.page_codec.specs.declared.page.Page.{Page}
use Rattle.buffer_pool.specs.Frames.{blocks_in, has_block, BlocksAreApart, frame_in, act_in}
use Rattle.buffer_pool.specs.Orders.{waiting_in}
use Rattle.buffer_pool.specs.declared.pool.Pool.{Pool}

-- how many pages are held at most
unfoldable pub most_of : Pool → ℕ
most_of pool = pool.most

-- how many pages are held
unfoldable pub pool_count : Pool → ℕ
pool_count pool = length pool.pages.items

-- pages of the blocks below this number may be held
unfoldable pub reach_of : Pool → ℕ
reach_of pool = length pool.places.items

-- the blocks of the held pages, frame by frame
unfoldable pub pool_blocks : Pool → List ℕ
pool_blocks pool = blocks_in pool.pages.items

-- the page in the frame, if one is
unfoldable pub page_at : Pool → ℕ → Option Page
page_at pool at = slice_get pool.pages.items at

-- the frame that holds the block, if one does
unfoldable pub frame_of : Pool → ℕ → Option ℕ
frame_of pool block = frame_in (blocks_in pool.pages.items) block

-- the page that is held of the block, if one is
unfoldable pub held_page : Pool → ℕ → Option Page
held_page pool block =
    option_and_then (slice_get pool.pages.items) (frame_in (blocks_in pool.pages.items) block)

-- the act that changed the held page of the block last; 0 if it is as it was last read or written, or
-- isn't held
unfoldable pub act_of : Pool → ℕ → ℕ
act_of pool block = act_in (blocks_in pool.pages.items) pool.acts.items block

-- the blocks of the changed pages, in order of first change since they were written last
unfoldable pub changed_of : Pool → List ℕ
changed_of pool = waiting_in pool.changed

-- the same pages in the same frames
pub record HasSamePages (old new : Pool) : Type 0 where
  pub most : most_of new ≡ most_of old
  pub reach : reach_of new ≡ reach_of old
  pub count : pool_count new ≡ pool_count old
  pub blocks : pool_blocks new ≡ pool_blocks old
  pub frames : (at : ℕ) → page_at new at ≡ page_at old at
  pub places : (block : ℕ) → frame_of new block ≡ frame_of old block
  pub held : (block : ℕ) → held_page new block ≡ held_page old block

-- the same pages are changed, by the same acts, in the same order
pub record HasSameChanges (old new : Pool) : Type 0 where
  pub order : changed_of new ≡ changed_of old
  pub acts : (block : ℕ) → act_of new block ≡ act_of old block

-- the frame is the next unused one, or has a page that isn't changed
pub record CanBeTaken (pool : Pool) (at : ℕ) : Type 0 where
  pub next : at ≤ pool_count pool
  pub within : at < most_of pool
  pub clean : (block : ℕ) → 0 < act_of pool block → frame_of pool block ≢ Some at

-- the page came into the frame, for the one that was there, if one was
pub record IsPut (old new : Pool) (at : ℕ) (page : Page) : Type 0 where
  pub most : most_of new ≡ most_of old
  pub reach : reach_of new ≡ reach_of old
  pub count : pool_count new ≡ max (pool_count old) (suc at)
  pub over : at < pool_count old → pool_blocks new ≡ slice_set (pool_blocks old) at page.block
  pub added : at ≡ pool_count old → pool_blocks new ≡ pool_blocks old ++ page.block ∷ []
  pub frame : frame_of new page.block ≡ Some at
  pub there : page_at new at ≡ Some page
  pub held : held_page new page.block ≡ Some page
  pub gone : (block : ℕ) → frame_of old block ≡ Some at → held_page new block ≡ None
  pub frames : (k : ℕ) → k ≢ at → page_at new k ≡ page_at old k
  pub places : (block : ℕ) → block ≢ page.block → frame_of old block ≢ Some at
      → frame_of new block ≡ frame_of old block
  pub others : (block : ℕ) → block ≢ page.block → frame_of old block ≢ Some at
      → held_page new block ≡ held_page old block
  pub was : (block : ℕ) (other : Page) → block ≢ page.block → held_page new block ≡ Some other
      → held_page old block ≡ Some other
  pub kept : (block : ℕ) → 0 < act_of old block → held_page new block ≡ held_page old block
  pub changes : HasSameChanges old new

-- the held page was changed by this act; its block comes last in the order, unless it stood there
pub record IsChanged (old new : Pool) (page : Page) (act : ℕ) : Type 0 where
  pub most : most_of new ≡ most_of old
  pub reach : reach_of new ≡ reach_of old
  pub count : pool_count new ≡ pool_count old
  pub places : (block : ℕ) → frame_of new block ≡ frame_of old block
  pub held : held_page new page.block ≡ Some page
  pub others : (block : ℕ) → block ≢ page.block → held_page new block ≡ held_page old block
  pub changed : act_of new page.block ≡ act
  pub acts : (block : ℕ) → block ≢ page.block → act_of new block ≡ act_of old block
  pub order : changed_of new ≡ (if has_block (changed_of old) page.block then changed_of old
      else changed_of old ++ page.block ∷ [])

-- the page at this place of the order was written
pub record IsWritten (old new : Pool) (place : ℕ) : Type 0 where
  pub pages : HasSamePages old new
  pub order : changed_of new ≡ remove (changed_of old) place
  pub written : act_of new (slice_index (changed_of old) place) ≡ 0
  pub others : (block : ℕ) → block ≢ slice_index (changed_of old) place
      → act_of new block ≡ act_of old block

-- the first `count` pages of the order were written
pub record AreWritten (old new : Pool) (count : ℕ) : Type 0 where
  pub pages : HasSamePages old new
  pub order : changed_of new ≡ drop count (changed_of old)
  pub written : (block : ℕ) → has_block (take count (changed_of old)) block ≡ true
      → act_of new block ≡ 0
  pub others : (block : ℕ) → has_block (take count (changed_of old)) block ≡ false
      → act_of new block ≡ act_of old block

-- what is true of every pool
pub record IsPool (pool : Pool) : Type 0 where
  pub few : pool_count pool ≤ most_of pool
  pub count : length (pool_blocks pool) ≡ pool_count pool
  pub apart : BlocksAreApart (pool_blocks pool)
  pub own : (at : ℕ) (page : Page) → page_at pool at ≡ Some page → frame_of pool page.block ≡ Some at
  pub in_use : (block at : ℕ) → frame_of pool block ≡ Some at → at < pool_count pool
  pub held : (block at : ℕ) → frame_of pool block ≡ Some at → held_page pool block ≡ page_at pool at
  pub absent : (block : ℕ) → frame_of pool block ≡ None → held_page pool block ≡ None
  pub same : (block : ℕ) (page : Page) → held_page pool block ≡ Some page → page.block ≡ block
  pub within : (block : ℕ) (page : Page) → held_page pool block ≡ Some page → block < reach_of pool
  pub among : (block : ℕ) (page : Page) → held_page pool block ≡ Some page
      → has_block (pool_blocks pool) block ≡ true
  pub frames : (at : ℕ) → at < pool_count pool → frame_of pool (slice_index (pool_blocks pool) at) ≡ Some at
  pub there : (block : ℕ) → has_block (pool_blocks pool) block ≡ is_some (frame_of pool block)
  pub changed : (block : ℕ) → has_block (changed_of pool) block ≡ nat_lt 0 (act_of pool block)
  pub kept : (block : ℕ) → 0 < act_of pool block → IsSome (held_page pool block)
  pub once : BlocksAreApart (changed_of pool)
