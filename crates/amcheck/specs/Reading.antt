-- The pages of a store as a check has read them.
use Rattle.std.specs.Prelude.{◌≡◌, ℕ, zero, suc, ◌≤◌, true, false, None, List, [], ◌∷◌, ◌++◌, length, replicate, filter, take, drop, vec_capacity}
use Rattle.latch_table.specs.Holdings.{pinned_blocks}
use Rattle.page_codec.specs.declared.page.Page.{Page}
use Rattle.page_action.specs.Frames.{Memory, is_block_among, TakesFrames}
use Rattle.page_action.specs.States.{State, Backing}
use Rattle.page_action.specs.Stored.{AreStored}
use Rattle.amcheck.specs.Marks.{IsMet}
use Rattle.amcheck.specs.declared.reading.CheckRoom.{CheckRoom}

-- there is room to check `used` pages, and no block was seen or met
pub record RoomIsReady (room : CheckRoom) (used : ℕ) : Type 0 where
  pub met : IsMet room.walks.met used
  pub none : room.walks.met.blocks.items ≡ []
  pub seen : room.walks.seen.items ≡ replicate used false
  pub stops : used ≤ vec_capacity room.walks.stops
  pub chains : used ≤ vec_capacity room.chains
  pub no_stops : room.chains.items ≡ []
  pub places : room.places.items ≡ replicate used None
  pub linked : room.linked.items ≡ replicate used false

-- these were read, one for each block in use: pages as the format demands, and if the device kept its
-- model those of the store
pub record PagesAreRead (st : State) (backing : Backing) (pages : List Page) : Type 0 where
  pub count : length pages ≡ length st.pages
  pub stored : AreStored st.format 0 pages
  pub same : backing.honest ≡ true → pages ≡ st.pages

-- the blocks below this number, in order
abbrev pub blocks_below : ℕ → List ℕ
blocks_below zero = []
blocks_below (suc n) = blocks_below n ++ n ∷ []

-- each page in use was brought into memory once, in the order of blocks, at what a frame costs; nothing else
-- was written or forced
abbrev pub AreFetched : State → Memory → Memory → Backing → Backing → Type 0
AreFetched st m m' old new = TakesFrames st.frames (pinned_blocks st.table) (blocks_below (length st.pages)) m m' old new

-- these blocks without the first `count`, except for those of them that are pinned
abbrev pub without_first : List ℕ → ℕ → List ℕ → List ℕ
without_first pinned count blocks = filter (is_block_among pinned) (take count blocks) ++ drop count blocks

-- of the blocks that wait some first ones don't any more, except for pinned ones; the others wait in their
-- order
pub record IsRestBut (pinned rest blocks : List ℕ) : Type 0 where
  pub count : ℕ
  pub is : rest ≡ without_first pinned count blocks
