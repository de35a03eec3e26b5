-- What it costs to bring a page into memory: which frame it gets, which changed pages are written for that,
-- and whether the log is forced.
use Rattle.std.specs.Prelude.{◌≡◌, ◌⊎◌, ℕ, suc, ◌<◌, ◌≤◌, ◌/◌, ◌==◌, Bool, true, false, List, [], ◌∷◌, ◌++◌, length, map, slice_index, slice_set, All}
use Rattle.std.specs.List.{list_any}
use Rattle.latch_table.specs.Holdings.{pinned_blocks}
use Rattle.page_codec.specs.declared.page.Page.{Page}
use Rattle.page_action.specs.Order.{with_changed}
use Rattle.page_action.specs.States.{State, Backing}

-- the pages that a store has in memory
pub record Memory : Type 0 where
  -- their blocks, frame by frame: as many as frames are in use
  pub held : List ℕ
  -- of each block the last act that changed its page and isn't written to its place, or 0
  pub unwritten : ℕ → ℕ

-- the block is one of these
abbrev pub is_block_among : List ℕ → ℕ → Bool
is_block_among blocks block = list_any (λ b. b == block) blocks

-- the log is as it was: it wasn't forced
pub record LogStays (old new : Backing) : Type 0 where
  pub durable : new.durable ≡ old.durable
  pub room : new.room ≡ old.room
  pub promised : new.promised ≡ old.promised
  pub stopped : new.stopped ≡ old.stopped
  pub waiting : new.waiting ≡ old.waiting

-- no page is written, and the log isn't forced
pub record CostsNothing (m m' : Memory) (old new : Backing) : Type 0 where
  pub log : LogStays old new
  pub changed : new.changed ≡ old.changed
  pub unwritten : (block : ℕ) → m'.unwritten block ≡ m.unwritten block

-- after the first ones of the order the next was written, and some right after it, of which none is pinned
-- and each is durable: at most a quarter of what there are frames
pub record AreWrittenAfter (frames : ℕ) (pinned front later : List ℕ) (m : Memory) (new : Backing) : Type 0 where
  pub more : List ℕ
  pub rest : List ℕ
  pub was : later ≡ more ++ rest
  pub left : new.changed ≡ front ++ rest
  pub few : length more ≤ frames / 4
  pub each : All (λ b. (is_block_among pinned b ≡ false) × (m.unwritten b ≤ new.durable)) more

-- No frame is free: all are in use, and each clean page is pinned. So the first changed page that isn't
-- pinned is written, and some after it; or none is, because a call of the device failed. The log is forced
-- for that first page alone, if its act isn't durable.
pub record IsWrittenFor (frames : ℕ) (pinned : List ℕ) (m m' : Memory) (old new : Backing) : Type 0 where
  pub full : length m.held ≡ frames
  pub clean : All (λ b. is_block_among old.changed b ≡ false → is_block_among pinned b ≡ true) m.held
  pub front : List ℕ
  pub block : ℕ
  pub later : List ℕ
  pub was : old.changed ≡ front ++ block ∷ later
  pub passed : All (λ b. is_block_among pinned b ≡ true) front
  pub unpinned : is_block_among pinned block ≡ false
  pub forced : m.unwritten block ≤ old.durable → LogStays old new
  pub left : (new.changed ≡ old.changed) ⊎ AreWrittenAfter frames pinned front later m new
  pub others : (b : ℕ) → is_block_among new.changed b ≡ true → m'.unwritten b ≡ m.unwritten b

-- what a frame costs: nothing if one is free; else changed pages are written for it
abbrev pub FrameCosts : ℕ → List ℕ → Memory → Memory → Backing → Backing → Type 0
FrameCosts frames pinned m m' old new = CostsNothing m m' old new ⊎ IsWrittenFor frames pinned m m' old new

-- all frames are in use, and the page takes that of a clean one that isn't pinned
pub record TakesOver (frames : ℕ) (pinned : List ℕ) (block : ℕ) (m m' : Memory) : Type 0 where
  pub full : length m.held ≡ frames
  pub at : ℕ
  pub within : at < frames
  pub unpinned : is_block_among pinned (slice_index m.held at) ≡ false
  pub clean : m'.unwritten (slice_index m.held at) ≡ 0
  pub held : m'.held ≡ slice_set m.held at block

-- the page takes the next unused frame, if one is unused
pub record TakesUnused (frames block : ℕ) (m m' : Memory) : Type 0 where
  pub unused : length m.held < frames
  pub held : m'.held ≡ m.held ++ block ∷ []

-- A page is brought into memory; or it isn't, because a call failed or no frame can be had. A page that is
-- there costs nothing; another takes an unused frame before that of another page, and costs what that frame
-- does.
pub record TakesFrame (frames : ℕ) (pinned : List ℕ) (block : ℕ) (m m' : Memory) (old new : Backing) : Type 0 where
  pub there : is_block_among m.held block ≡ true → (m' ≡ m) × (new ≡ old)
  pub cost : FrameCosts frames pinned m m' old new
  pub frame : (m'.held ≡ m.held) ⊎ (TakesUnused frames block m m' ⊎ TakesOver frames pinned block m m')

-- the pages of these blocks are brought into memory, one after the other, and nothing else is done
abbrev pub TakesFrames : ℕ → List ℕ → List ℕ → Memory → Memory → Backing → Backing → Type 0
TakesFrames frames pinned [] m m' old new = (m' ≡ m) × (new ≡ old)
TakesFrames frames pinned (block ∷ blocks) m m' old new = (mid : Memory) × (between : Backing)
    × TakesFrame frames pinned block m mid old between
    × TakesFrames frames pinned blocks mid m' between new

-- the blocks of these pages
abbrev pub blocks_of : List Page → List ℕ
blocks_of pages = map (λ page. page.block) pages

-- the pages of an act are brought into memory, while they and those that sessions have pinned stay
abbrev pub TakesActFrames : State → List Page → Memory → Memory → Backing → Backing → Type 0
TakesActFrames st pages m m' old new =
    TakesFrames st.frames (blocks_of pages ++ pinned_blocks st.table) (blocks_of pages) m m' old new

-- the images of these pages wait in the log, and the pages to be written, after those that did; nothing is
-- forced or written
pub record WaitAfter (pages : List Page) (old new : Backing) : Type 0 where
  pub changed : new.changed ≡ with_changed old.changed pages
  pub waiting : new.waiting ≡ with_changed old.waiting pages
  pub durable : new.durable ≡ old.durable

-- no page waited to be written, and none does: the act was made durable and written at once
pub record AreWrittenAtOnce (acts : ℕ) (old new : Backing) : Type 0 where
  pub none : old.changed ≡ []
  pub written : new.changed ≡ []
  pub forced : new.waiting ≡ []
  pub durable : new.durable ≡ suc acts

-- the pages of an act wait, in a store that defers its writes; in another they are written at once
abbrev pub AreKept : Bool → ℕ → List Page → Backing → Backing → Type 0
AreKept true acts pages old new = WaitAfter pages old new
AreKept false acts pages old new = AreWrittenAtOnce acts old new

-- the pages of an act are brought into memory, and then they wait, in a store that defers its writes
pub record ActsInMemory (defers : Bool) (st : State) (pages : List Page) (m : Memory) (old new : Backing) : Type 0 where
  pub taken : Memory
  pub between : Backing
  pub frames : TakesActFrames st pages m taken old between
  pub done : AreKept defers st.acts pages between new
