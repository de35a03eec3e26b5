-- Which frame holds the page of a block, and which pages were changed, over plain lists.
use Rattle.std.specs.Prelude.{◌≡◌, ◌≢◌, ℕ, suc, ◌<◌, ◌==◌, Bool, nat_lt, Option, List, length, map, slice_index, position, count_by, AllPairs}
use Rattle.std.specs.List.{list_any}
use Rattle.std.specs.Option.{option_map_or}
use Rattle.page_codec.specs.declared.page.Page.{Page}

-- the block of each page
abbrev pub blocks_in : List Page → List ℕ
blocks_in pages = map (λ page. page.block) pages

-- the block is one of these
abbrev pub has_block : List ℕ → ℕ → Bool
has_block blocks block = list_any (λ b. b == block) blocks

-- no block stands there twice
abbrev pub BlocksAreApart : List ℕ → Type 0
BlocksAreApart blocks = AllPairs (λ a b. a ≢ b) blocks

-- the frame that holds the block, if one does: these are the blocks, frame by frame
abbrev pub frame_in : List ℕ → ℕ → Option ℕ
frame_in blocks block = position (λ b. b == block) blocks

-- the act that changed the block's page last, by the acts of each frame; 0 if none did or no frame holds
-- it
abbrev pub act_in : List ℕ → List ℕ → ℕ → ℕ
act_in blocks acts block = option_map_or (slice_index acts) (frame_in blocks block) 0

-- for each block 0, or one more than the frame that holds it
pub record ArePlaces (places blocks : List ℕ) : Type 0 where
  pub told : (at : ℕ) → at < length blocks → slice_index places (slice_index blocks at) ≡ suc at
  pub within : (block at : ℕ) → slice_index places block ≡ suc at → at < length blocks
  pub same : (block at : ℕ) → slice_index places block ≡ suc at → slice_index blocks at ≡ block

-- these are the blocks that an act changed, each once
pub record AreChanged (changed blocks acts : List ℕ) : Type 0 where
  pub told : (block : ℕ) → has_block changed block ≡ nat_lt 0 (act_in blocks acts block)
  pub apart : BlocksAreApart changed
  pub counted : length changed ≡ count_by (nat_lt 0) acts
