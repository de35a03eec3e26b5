-- The blocks of images, and lists that have one image for each block.
use Rattle.std.specs.Prelude.{◌≡◌, ℕ, suc, ◌+◌, ◌*◌, ◌<◌, ◌≤◌, ◌==◌, ◌||◌, Bool, false, if◌then◌else◌, List, [], ◌∷◌, ◌++◌, length, take, drop}
use Rattle.std.specs.List.{AllByRecursion}
use Rattle.index_model.specs.declared.format.Format.{Format}
use Rattle.page_codec.specs.declared.page.Page.{Page}
use Rattle.redo_log.specs.Images.{images_bytes}
use Rattle.redo_log.specs.Groups.{AreImages}

-- the blocks of these images, in order
abbrev pub image_blocks : List Page → List ℕ
image_blocks [] = []
image_blocks (p ∷ ps) = p.block ∷ image_blocks ps

-- the block is one of these
abbrev pub is_among_blocks : List ℕ → ℕ → Bool
is_among_blocks [] block = false
is_among_blocks (b ∷ blocks) block = (b == block) || is_among_blocks blocks block

-- these blocks, and after them this one if it isn't among them
abbrev pub with_block : List ℕ → ℕ → List ℕ
with_block blocks block = if is_among_blocks blocks block then blocks else blocks ++ block ∷ []

-- these blocks, and after them those of the images that aren't among them, each once
abbrev pub with_blocks : List ℕ → List Page → List ℕ
with_blocks blocks [] = blocks
with_blocks blocks (p ∷ ps) = with_blocks (with_block blocks p.block) ps

-- how many blocks of these images aren't among those, each counted once
abbrev pub new_count : List ℕ → List Page → ℕ
new_count blocks [] = 0
new_count blocks (p ∷ ps) =
    if is_among_blocks blocks p.block || is_among_blocks (image_blocks ps) p.block
    then new_count blocks ps else suc (new_count blocks ps)

-- each of them is of a block below this number
abbrev pub AreInside : ℕ → List Page → Type 0
AreInside pages ps = AllByRecursion (λ p. p.block < pages) ps

-- these images, with this one in the place of its block's, or after them if there is none
abbrev pub with_image : List Page → Page → List Page
with_image [] p = p ∷ []
with_image (q ∷ qs) p = if q.block == p.block then p ∷ qs else q ∷ with_image qs p

-- these images, with those taken in so, one after the other
abbrev pub with_images : List Page → List Page → List Page
with_images laid [] = laid
with_images laid (p ∷ ps) = with_images (with_image laid p) ps

-- the list is these images, one of each of the blocks
pub record AreOfBlocks (format : Format) (order : List ℕ) (list kept : List Page) : Type 0 where
  pub counted : length kept ≡ length order
  pub images : AreImages format kept
  pub blocks : image_blocks kept ≡ order
  pub same : list ≡ kept

-- the first `count` of these images stand in the buffer after the room for their number
abbrev pub AreLaid : ℕ → List Page → List ℕ → Type 0
AreLaid count images buffer = take (4096 * count) (drop 4 buffer) ≡ images_bytes (take count images)

-- if there is one, the buffer has room for their number and for so many images, and a byte behind them
abbrev pub ReachesPast : ℕ → List ℕ → Type 0
ReachesPast count buffer = 0 < count → 5 + 4096 * count ≤ length buffer
