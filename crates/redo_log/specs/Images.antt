-- Images of pages in order, and which is a block's last.
use Rattle.std.specs.Prelude.{◌≡◌, ℕ, ◌==◌, if◌then◌else◌, Option, Some, None, List, [], ◌∷◌, ◌++◌}
use Rattle.page_codec.specs.declared.page.Page.{Page}
use Rattle.page_codec.specs.Spelling.{page_bytes}

-- the image, if it is of this block
abbrev pub if_of : ℕ → Page → Option Page
if_of block p = if p.block == block then Some p else None

-- the later one, if there is one
abbrev pub later_of : Option Page → Option Page → Option Page
later_of early None = early
later_of early (Some late) = Some late

-- the last image of the block among these
abbrev pub last_image : List Page → ℕ → Option Page
last_image [] block = None
last_image (p ∷ ps) block = later_of (if_of block p) (last_image ps block)

-- applied in order, the two lists give each block the same image, or none
pub record SameImages (xs ys : List Page) : Type 0 where
  pub each : (block : ℕ) → last_image xs block ≡ last_image ys block

-- the bytes of these images, one after the other
abbrev pub images_bytes : List Page → List ℕ
images_bytes [] = []
images_bytes (p ∷ ps) = page_bytes p ++ images_bytes ps

-- the images of several actions or groups, in order
abbrev pub images_of : List (List Page) → List Page
images_of [] = []
images_of (group ∷ groups) = group ++ images_of groups
