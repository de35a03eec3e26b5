-- Where the parts of an index lie on a device: the superblock, the log, and after it the pages.
use Rattle.std.specs.Prelude.{ℕ, ◌+◌, ◌*◌, Bool, true, false, List, [], ◌∷◌, ◌++◌, replicate}
use Rattle.std.specs.Int.{w32, to_le_bytes}
use Rattle.index_model.specs.declared.format.Format.{Format}
use Rattle.index_model.specs.declared.layout.Layout.{Layout}
use Rattle.index_model.specs.declared.layout.Layout.TheVariants.{One, Two}

-- the bytes that an index begins with: `BLINKIDX`
abbrev pub magic : List ℕ
magic = 66 ∷ 76 ∷ 73 ∷ 78 ∷ 75 ∷ 73 ∷ 68 ∷ 88 ∷ []

-- the number of a layout, as a superblock has it
abbrev pub layout_number : Layout → ℕ
layout_number One = 1
layout_number Two = 2

-- the number of an index that is unique, and of one that isn't
abbrev pub unique_number : Bool → ℕ
unique_number true = 1
unique_number false = 0

-- the first 4,096 bytes: `BLINKIDX`, the layout, the sizes, whether the index is unique, zeros
unfoldable pub superblock : Format → List ℕ
superblock format =
    magic
    ++ to_le_bytes w32 (layout_number format.layout) ++ to_le_bytes w32 format.items ++ to_le_bytes w32 format.pages
    ++ to_le_bytes w32 format.log_bytes ++ to_le_bytes w32 (unique_number format.unique) ++ replicate 4068 0

-- where the log begins: after the superblock
abbrev pub log_start : ℕ
log_start = 4096

-- where it ends
abbrev pub log_end : Format → ℕ
log_end format = log_start + format.log_bytes

-- where the page of a block lies
abbrev pub place : Format → ℕ → ℕ
place format block = log_end format + 4096 * block

-- how many bytes an index takes: up to the end of its last page
abbrev pub needed_length : Format → ℕ
needed_length format = place format format.pages
