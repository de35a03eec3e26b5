-- The superblock of an index.
use Rattle.std.specs.Prelude.{◌≡◌, ◌≢◌, ◌⊎◌, ◌==◌, ℕ, if◌then◌else◌, Bool, false, List, take, drop}
use Rattle.std.specs.Int.{w32, from_le_bytes}
use Rattle.index_model.specs.Limits.{AreLimits}
use Rattle.index_model.specs.declared.fault.Fault.{Fault}
use Rattle.index_model.specs.declared.fault.Fault.TheVariants.{BadSuper, BadVersion, BadLimits}
use Rattle.index_model.specs.declared.format.Format.{Format}
use Rattle.index_model.specs.declared.layout.Layout.{Layout}
use Rattle.index_model.specs.declared.layout.Layout.TheVariants.{One, Two}
use Rattle.page_codec.specs.Places.{magic, superblock}

-- the number that stands there
abbrev pub spelled_number : ℕ → List ℕ → ℕ
spelled_number at bytes = from_le_bytes w32 (take 4 (drop at bytes))

-- the number is that of a layout
abbrev pub IsLayout : ℕ → Type 0
IsLayout number = (number ≡ 1) ⊎ (number ≡ 2)

-- which one it is
abbrev pub layout_of : ℕ → Layout
layout_of number = if number == 1 then One else Two

-- whether an index of this layout is unique by the number at 24: the first layout has no unique indexes
abbrev pub is_unique : Layout → ℕ → Bool
is_unique One number = false
is_unique Two number = number == 1

-- the layout and the sizes that stand there, and whether the index is unique
abbrev pub sizes_in : List ℕ → Format
sizes_in bytes = record {
  layout = layout_of (spelled_number 8 bytes);
  unique = is_unique (layout_of (spelled_number 8 bytes)) (spelled_number 24 bytes);
  items = spelled_number 12 bytes;
  pages = spelled_number 16 bytes;
  log_bytes = spelled_number 20 bytes;
}

-- the bytes are no superblock: they begin otherwise; or else their layout is none; or else the sizes are out
-- of their ranges; or else other bytes stand after them than a superblock has
abbrev pub IsNoSuperblock : List ℕ → Fault → Type 0
IsNoSuperblock bytes fault =
    ((fault ≡ BadSuper) × (take 8 bytes ≢ magic))
    ⊎ ((take 8 bytes ≡ magic) × (((fault ≡ BadVersion) × (IsLayout (spelled_number 8 bytes) → ⊥))
    ⊎ (IsLayout (spelled_number 8 bytes) × (((fault ≡ BadLimits) × (AreLimits (sizes_in bytes) → ⊥))
    ⊎ (AreLimits (sizes_in bytes) × (fault ≡ BadSuper) × (bytes ≢ superblock (sizes_in bytes)))))))
