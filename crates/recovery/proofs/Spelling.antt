-- The pieces of a superblock.
use Rattle.std.proofs.Common.{◌≡◌, inl, inr, ℕ, Bool, true, false, ◌-◌, ◌∙◌, List, [], ◌∷◌, ◌++◌, length, take, replicate, refl, ap, arith}
use Rattle.std.proofs.lemmas.Nat.{from_le_bytes-to_le_bytes_4}
use Rattle.index_model.specs.declared.layout.Layout.{Layout}
use Rattle.recovery.proofs.Imports.{w32, from_le_bytes, to_le_bytes, AreLimits, Format, One, Two, spelled_number, layout_of, is_unique, sizes_in, IsLayout}
use Rattle.page_codec.specs.Places.{layout_number, unique_number, magic, superblock}

-- the pieces of a superblock, one after the other
pub spelled : (format : Format) (whole out b1 b2 b3 b4 b5 b6 : List ℕ) (at : ℕ) → b1 ≡ 66 ∷ 76 ∷ 73 ∷ 78 ∷ 75 ∷ 73 ∷ 68 ∷ 88 ∷ []
    → b2 ≡ b1 ++ to_le_bytes w32 (layout_number format.layout) → b3 ≡ b2 ++ to_le_bytes w32 format.items → b4 ≡ b3 ++ to_le_bytes w32 format.pages
    → b5 ≡ b4 ++ to_le_bytes w32 format.log_bytes → b6 ≡ b5 ++ to_le_bytes w32 (unique_number format.unique) → at ≡ 28 → length out ≡ 4096
    → whole ≡ b6 ++ replicate (length out - at) 0 → whole ≡ superblock format
unfolding superblock
spelled format whole out b1 b2 b3 b4 b5 b6 at e1 e2 e3 e4 e5 e6 is long e = e ∙ rw (e6, e5, e4, e3, e2, e1, is, long) refl

-- the numbers of a superblock, as they are read
number_after : (layout : Layout) (rest : List ℕ) → spelled_number 8 (magic ++ (to_le_bytes w32 (layout_number layout) ++ rest)) ≡ layout_number layout
number_after One rest = refl
number_after Two rest = refl

layout_back : (layout : Layout) → layout_of (layout_number layout) ≡ layout
layout_back One = refl
layout_back Two = refl

pub is_layout : (layout : Layout) → IsLayout (layout_number layout)
is_layout One = inl refl
is_layout Two = inr refl

pub layout_spelled : (format : Format) → spelled_number 8 (superblock format) ≡ layout_number format.layout
unfolding superblock
layout_spelled format =
    number_after format.layout
    (to_le_bytes w32 format.items ++ (to_le_bytes w32 format.pages ++ (to_le_bytes w32 format.log_bytes ++ (to_le_bytes w32 (unique_number format.unique) ++ replicate 4068 0))))

unique_read : (unique : Bool) → from_le_bytes w32 (to_le_bytes w32 (unique_number unique)) ≡ unique_number unique
unique_read true = refl
unique_read false = refl

unique_back : (layout : Layout) (unique : Bool) → (unique ≡ true → layout ≡ Two) → is_unique layout (unique_number unique) ≡ unique
unique_back One false of_layout = refl
unique_back One true of_layout = let second = of_layout refl in cc
unique_back Two false of_layout = refl
unique_back Two true of_layout = refl

pub sizes_spelled : (format : Format) → AreLimits format → sizes_in (superblock format) ≡ format
unfolding superblock
sizes_spelled format are =
    let layout = ap layout_of (layout_spelled format) ∙ layout_back format.layout in
    let unique = ap (λ (l : Layout). is_unique l (spelled_number 24 (superblock format))) layout
    ∙ (ap (is_unique format.layout) (unique_read format.unique) ∙ unique_back format.layout format.unique are.of_layout) in
    let items = from_le_bytes-to_le_bytes_4 format.items (omega (arith, are.items_to)) in
    let pages = from_le_bytes-to_le_bytes_4 format.pages (omega (arith, are.pages_to)) in
    let log = from_le_bytes-to_le_bytes_4 format.log_bytes (omega (arith, are.log_to)) in
    ap (λ (l : Layout). record (sizes_in (superblock format)) { layout = l }) layout
    ∙ (ap (λ (u : Bool). record (sizes_in (superblock format)) { layout = format.layout; unique = u }) unique
    ∙ (ap (λ (n : ℕ). record (sizes_in (superblock format)) { layout = format.layout; unique = format.unique; items = n }) items
    ∙ (ap (λ (n : ℕ). record format { pages = n; log_bytes = spelled_number 20 (superblock format) }) pages
    ∙ ap (λ (n : ℕ). record format { log_bytes = n }) log)))

pub magic_spelled : (format : Format) → take 8 (superblock format) ≡ magic
unfolding superblock
magic_spelled format = refl

-- the layout and the sizes that were read are those of the superblock
pub sizes_read : (bytes : List ℕ) (format : Format) (layout : Layout) (unique : Bool) (items pages log : ℕ) → AreLimits format
    → bytes ≡ superblock format → layout ≡ layout_of (spelled_number 8 bytes) → unique ≡ is_unique layout (spelled_number 24 bytes)
    → items ≡ spelled_number 12 bytes → pages ≡ spelled_number 16 bytes → log ≡ spelled_number 20 bytes
    → record { layout = layout; unique = unique; items = items; pages = pages; log_bytes = log } ≡ format
sizes_read bytes format layout unique items pages log are is d u e f g =
    ap (λ (l : Layout). record { layout = l; unique = unique; items = items; pages = pages; log_bytes = log }) d
    ∙ (ap (λ (b : Bool). record (sizes_in bytes) { unique = b; items = items; pages = pages; log_bytes = log }) (u ∙ ap (λ (l : Layout). is_unique l (spelled_number 24 bytes)) d)
    ∙ (ap (λ (n : ℕ). record (sizes_in bytes) { items = n; pages = pages; log_bytes = log }) e
    ∙ (ap (λ (n : ℕ). record (sizes_in bytes) { pages = n; log_bytes = log }) f
    ∙ (ap (λ (n : ℕ). record (sizes_in bytes) { log_bytes = n }) g ∙ (ap sizes_in is ∙ sizes_spelled format are)))))
