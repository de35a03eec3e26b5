-- What a store keeps of each page, and which pages an act may change.
use Rattle.std.specs.Prelude.{◌≡◌, ◌≢◌, ◌⊎◌, ℕ, suc, ◌≤◌, ◌<◌, List, [], ◌∷◌}
use Rattle.index_model.specs.Limits.{Admits}
use Rattle.index_model.specs.declared.format.Format.{Format}
use Rattle.index_model.specs.declared.layout.Layout.TheVariants.{Two}
use Rattle.page_codec.specs.Grammar.{IsPage}
use Rattle.page_codec.specs.Spelling.{count_of}
use Rattle.page_codec.specs.declared.page.Page.{Page}

-- the page is one that the format admits, with no more items than its limits allow, of a layout that it may
-- have
pub record IsStorable (format : Format) (page : Page) : Type 0 where
  pub admitted : IsPage page
  pub few : count_of page.items ≤ format.items
  pub layout : Admits format.layout page.layout

-- ... and of the second layout, as each page is that an act writes
pub record IsWritable (format : Format) (page : Page) : Type 0 where
  pub storable : IsStorable format page
  pub new : page.layout ≡ Two

-- a page as it is stored at a block
pub record IsStored (format : Format) (block : ℕ) (page : Page) : Type 0 where
  pub storable : IsStorable format page
  pub block_is : page.block ≡ block

-- each of these pages, from this block on, is stored at its block
abbrev pub AreStored : Format → ℕ → List Page → Type 0
AreStored format block [] = Unit {0}
AreStored format block (page ∷ pages) =
    IsStored format block page × AreStored format (suc block) pages

-- none of these is of this block
abbrev pub IsApartFrom : ℕ → List Page → Type 0
IsApartFrom block [] = Unit {0}
IsApartFrom block (page ∷ pages) = (page.block ≢ block) × IsApartFrom block pages

-- a block in use, or the next unused one
abbrev pub IsPlaceable : Format → ℕ → ℕ → Type 0
IsPlaceable format used block = (block ≤ used) × (block < format.pages)

-- an act may change the page beside those after it: it may be written, at a block that is in use or the next
-- unused one, which none of them names
pub record IsActableBeside (format : Format) (used : ℕ) (page : Page) (rest : List Page) : Type 0 where
  pub writable : IsWritable format page
  pub placeable : IsPlaceable format used page.block
  pub apart : IsApartFrom page.block rest

-- the pages of an act: each may be written, at a block that is in use or the next unused one; no block is
-- named twice
abbrev pub AreActable : Format → ℕ → List Page → Type 0
AreActable format used [] = Unit {0}
AreActable format used (page ∷ pages) =
    IsWritable format page × IsPlaceable format used page.block × IsApartFrom page.block pages
    × AreActable format used pages

-- the first of these pages that an act may not change beside those after it is of this block
abbrev pub IsFirstMisplaced : Format → ℕ → List Page → ℕ → Type 0
IsFirstMisplaced format used [] block = ⊥
IsFirstMisplaced format used (page ∷ pages) block =
    ((page.block ≡ block) × (IsActableBeside format used page pages → ⊥))
    ⊎ (IsActableBeside format used page pages × IsFirstMisplaced format used pages block)
