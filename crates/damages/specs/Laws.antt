-- What holds of the damages of pages.
use Rattle.std.specs.Prelude.{◌≡◌, ℕ, Bool, true, List}
use Rattle.page_codec.specs.declared.page.Page.{Page}
use Rattle.tree_shape.specs.KeyPages.{AreUnique}
use Rattle.tree_acts.specs.TheoremTree.{IsTree}
use Rattle.damages.specs.Damages.{IsSound, IsFirstDamage}
use Rattle.damages.specs.Levels.{StandAtTheirBlocks, HasLevels, HasUniqueLevels}

-- pages have one first damage at most
abbrev pub FirstIsOne : Type 0
FirstIsOne = (parents keys : Bool) (pages : List Page) (n b m c : ℕ) → IsFirstDamage parents keys pages n b
    → IsFirstDamage parents keys pages m c → (n ≡ m) × (b ≡ c)

-- ... and none where there is no damage
abbrev pub FirstIsNone : Type 0
FirstIsNone = (parents keys : Bool) (pages : List Page) (n b : ℕ) → IsSound parents keys pages
    → IsFirstDamage parents keys pages n b → ⊥

-- pages of the format without a damage, parents and children seen or not, are an index of levels
abbrev pub SoundHasLevels : Type 0
SoundHasLevels = (parents keys : Bool) (pages : List Page) → StandAtTheirBlocks pages → IsSound parents keys pages
    → HasLevels pages

-- ... of a unique index, keys seen
abbrev pub SoundHasUniqueLevels : Type 0
SoundHasUniqueLevels = (parents : Bool) (pages : List Page) → IsSound parents true pages → HasUniqueLevels pages

-- ... and a B-link tree, parents and children seen
abbrev pub SoundHasTree : Type 0
SoundHasTree = (keys : Bool) (pages : List Page) → StandAtTheirBlocks pages → IsSound true keys pages → IsTree pages

-- ... all of whose pages are those of a unique index, parents and children and keys seen
abbrev pub SoundIsUnique : Type 0
SoundIsUnique = (pages : List Page) → StandAtTheirBlocks pages → IsSound true true pages → AreUnique pages

-- in a B-link tree, of a unique index if keys are seen, there is no damage, parents and children seen or not
abbrev pub TreeIsSound : Type 0
TreeIsSound = (parents keys : Bool) (pages : List Page) → StandAtTheirBlocks pages → IsTree pages
    → (keys ≡ true → AreUnique pages) → IsSound parents keys pages
