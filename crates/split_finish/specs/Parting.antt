-- The pages of an act that splits a parent.
use Rattle.std.specs.Prelude.{Option, List, [], ◌∷◌, ◌++◌}
use Rattle.page_codec.specs.declared.page.Page.{Page}
use Rattle.descent.specs.Splitting.{mended_to}

-- the halves of the parent, the page to the right of them with its left link mended, and the page whose split
-- is finished
abbrev pub halves_and : Page → Page → Option Page → Page → List Page
halves_and left half right page = left ∷ half ∷ mended_to half.block right ++ page ∷ []
