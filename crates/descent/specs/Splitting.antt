-- What a split needs beside the page: the page to the right of it, and a block for its right half.
use Rattle.std.specs.Prelude.{◌≡◌, ℕ, Bool, true, false, Option, Some, None, List, [], ◌∷◌, slice_get}
use Rattle.index_model.specs.declared.layout.Layout.TheVariants.{Two}
use Rattle.latch_table.specs.Holdings.{is_held_by_another}
use Rattle.latch_table.specs.declared.mode.Mode.TheVariants.{Exclusive}
use Rattle.page_codec.specs.declared.page.Page.{Page}
use Rattle.page_action.specs.States.{State}
use Rattle.page_action.specs.Stored.{IsStored}
use Rattle.tree_shape.specs.Mending.{MayBeMended}

-- there is a page at the block, and its left link may be mended
pub record IsMendable (st : State) (block : ℕ) : Type 0 where
  pub page : Page
  pub found : slice_get st.pages block ≡ Some page
  pub mends : MayBeMended page

-- the page to the right, if there is one, is such a page
abbrev pub RightIsMendable : State → Option ℕ → Type 0
RightIsMendable st None = Unit {0}
RightIsMendable st (Some block) = IsMendable st block

-- the page to the right, if there is one, as it is stored: its left link may be mended, and no other session
-- holds it
abbrev pub RightIsStored : State → ℕ → Option ℕ → Option Page → Type 0
RightIsStored st session None None = Unit {0}
RightIsStored st session None (Some page) = ⊥
RightIsStored st session (Some block) None = ⊥
RightIsStored st session (Some block) (Some page) = IsStored st.format block page
    × MayBeMended page × (is_held_by_another st.table session block Exclusive ≡ false)

-- ... and as it is
abbrev pub RightIsFound : State → Option ℕ → Option Page → Type 0
RightIsFound st None page = Unit {0}
RightIsFound st (Some block) None = Unit {0}
RightIsFound st (Some block) (Some page) = slice_get st.pages block ≡ Some page

-- a page, if one was read
abbrev pub if_read : Bool → Page → Option Page
if_read true page = Some page
if_read false page = None

-- the page, if there is one, with this left link, in the second layout
abbrev pub mended_to : ℕ → Option Page → List Page
mended_to left None = []
mended_to left (Some page) = record page { layout = Two; left = Some left } ∷ []
