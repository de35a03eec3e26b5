-- The way of a call down a tree: where it may stand, and where a page leads it.
use Rattle.std.specs.Prelude.{◌≡◌, ◌⊎◌, ℕ, suc, ◌+◌, ◌-◌, ◌*◌, ◌<◌, ◌≤◌, nat_lt, if◌then◌else◌, Bool, true, Option, Some, None}
use Rattle.index_model.specs.declared.bound.Bound.{Bound}
use Rattle.page_codec.specs.Grammar.{Ascends, LinkBefore, StartsLow}
use Rattle.page_codec.specs.declared.page.Page.{Page}
use Rattle.page_codec.specs.declared.page.PageState.TheVariants.{Live}
use Rattle.page_action.specs.States.{State}
use Rattle.tree_shape.specs.Aims.{aim_of, IsToward}
use Rattle.tree_shape.specs.Nodes.{links_of}
use Rattle.tree_shape.specs.Walks.{is_within}
use Rattle.tree_shape.specs.declared.aim.SearchKey.{SearchKey}
use Rattle.tree_acts.specs.Trees.{LeadsTo, HasCover, HasTrail}
use Rattle.descent.specs.declared.position.NextPage.{NextPage}
use Rattle.descent.specs.declared.position.NextPage.TheVariants.{Going, Here}
use Rattle.descent.specs.declared.position.Position.{Position}

-- a way before its first move right
abbrev pub position_from : ℕ → ℕ → Position
position_from block level = record { block = block; level = level; moves = 0 }

-- the way to the right of a page, unless `most` moves were made
abbrev pub right_from : Option ℕ → Position → ℕ → Option Position
right_from None position most = None
right_from (Some r) position most = if nat_lt position.moves most then Some
    (record { block = r; level = position.level; moves = suc position.moves }) else None

abbrev pub right_of : Page → Position → ℕ → Option Position
right_of page position most = right_from page.right position most

-- the way leads on
abbrev pub going : Option Position → Option NextPage
going None = None
going (Some position) = Some (Going position)

-- the way is to the child that leads to what is looked for, one level down
abbrev pub DownTo : Page → Position → SearchKey → Option Position → Type 0
DownTo page position aim None = Ascends LinkBefore (links_of page.items)
    → StartsLow (links_of page.items) → ⊥
DownTo page position aim (Some down) =
    (suc down.level ≡ position.level) × (down.moves ≡ 0)
    × (Ascends LinkBefore (links_of page.items) → StartsLow (links_of page.items)
    → IsToward (links_of page.items) (aim_of aim) down.block)

-- a call on its way to a level of the tree: the block is a place to go on from to what it looks
-- for, and no page was met twice on its level
pub record IsOnDescent (st : State) (start : ℕ) (aim : Bound → Bool) (clear : Bool) (to : ℕ)
    (position : Position) : Type 0 where
  pub not_below : to ≤ position.level
  pub place : LeadsTo st start position.level aim clear position.block
  pub trail : HasTrail st start position.level position.block position.moves

-- in a tree the way leads on, or the page covers what is looked for
abbrev pub LeadsToNext : State → ℕ → (Bound → Bool) → Bool → ℕ → Position → Option NextPage → Type 0
LeadsToNext st start aim clear to position (Some (Going on)) = IsOnDescent st start aim clear to on
LeadsToNext st start aim clear to position (Some Here) = (position.level ≡ to) × HasCover st to aim position.block
LeadsToNext st start aim clear to position None = ⊥

-- one level down, or one move right, of which there are `most` at most
pub record IsShorter (to most : ℕ) (position on : Position) : Type 0 where
  pub not_below : to ≤ on.level
  pub shorter : (on.level < position.level) ⊎
      ((on.level ≡ position.level) × ((on.moves ≡ suc position.moves) × (on.moves ≤ most)))

-- how many more pages a way leads over, at most, with `most` moves on each level
abbrev pub way_left : ℕ → Position → ℕ
way_left most position = position.level * (most + 4) + suc ((most + 2) - position.moves)

-- ... and a whole walk
abbrev pub walk_length : ℕ → ℕ
walk_length most = 256 * (most + 4)

-- a way that goes on is shorter, whatever the pages are
abbrev pub DescentIsShorter : ℕ → ℕ → Position → Option NextPage → Type 0
DescentIsShorter to most position (Some (Going on)) = IsShorter to most position on
DescentIsShorter to most position (Some Here) = Unit {0}
DescentIsShorter to most position None = Unit {0}

-- the page is live, and what is looked for isn't beyond its high key
pub record IsArrived (page : Page) (aim : Bound → Bool) : Type 0 where
  pub alive : page.state ≡ Live
  pub within : is_within aim page.high ≡ true

-- if no page has an incomplete split, a page that covers what is looked for leads down at once to one that
-- does too
abbrev pub LeadsStraight : State → (Bound → Bool) → ℕ → Position → Option NextPage → Type 0
LeadsStraight st aim to position (Some (Going on)) =
    (suc on.level ≡ position.level) × HasCover st on.level aim on.block
LeadsStraight st aim to position (Some Here) = position.level ≡ to
LeadsStraight st aim to position None = ⊥
