-- What the parts of a step of a cleanup do.
use Rattle.std.specs.Prelude.{◌≡◌, ◌≢◌, ℕ, zero, suc, ◌<◌, Bool, true, false, Option, Some, None, Result, Ok, Err, IfErr, OnErr, List, [], ◌∷◌, length, slice_get}
use Rattle.index_model.specs.Actions.{Shape}
use Rattle.index_model.specs.Faults.{HasCause}
use Rattle.index_model.specs.declared.bound.Bound.{Bound}
use Rattle.index_model.specs.declared.fault.Fault.{Fault}
use Rattle.index_model.specs.declared.fault.Fault.TheVariants.{PageDamaged}
use Rattle.latch_table.specs.Holdings.{HasRoom, is_held_by_another, has_pin, holding_of}
use Rattle.latch_table.specs.declared.mode.Mode.TheVariants.{Exclusive, Cleanup}
use Rattle.index_model.specs.declared.layout.Layout.TheVariants.{Two}
use Rattle.page_codec.specs.declared.page.Page.{Page}
use Rattle.page_codec.specs.declared.page.PageState.{PageState}
use Rattle.page_codec.specs.declared.page.PageState.TheVariants.{Live, HalfDead, Deleted}
use Rattle.page_action.specs.States.{State, Continues}
use Rattle.page_action.specs.Stored.{IsStored}
use Rattle.page_action.specs.declared.page_store.PageStore.{Ghosts}
use Rattle.tree_shape.specs.Deletion.{MayDie, as_deleted}
use Rattle.tree_acts.specs.Deletions.{IsCompleteAt, StartsAreBelow, state_in}
use Rattle.tree_acts.specs.Leaves.{IsLeafAt, WasLeaf}
use Rattle.tree_acts.specs.StepEffects.{IsInOrder, CleanupEffect, IsOneActAtMost, NumbersStay}
use Rattle.descent.specs.declared.position.NextPage.{NextPage}
use Rattle.descent.specs.declared.position.NextPage.TheVariants.{Going as LeadsOn, Here}
use Rattle.descent.specs.declared.position.Position.{Position}
use Rattle.vacuum.specs.Counts.{entry_count}
use Rattle.page_delete.specs.Judging.{IsToDie}
use Rattle.page_delete.specs.Needs.{causes_of_trying}
use Rattle.page_delete.specs.Ops.{turned_to, moved_past}
use Rattle.page_delete.specs.Spares.{EditsALeaf}
use Rattle.page_delete.specs.declared.looking.Seen.{Seen}
use Rattle.page_delete.specs.declared.steps.CleanupAt.TheVariants.{Down, Judge}
use Rattle.page_delete.specs.declared.steps.CleanupOp.{CleanupOp}
use Rattle.page_delete.specs.declared.steps.CleanupStep.{CleanupStep}
use Rattle.page_delete.specs.declared.steps.CleanupStep.TheVariants.{Going}

-- the cleanup after the metapage, with this way to the root
abbrev pub left_to : CleanupOp → ℕ → Position → Bound → CleanupOp
left_to op zero position high = moved_past op 0
left_to op (suc level) position high = turned_to op (Down high position)

abbrev pub left_root : CleanupOp → Position → Bound → CleanupOp
left_root op position high = left_to op position.level position high

-- ... after a page on the way, that leads it on, or nowhere
abbrev pub left_page : CleanupOp → Option NextPage → ℕ → Bound → CleanupOp
left_page op None block high = op
left_page op (Some (LeadsOn on)) block high = turned_to op (Down high on)
left_page op (Some Here) block high = turned_to op (Judge high block)

abbrev pub left_answer : Option NextPage → ℕ → Result CleanupStep Fault
left_answer None block = Err (PageDamaged block)
left_answer (Some next_page) block = Ok Going

-- what the page of the block shows
pub record IsSeen (pages : List Page) (block : ℕ) (seen : Seen) : Type 0 where
  pub page : Page
  pub found : slice_get pages block ≡ Some page
  pub left_is : seen.left ≡ page.left
  pub right_is : seen.right ≡ page.right
  pub split_is : seen.split ≡ page.split
  pub state_is : seen.state ≡ page.state

-- the page of the block links to this one on its right
pub record LinksRight (pages : List Page) (block to : ℕ) : Type 0 where
  pub page : Page
  pub found : slice_get pages block ≡ Some page
  pub links : page.right ≡ Some to

-- ... on its left
pub record LinksLeft (pages : List Page) (block to : ℕ) : Type 0 where
  pub page : Page
  pub found : slice_get pages block ≡ Some page
  pub links : page.left ≡ Some to

-- the siblings of the page link to it
pub record SiblingsLink (pages : List Page) (page : Page) : Type 0 where
  pub left : (l : ℕ) → page.left ≡ Some l → LinksRight pages l page.block
  pub right : (r : ℕ) → page.right ≡ Some r → LinksLeft pages r page.block

-- the siblings of a leaf allow that it is made half-dead
pub record SiblingsAllow (pages : List Page) (leaf : Page) (right : ℕ) : Type 0 where
  pub left_whole : IsCompleteAt pages leaf.left
  pub right_is : leaf.right ≡ Some right
  pub page : Page
  pub found : slice_get pages right ≡ Some page
  pub alive : page.state ≡ Live

-- whether they do, and which is the right one
abbrev pub SiblingsAnswer : List Page → Page → Option ℕ → Type 0
SiblingsAnswer pages leaf (Some right) = SiblingsAllow pages leaf right
SiblingsAnswer pages leaf None = (right : ℕ) → SiblingsAllow pages leaf right → ⊥

-- the leaf of this block as it was read to be made half-dead
pub record IsCandidate (st : State) (honest : Bool) (session block : ℕ) (leaf : Page) : Type 0
  where
    pub found : honest ≡ true → slice_get st.pages block ≡ Some leaf
    pub stored : IsStored st.format block leaf
    pub used : block < length st.pages
    pub free : is_held_by_another st.table session block Cleanup ≡ false
    pub may_die : MayDie leaf

-- there is none: another session holds it, or it may not
abbrev pub NoCandidate : State → ℕ → ℕ → Type 0
NoCandidate st session block = (leaf : Page) → slice_get st.pages block ≡ Some leaf → MayDie leaf
    → is_held_by_another st.table session block Cleanup ≡ false → ⊥

abbrev pub CandidateAnswers : State → Bool → ℕ → ℕ → Option Page → Type 0
CandidateAnswers st honest session block (Some leaf) = IsCandidate st honest session block leaf
CandidateAnswers st honest session block None =
    honest ≡ true → HasRoom st.table session → NoCandidate st session block

-- the page of this block as it was read to be changed: no other session holds it
pub record IsTakenToChange (st : State) (honest : Bool) (session block : ℕ) (page : Page) : Type 0 where
  pub found : honest ≡ true → slice_get st.pages block ≡ Some page
  pub stored : IsStored st.format block page
  pub used : block < length st.pages
  pub free : is_held_by_another st.table session block Exclusive ≡ false

-- an act by which a leaf goes on its way out of the tree; the numbers that the session's own call keeps stay
-- good too
pub record DeletesOn (session : ℕ) (old new : State) : Type 0 where
  pub does : CleanupEffect session (Some Shape) old new
  pub own : (start : ℕ) → slice_get old.running session ≡ Some (Some start)
      → NumbersStay start old new
  pub edit : EditsALeaf old new

-- a live leaf that another session has pinned stays one
abbrev pub PinnedLeafPagesStay : ℕ → State → State → Type 0
PinnedLeafPagesStay session old new =
    (other block : ℕ) (page : Page) → other ≢ session → IsLeafAt old.pages block page
    → has_pin (holding_of old.table other).pins block ≡ true → WasLeaf new.pages block

-- A part of a step that may do one act, by which a leaf goes on its way out of the tree: it answers whether
-- it did. If it did not, nothing is changed, and there is a reason; nor if it is refused, and on pages
-- in order there is a cause, by which pages it writes. Leaves that others have pinned stay.
pub record IsTried {S : Type 0} (g : Ghosts S) (session : ℕ) (written : State → List ℕ)
    (sure : State → Type 0) (change : State → State → Type 0) (reason : State → Type 0)
    (old new : S) (result : Result Bool Fault) : Type 0 where
  pub steps : Continues g.follows old new
  pub kept : IsOneActAtMost (g.state old) (g.state new)
  pub table : (g.state new).table ≡ (g.state old).table
  pub cycle : (g.state new).cycle ≡ (g.state old).cycle
  pub used : length (g.state new).pages ≡ length (g.state old).pages
  pub refused : OnErr result (g.state new ≡ g.state old)
  pub stays : result ≡ Ok false → g.state new ≡ g.state old
  pub passes : (g.backing new).honest ≡ true → HasRoom (g.state old).table session
      → result ≡ Ok false → reason (g.state old)
  pub changed : (g.backing new).honest ≡ true → result ≡ Ok true
      → change (g.state old) (g.state new)
  pub pins : (g.backing new).honest ≡ true → PinnedLeafPagesStay session (g.state old) (g.state new)
  pub does : (g.backing new).honest ≡ true → IsInOrder (g.state old)
      → StartsAreBelow (g.state old) → result ≡ Ok true
      → DeletesOn session (g.state old) (g.state new)
  pub cause : (g.backing new).honest ≡ true → IsInOrder (g.state old)
      → HasRoom (g.state old).table session → sure (g.state old)
      → IfErr result (HasCause (causes_of_trying (g.state old) (g.backing old) (g.backing new) session
      (written (g.state old))))

-- these blocks are in use
abbrev pub BlocksAreInUse : ℕ → ℕ → State → Type 0
BlocksAreInUse block parent st = (block < length st.pages) × (parent < length st.pages)

abbrev pub IsInUse : ℕ → State → Type 0
IsInUse block st = block < length st.pages

-- the leaf isn't to be made half-dead
abbrev pub IsSpared : ℕ → ℕ → ℕ → State → Type 0
IsSpared session block parent st = IsToDie st session block parent → ⊥

-- the page isn't half-dead
abbrev pub IsNotDead : ℕ → State → Type 0
IsNotDead block st = (page : Page) → slice_get st.pages block ≡ Some page → page.state ≢ HalfDead

-- the page of the block is live
pub record IsLiveAt (pages : List Page) (block : ℕ) : Type 0 where
  pub page : Page
  pub found : slice_get pages block ≡ Some page
  pub alive : page.state ≡ Live

-- the page as it was read to be linked anew, and its links
pub record IsTakenRight (st : State) (honest : Bool) (session : ℕ) (page : Page) (block : ℕ)
    (sibling : Page) : Type 0 where
  pub taken : IsTakenToChange st honest session block sibling
  pub links : sibling.left ≡ Some page.block

-- ... to its left: none if there is none
abbrev pub IsTakenLeft : State → Bool → ℕ → Page → Option ℕ → Option Page → Type 0
IsTakenLeft st honest session page None None = Unit {0}
IsTakenLeft st honest session page None (Some sibling) = ⊥
IsTakenLeft st honest session page (Some block) None = ⊥
IsTakenLeft st honest session page (Some block) (Some sibling) =
    IsTakenToChange st honest session block sibling × (sibling.right ≡ Some page.block)

-- the right link of a half-dead page, if it is one
abbrev pub HalfDeadAnswers : Page → Option ℕ → Type 0
HalfDeadAnswers page (Some right) = (page.state ≡ HalfDead) × (page.right ≡ Some right)
HalfDeadAnswers page None = page.state ≡ HalfDead → page.right ≡ None

-- the pages of an act that unlinks a page: its siblings linked to each other, and the page deleted, all in
-- the second layout
abbrev pub unlinked : Option Page → Page → Page → ℕ → List Page
unlinked None page right number =
    as_deleted page number ∷ record right { layout = Two; left = page.left } ∷ []
unlinked (Some left) page right number =
    record left { layout = Two; right = Some right.block } ∷ as_deleted page number
    ∷ record right { layout = Two; left = page.left } ∷ []

-- no page has more entries on live leaves, or fewer; the page of the block moves from one state to another,
-- and no other page's state is changed
pub record MovesState (block : ℕ) (was is : PageState) (old new : State) : Type 0 where
  pub counts : (b : ℕ) → entry_count (slice_get new.pages b) ≡ entry_count (slice_get old.pages b)
  pub others : (b : ℕ) → b ≢ block → state_in new b ≡ state_in old b
  pub before : state_in old block ≡ was
  pub after : state_in new block ≡ is

-- the live leaf becomes half-dead
abbrev pub LeafDies : ℕ → State → State → Type 0
LeafDies block = MovesState block Live HalfDead

-- the half-dead page is deleted
abbrev pub PageIsDeleted : ℕ → State → State → Type 0
PageIsDeleted block = MovesState block HalfDead Deleted
