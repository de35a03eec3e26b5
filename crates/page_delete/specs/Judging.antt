-- Which leaf is made half-dead.
use Rattle.std.specs.Prelude.{◌≡◌, ◌≢◌, ℕ, suc, ◌<◌, false, All, Some, List, length, slice_get, take}
use Rattle.latch_table.specs.Holdings.{is_held_by_another}
use Rattle.latch_table.specs.declared.mode.Mode.TheVariants.{Cleanup}
use Rattle.page_codec.specs.declared.page.Downlink.{Downlink}
use Rattle.page_codec.specs.declared.page.Page.{Page}
use Rattle.page_codec.specs.declared.page.PageState.TheVariants.{Live}
use Rattle.page_action.specs.States.{State}
use Rattle.tree_shape.specs.Deletion.{MayDie}
use Rattle.tree_shape.specs.LinkPlaces.{HasLinks, child_at}
use Rattle.tree_shape.specs.Nodes.{links_of}
use Rattle.tree_acts.specs.Deletions.{IsCompleteAt}

-- the first downlink to the leaf stands at this place, and the next one leads to its right sibling
pub record IsHandingPlace (links : List Downlink) (leaf right at : ℕ) : Type 0 where
  pub next_inside : suc at < length links
  pub leads : child_at links at ≡ leaf
  pub first : All (λ d. d.child ≢ leaf) (take at links)
  pub next : child_at links (suc at) ≡ right

-- the page is a parent of leaves, and has such a place
pub record IsHandingOn (parent : Page) (leaf right at : ℕ) : Type 0 where
  pub internal : HasLinks parent.items
  pub level : parent.level ≡ 1
  pub place : IsHandingPlace (links_of parent.items) leaf right at

-- The leaf of this block is to be made half-dead: nobody else holds a latch or a pin of it; it is live and
-- empty, without an incomplete split and not right after a page with an incomplete split; its right sibling
-- is live, and in this parent the downlink after its own leads to that.
pub record IsToDie (st : State) (session block parent : ℕ) : Type 0 where
  pub free : is_held_by_another st.table session block Cleanup ≡ false
  pub leaf : Page
  pub found : slice_get st.pages block ≡ Some leaf
  pub may_die : MayDie leaf
  pub left_whole : IsCompleteAt st.pages leaf.left
  pub right : ℕ
  pub right_is : leaf.right ≡ Some right
  pub right_page : Page
  pub right_found : slice_get st.pages right ≡ Some right_page
  pub right_alive : right_page.state ≡ Live
  pub parent_page : Page
  pub parent_found : slice_get st.pages parent ≡ Some parent_page
  pub at : ℕ
  pub hands_on : IsHandingOn parent_page block right at
