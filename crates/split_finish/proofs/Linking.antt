-- A downlink on a parent with room: what the act is, and what it leaves.
use Rattle.std.proofs.Common.{◌≡◌, ◌&&◌, ◌==◌, not, ℕ, suc, ◌<◌, ◌≤◌, Bool, true, false, Some, None, Ok, List, [], ◌∷◌, length, slice_get, refl, sym, ap, subst, ◌∙◌, arith}
use Rattle.split_finish.proofs.Imports.{and_parts, eqb-true, Bound, is_held_by_another, Exclusive, count_of, Items, Page, PageState, Live, HalfDead, Deleted, State, Backing, after_act, writable}
use Rattle.split_finish.proofs.Imports.{Node, node_of, links_of, is_live, bound_aim, is_within, IsIncompleteSplit, MayActWith, SplitIsFinished, FlagsMove, HasTree, LeadsTo, HasCover, not-true}
use Rattle.split_finish.proofs.Imports.{finish_leaves, finish_lasts, finish_flags, finish_weighs, node_there, live_shows, IsInOrder, Position, does_finish, FinishInvariant, FinishStands, slice_get_within}
use Rattle.split_finish.proofs.Imports.{is_ready, IsReadyToLink, Popped, FinishStepped, IsReadToChange, Link, FinishOp, FinishStep}
use Rattle.split_finish.proofs.Standing.{right_block, high_bound}
use Rattle.split_finish.proofs.Doing.{clears}
use Rattle.split_finish.proofs.InPlace.{AreLinked}

pub live_is : (s : PageState) → is_live s ≡ true → s ≡ Live
live_is Live h = refl
live_is HalfDead h = absurd cc
live_is Deleted h = absurd cc

-- what it is to be ready
pub record IsParent (node : Node) (level : ℕ) (separator : Bound) : Type 0 where
  pub alive : node.state ≡ Live
  pub whole : node.split ≡ false
  pub level_is : node.level ≡ level
  pub within : is_within (bound_aim separator) node.high ≡ true

pub ready_is : (node : Node) (level : ℕ) (separator : Bound) → is_ready node level separator ≡ true → IsParent node level separator
ready_is node level separator h =
    let a = and_parts (is_live node.state && not node.split && (node.level == level)) (is_within (bound_aim separator) node.high) h in
    let b = and_parts (is_live node.state && not node.split) (node.level == level) a.0 in
    let c = and_parts (is_live node.state) (not node.split) b.0 in
    record { alive = live_is node.state c.0; whole = not-true node.split c.1; level_is = eqb-true node.level level b.1; within = a.1 }

-- the target and its parent, as they were read in a tree
module _ (st : State) (op : FinishOp) (honest : Bool) (position : Position) (page parent : Page) (new : ℕ) (order : IsInOrder st) (fits : FinishInvariant st op) (sound : honest ≡ true)
    (at : op.at ≡ Link position) (read : IsReadToChange st honest op.session op.target.block page)
    (read_parent : IsReadToChange st honest op.session position.block parent) (ready : IsReadyToLink page parent op op)
    (right : page.right ≡ Some new) where
  pub has : HasTree st
  has = order.tree

  pub found : slice_get st.pages page.block ≡ Some page
  found = subst (λ (b : ℕ). slice_get st.pages b ≡ Some page) (sym read.stored.block_is) (read.found sound)

  pub parent_found : slice_get st.pages parent.block ≡ Some parent
  parent_found = subst (λ (b : ℕ). slice_get st.pages b ≡ Some parent) (sym read_parent.stored.block_is) (read_parent.found sound)

  pub is_parent : IsParent (node_of parent) (suc op.target.level) op.target.separator
  is_parent = ready_is (node_of parent) (suc op.target.level) op.target.separator ready.ready

  pub parent_place : LeadsTo st fits.start (suc op.target.level) (bound_aim op.target.separator) true parent.block
  parent_place =
      let stands = subst (FinishStands st fits.start op.target) at fits.stands in
      subst (LeadsTo st fits.start (suc op.target.level) (bound_aim op.target.separator) true) (sym read_parent.stored.block_is)
      (subst (λ (n : ℕ). LeadsTo st fits.start n (bound_aim op.target.separator) true position.block) stands.0 stands.1.place)

  pub parent_covers : HasCover st (suc op.target.level) (bound_aim op.target.separator) parent.block
  parent_covers = (live_shows st fits.start (suc op.target.level) (bound_aim op.target.separator) true parent has parent_found parent_place is_parent.alive).covers is_parent.within

  pub unfinished : IsIncompleteSplit st fits.start op.target.level op.target.separator page new
  unfinished = record {
    found = found;
    place = subst (LeadsTo st fits.start op.target.level (bound_aim op.target.separator) true) (sym read.stored.block_is) fits.newest.place;
    incomplete = ready.incomplete;
    high_is = ready.high_is;
    right_is = right;
  }

  pub two_pages : page.block ≡ parent.block → ⊥
  two_pages same =
      let one : page ≡ parent = (let k : Some page ≡ Some parent = sym found ∙ subst (λ (b : ℕ). slice_get st.pages b ≡ Some parent) (sym same) parent_found in cc) in
      let levels : page.level ≡ parent.level = ap (λ (p : Page). p.level) one in
      (let a = ready.level_is in let b = is_parent.level_is in omega arith)

-- ... with a downlink on the parent, which had room
module _ (st : State) (op : FinishOp) (honest : Bool) (position : Position) (page parent : Page) (new : ℕ) (pages : List Page) (order : IsInOrder st) (fits : FinishInvariant st op) (sound : honest ≡ true)
    (at : op.at ≡ Link position) (read : IsReadToChange st honest op.session op.target.block page)
    (read_parent : IsReadToChange st honest op.session position.block parent) (ready : IsReadyToLink page parent op op)
    (right : page.right ≡ Some new) (few : length st.pages ≤ st.format.pages) (room : length (links_of parent.items) < st.format.items)
    (linked : AreLinked parent page op.target.separator new pages) where
  pub may_link : MayActWith st (linked.parent_after ∷ linked.page_after ∷ [])
  may_link =
      let page_in = slice_get_within st.pages page.block page (found st op honest position page parent new order fits sound at read read_parent ready right) in
      let parent_in = slice_get_within st.pages parent.block parent (parent_found st op honest position page parent new order fits sound at read read_parent ready right) in
      let page_at = linked.clear.block_is in
      let parent_at = linked.block_is in
      let count = linked.count in (
        writable st.format linked.parent_after linked.layout_is
            (linked.admitted read_parent.stored.storable.admitted (right_block page new read.stored.storable.admitted right)
            (high_bound page op.target.separator read.stored.storable.admitted ready.high_is))
            (omega arith),
        (omega arith, omega arith),
        ((λ same. two_pages st op honest position page parent new order fits sound at read read_parent ready right (sym page_at ∙ same ∙ parent_at)), tt),
        (
          writable st.format linked.page_after (ap (λ (p : Page). p.layout) linked.clear.only)
              (linked.page_admitted read.stored.storable.admitted)
              (subst (λ (i : Items). count_of i ≤ st.format.items) (sym linked.page_items) read.stored.storable.few),
          (omega arith, omega arith),
          tt,
          tt,
        ),
      )

  pub may_link_all : MayActWith st pages
  may_link_all = subst (MayActWith st) (sym linked.pages_are) may_link

  pub split_finishes : SplitIsFinished st fits.start op.target.level op.target.separator page parent linked.page_after linked.parent_after new
  split_finishes = record {
    unfinished = unfinished st op honest position page parent new order fits sound at read read_parent ready right;
    found = parent_found st op honest position page parent new order fits sound at read read_parent ready right;
    covers = parent_covers st op honest position page parent new order fits sound at read read_parent ready right;
    added = linked.added;
    after_is = linked.after_is;
    block_is = linked.block_is;
    clear = linked.clear;
    may = may_link;
  }

  pub links : (old_backing new_backing : Backing) (after : FinishOp) (step : FinishStep) → Popped op after step
      → FinishStepped st old_backing (after_act pages st) new_backing op after (Ok step)
  links old_backing new_backing after step popped =
      subst (λ (ps : List Page). FinishStepped st old_backing (after_act ps st) new_backing op after (Ok step)) (sym linked.pages_are)
      (let changed : List Page = linked.parent_after ∷ linked.page_after ∷ [] in
      let lasts = finish_lasts st fits.start op.target.level op.target.separator page parent linked.page_after linked.parent_after new order.tree split_finishes in
      let moves = finish_flags st fits.start op.target.level op.target.separator page parent linked.page_after linked.parent_after new order.tree split_finishes in
      let less = finish_weighs st fits.start op.target.level op.target.separator page parent linked.page_after linked.parent_after new order.tree split_finishes in
      let at_page : page.block ≡ op.target.block = read.stored.block_is in
      clears st (after_act changed st) old_backing new_backing op after step fits
      (does_finish st op.session changed order may_link lasts.0 lasts.1
      (finish_leaves st fits.start op.target.level op.target.separator page parent linked.page_after linked.parent_after new order.tree split_finishes) (record {
        cleared = page.block;
        was = ap (λ (n : Node). n.split) (node_there st.pages page.block page (found st op honest position page parent new order fits sound at read read_parent ready right)) ∙ ready.incomplete;
        raised = None;
        higher = tt;
        moves = moves;
        less = less;
      }) (
        subst (λ (b : ℕ). is_held_by_another st.table op.session b Exclusive ≡ false) (sym (linked.block_is ∙ read_parent.stored.block_is)) read_parent.free,
        (
          subst (λ (b : ℕ). is_held_by_another st.table op.session b Exclusive ≡ false) (sym (linked.clear.block_is ∙ at_page)) read.free,
          tt,
        ),
      ))
      refl refl lasts.0 (subst (λ (b : ℕ). FlagsMove None (Some b) st (after_act changed st)) at_page moves) popped)
