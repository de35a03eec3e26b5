-- What the steps of a scan leave it.
use Rattle.std.proofs.Common.{◌≡◌, ℕ, ◌+◌, ◌<◌, ◌≤◌, Bool, true, false, if◌then◌else◌, Option, Some, None, List, length, slice_get, inr, refl, sym, ap, subst, ◌∙◌, arith}
use Rattle.tree_shape.specs.Laws.{IsPassedBy}
use Rattle.scan.proofs.Imports.{below_admits, Bound, Entry, Table, pinned, Page, State, with_table, node_of, frontier_aim, is_within, WasLeaf, HasTree, LeadsTo, RightIsThere, passed_shows, false≢true}
use Rattle.scan.proofs.Imports.{places_widen, trail_begins_here, trail_moves_right, IsOnDescent, IsArrived, IsShorter, way_left, IsInOrder, StepEffect, Position, holds_else, walk_is_long, same_Some}
use Rattle.scan.proofs.Imports.{way_shortens, waiting, without_leaf, moved_to, after_reading, after_leaf, frontier_past, ScanStands, ScanInvariant, scan_left, leaves_left, scan_walk_left, count_ahead}
use Rattle.scan.proofs.Imports.{is_ahead, ScanAt, Start, At, Last, ScanOp}
use Rattle.scan.proofs.Frontiers.{not_back, aim_widens, past_falls, high_is_passed}
use Rattle.scan.proofs.Counting.{count_drops, live_ahead, passed_not_ahead, some_ahead, leaf_less}
use Rattle.scan.proofs.Resting.{way_with}
use Rattle.scan.proofs.Standing.{without_many, without_apart, without_other, without_held, stood_many, stood_apart, stood_other, stood_held}

-- a scan that goes on to another page
module _ (old new : State) (before : ScanOp) (order : IsInOrder old) (fits : ScanInvariant old before) (is : new ≡ with_table old (without_leaf old.table before.session before.leaf)) where
  below : before.session < length old.table
  below = (let many = order.holdings in let low = fits.session in omega arith)

  pub going_does : StepEffect before.session None old new
  going_does = holds_else before.session old new (without_leaf old.table before.session before.leaf) is order (without_apart old.table before.session before.leaf below order.apart)
      (without_many old.table before.session before.leaf ∙ order.holdings) (λ other differ. without_other old.table before.session before.leaf other differ)

  pub going_fits : (position : Position) → IsOnDescent old fits.start (frontier_aim before.frontier) false 0 position → ScanInvariant new (moved_to before position)
  going_fits position on = subst (λ (st : State). ScanInvariant st (moved_to before position)) (sym is) (record {
    session = fits.session;
    start = fits.start;
    running = fits.running;
    held = without_held old.table before.session before.leaf below fits.held;
    live = tt;
    stands = way_with old (without_leaf old.table before.session before.leaf) fits.start (frontier_aim before.frontier) false 0 position on;
    started = fits.started;
    few = fits.few;
  })

-- after a leaf the scan goes right
way_after : (st : State) (start : ℕ) (f : Bound) (page : Page) (high : Bound) (right : ℕ) → HasTree st → slice_get st.pages page.block ≡ Some page
    → LeadsTo st start 0 (frontier_aim f) false page.block
    → page.high ≡ Some high → page.right ≡ Some right → IsOnDescent st start (frontier_aim (frontier_past f (Some high))) false 0 (record { block = right; level = 0; moves = 1 })
way_after st start f page high right h found place high_is right_is = go (passed_shows st start 0 aim false page h found wide passed)
  where
    aim : Bound → Bool
    aim = frontier_aim (frontier_past f (Some high))

    wide : LeadsTo st start 0 aim false page.block
    wide = places_widen st start 0 (frontier_aim f) aim false false page.block (aim_widens f (frontier_past f (Some high)) (not_back f (Some high))) (λ e. e) place

    passed : IsPassedBy aim false (node_of page)
    passed = record { why = inr (ap (is_within aim) high_is ∙ high_is_passed f high); whole = λ e. absurd (false≢true e) }

    go : RightIsThere st start 0 aim false page → IsOnDescent st start aim false 0 (record { block = right; level = 0; moves = 1 })
    go r = record {
      not_below = omega arith;
      place = subst (LeadsTo st start 0 aim false) (same_Some r.to right (sym r.right_is ∙ right_is)) r.place;
      trail = trail_moves_right st start 0 0 right page h found right_is (trail_begins_here st start 0 (frontier_aim f) false page.block h place);
    }

-- ... unless nothing is there
stands_after : (st : State) (start : ℕ) (leaf : Option ℕ) (f : Bound) (page : Page) (below : Option (List ℕ)) → HasTree st
    → slice_get st.pages page.block ≡ Some page → LeadsTo st start 0 (frontier_aim f) false page.block
    → ScanStands st start leaf (frontier_past f page.high) (after_leaf page.high page.right below)
stands_after st start leaf f page below h found place = go page.high page.right refl refl
  where
    go : (high : Option Bound) (right : Option ℕ) → page.high ≡ high → page.right ≡ right → ScanStands st start leaf (frontier_past f high) (after_leaf high right below)
    go None right high_is right_is = tt
    go (Some high) None high_is right_is = tt
    go (Some high) (Some right) high_is right_is = by (below_admits below high.key)
      where
        by : (w : Bool) → ScanStands st start leaf (frontier_past f (Some high)) (if w then At (record { block = right; level = 0; moves = 1 }) else Last)
        by true = way_after st start f page high right h found place high_is right_is
        by false = tt

stands_with : (st : State) (table : Table) (start : ℕ) (leaf : Option ℕ) (f : Bound) (at : ScanAt) → ScanStands st start leaf f at → ScanStands (with_table st table) start leaf f at
stands_with st table start leaf f Start h = h
stands_with st table start leaf f (At position) h = way_with st table start (frontier_aim f) false 0 position h
stands_with st table start leaf f Last h = h

-- a scan that has read the leaf after the frontier
module _ (old new : State) (before : ScanOp) (block : ℕ) (order : IsInOrder old) (fits : ScanInvariant old before)
    (is : new ≡ with_table old (pinned (without_leaf old.table before.session before.leaf) before.session block)) where
  low : before.session < length old.table
  low = (let many = order.holdings in let low = fits.session in omega arith)

  pub reading_does : StepEffect before.session None old new
  reading_does = holds_else before.session old new (pinned (without_leaf old.table before.session before.leaf) before.session block) is order
      (stood_apart old.table before.session before.leaf block low order.apart)
      (stood_many old.table before.session before.leaf block low ∙ order.holdings) (λ other differ. stood_other old.table before.session before.leaf block low other differ)

  pub reading_fits : (page : Page) (es : List Entry) → slice_get old.pages page.block ≡ Some page → LeadsTo old fits.start 0 (frontier_aim before.frontier) false page.block
      → WasLeaf old.pages block → length es ≤ 50 → ScanInvariant new (after_reading (record before { leaf = Some block }) page.high page.right es)
  reading_fits page es found place live few = subst (λ (st : State). ScanInvariant st (after_reading (record before { leaf = Some block }) page.high page.right es)) (sym is) (record {
    session = fits.session;
    start = fits.start;
    running = fits.running;
    held = stood_held old.table before.session before.leaf block low fits.held;
    live = live;
    stands = stands_with old (pinned (without_leaf old.table before.session before.leaf) before.session block) fits.start (Some block) (frontier_past before.frontier page.high)
        (after_leaf page.high page.right before.range.below)
        (stands_after old fits.start (Some block) before.frontier page before.range.below order.tree found place);
    started = λ e beyond. fits.started e (past_falls before.frontier (frontier_past before.frontier page.high) (not_back before.frontier page.high) e beyond);
    few = few;
  })

-- what is left to do
pub first_less : (most : ℕ) (pages : List Page) (before : ScanOp) (position : Position) → before.at ≡ Start → position.level < 256 → scan_left most pages (moved_to before position) < scan_left most pages before
first_less most pages before position is low =
    let w = walk_is_long most position (omega (arith, low)) in
    rw is (omega arith)

pub going_less : (most : ℕ) (pages : List Page) (before : ScanOp) (position on : Position) → before.at ≡ At position → IsShorter 0 most position on → scan_left most pages (moved_to before on) < scan_left most pages before
going_less most pages before position on is s =
    let w = way_shortens 0 most position on s in
    rw is (omega arith)

-- a page with a high key is passed, and without one it is the last
leaves_after : (f : Bound) (pages : List Page) (b : ℕ) (page : Page) (below : Option (List ℕ)) → slice_get pages b ≡ Some page → IsArrived page (frontier_aim f)
    → leaves_left (frontier_past f page.high) pages (after_leaf page.high page.right below) < count_ahead f pages
leaves_after f pages b page below found arrived = go page.high page.right refl
  where
    ahead : is_ahead f page ≡ true
    ahead = live_ahead f page arrived.alive arrived.within

    last : 0 < count_ahead f pages
    last = some_ahead f pages b page found ahead

    go : (high : Option Bound) (right : Option ℕ) → page.high ≡ high → leaves_left (frontier_past f high) pages (after_leaf high right below) < count_ahead f pages
    go None right is = last
    go (Some high) None is = last
    go (Some high) (Some right) is = by (below_admits below high.key)
      where
        by : (w : Bool) → leaves_left (frontier_past f (Some high)) pages (if w then At (record { block = right; level = 0; moves = 1 }) else Last) < count_ahead f pages
        by true = count_drops f (frontier_past f (Some high)) (not_back f (Some high)) pages b page found ahead (passed_not_ahead f high page is)
        by false = last

walk_after : (most : ℕ) (high : Option Bound) (right : Option ℕ) (below : Option (List ℕ)) → scan_walk_left most (after_leaf high right below) < most + 4
walk_after most None right below = omega arith
walk_after most (Some high) None below = omega arith
walk_after most (Some high) (Some right) below = by (below_admits below high.key)
  where
    by : (w : Bool) → scan_walk_left most (if w then At (record { block = right; level = 0; moves = 1 }) else Last) < most + 4
    by true = omega arith
    by false = omega arith

pub reading_less : (most : ℕ) (pages : List Page) (before : ScanOp) (leaf : Option ℕ) (position : Position) (b : ℕ) (page : Page) (es : List Entry) → before.at ≡ At position → slice_get pages b ≡ Some page
    → IsArrived page (frontier_aim before.frontier) → length es ≤ 50 → scan_left most pages (after_reading (record before { leaf = leaf }) page.high page.right es) < scan_left most pages before
reading_less most pages before leaf position b page es is found arrived few =
    let fewer = leaves_after before.frontier pages b page before.range.below found arrived in
    let walk = walk_after most page.high page.right before.range.below in
    let t = leaf_less most (leaves_left (frontier_past before.frontier page.high) pages (after_leaf page.high page.right before.range.below)) (count_ahead before.frontier pages)
    (scan_walk_left most (after_leaf page.high page.right before.range.below) + length es) (way_left most position + length (waiting before)) fewer (omega arith) in
    rw is (omega arith)
