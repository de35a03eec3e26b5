-- What a scan knows lasts while others act, and what it has to do has a bound.
use Rattle.std.proofs.Common.{◌≡◌, ℕ, ◌+◌, ◌≤◌, ◌||◌, Bool, false, Option, Some, None, List, length, refl, ap, ◌∙◌, arith, length-drop}
use Rattle.tree_shape.proofs.Fits.{frontier_falls}
use Rattle.tree_acts.proofs.Sizes.{low_level, pages_few}
use Rattle.scan.specs.Laws.{PinnedLeavesLast, ScansAreUndisturbed, FreshScansAreBounded, ScansAreBounded}
use Rattle.scan.proofs.Imports.{eq-eqb, mul-le, start_of, Bound, Holding, has_pin, holding_of, Page, State, frontier_aim, HasTree, NumbersStay, LeafIsLive, leaf_pinned, ScanStands, walk_length}
use Rattle.scan.proofs.Imports.{count_ahead, leaves_left, scan_walk_left, ScanAt, Start, At, Last, walk_is_long}
use Rattle.scan.proofs.Counting.{count_few}

stands_still : (old new : State) (start : ℕ) (leaf : Option ℕ) (f : Bound) (at : ScanAt) → NumbersStay start old new → ScanStands old start leaf f at → ScanStands new start leaf f at
stands_still old new start leaf f Start stay h = h
stands_still old new start leaf f (At position) stay on = record {
  not_below = on.not_below;
  place = stay.places position.level (frontier_aim f) false position.block (frontier_falls f) on.place;
  trail = stay.trails position.level position.block position.moves on.trail;
}
stands_still old new start leaf f Last stay h = h

-- the leaf that it stands on is pinned
live_still : (old new : State) (session : ℕ) (leaf : Option ℕ) → holding_of old.table session ≡ leaf_pinned leaf → PinnedLeavesLast session old new → LeafIsLive old.pages leaf
    → LeafIsLive new.pages leaf
live_still old new session None held last live = tt
live_still old new session (Some block) held last live =
    last block (ap (λ (h : Holding). has_pin h.pins block) held ∙ ap (λ (b : Bool). b || false) (eq-eqb block block refl)) live

pub undisturbed : ScansAreUndisturbed
undisturbed old new op rely last fits = record {
  session = fits.session;
  start = fits.start;
  running = rely.number ∙ fits.running;
  held = rely.held ∙ fits.held;
  live = live_still old new op.session op.leaf fits.held last fits.live;
  stands = stands_still old new fits.start op.leaf op.frontier op.at (rely.numbers fits.start fits.running) fits.stands;
  started = fits.started;
  few = fits.few;
}

pub bounded : FreshScansAreBounded
bounded most pages session range few_pages few =
    let count = count_few (start_of range) pages in
    let leaves = mul-le (count_ahead (start_of range) pages) (walk_length most + 52) 65536 16778292 (omega arith) (omega arith) in
    omega arith

-- no more leaves are left to read than there are pages
leaves_few : (f : Bound) (pages : List Page) (at : ScanAt) → leaves_left f pages at ≤ length pages
leaves_few f pages Start = count_few f pages
leaves_few f pages (At position) = count_few f pages
leaves_few f pages Last = omega arith

-- what is left of the present walk is no more than a whole one
walk_few : (st : State) (start most : ℕ) (leaf : Option ℕ) (f : Bound) (at : ScanAt) → HasTree st → ScanStands st start leaf f at → scan_walk_left most at ≤ walk_length most
walk_few st start most leaf f Start has stands = omega arith
walk_few st start most leaf f (At position) has stands =
    let low = low_level st start position.level (frontier_aim f) false position.block has stands.place in
    let short = walk_is_long most position (omega arith) in
    omega arith
walk_few st start most leaf f Last has stands = omega arith

pub bounded_at_each_moment : ScansAreBounded
bounded_at_each_moment st op order few_pages fits =
    let most = st.format.pages in
    let pages = pages_few st order.tree in
    let count = leaves_few op.frontier st.pages op.at in
    let leaves = mul-le (leaves_left op.frontier st.pages op.at) (walk_length most + 52) 65536 16778292 (omega arith) (omega arith) in
    let walk = walk_few st fits.start most op.leaf op.frontier op.at order.tree fits.stands in
    let ready = length-drop op.given op.copied.items in
    let few = fits.few in
    omega arith
