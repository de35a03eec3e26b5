-- What a cleanup knows lasts while others act, and what is left to do for it is bounded.
use Rattle.std.proofs.Common.{ℕ, ◌+◌, ◌<◌, ◌≤◌, false, length, ◌∙◌, arith}
use Rattle.tree_shape.proofs.Fits.{bound_falls}
use Rattle.tree_acts.proofs.Sizes.{low_level, pages_few}
use Rattle.page_delete.proofs.Imports.{Bound, State, bound_aim, IsOnDescent, IsInOrder, NumbersStay, Position, CleanupIsUnderway, CleanupsAreUndisturbed, CleanupsAreBounded, steps_for_page}
use Rattle.page_delete.proofs.Imports.{turn_left, pages_left, CleanupAt, Look, Start, Down, Judge, Unlink}
use Rattle.page_delete.proofs.Measuring.{mul_le, bounded}

way_stays : (old new : State) (start : ℕ) (high : Bound) (position : Position) → NumbersStay start old new → IsOnDescent old start (bound_aim high) false 1 position → IsOnDescent new start (bound_aim high) false 1 position
way_stays old new start high position stay w = record {
  not_below = w.not_below;
  place = stay.places position.level (bound_aim high) false position.block (bound_falls high) w.place;
  trail = stay.trails position.level position.block position.moves w.trail;
}

pub underway_still : (old new : State) (start cursor : ℕ) (at : CleanupAt) → NumbersStay start old new → CleanupIsUnderway old start cursor at → CleanupIsUnderway new start cursor at
underway_still old new start cursor Look stay h = tt
underway_still old new start cursor (Start high) stay h = stay.trails 0 cursor 0 h
underway_still old new start cursor (Down high position) stay h = (stay.trails 0 cursor 0 h.0, way_stays old new start high position stay h.1)
underway_still old new start cursor (Judge high parent) stay h = (stay.trails 0 cursor 0 h.0, stay.places 1 (bound_aim high) false parent (bound_falls high) h.1)
underway_still old new start cursor Unlink stay h = stay.trails 0 cursor 0 h

pub undisturbed : CleanupsAreUndisturbed
undisturbed old new op rely fits = record {
  session = fits.session;
  start = fits.start;
  running = rely.number ∙ fits.running;
  held = rely.held ∙ fits.held;
  at = underway_still old new fits.start op.cursor op.at (rely.numbers fits.start fits.running) fits.at;
}

turn_small : (st : State) (start cursor : ℕ) (at : CleanupAt) → IsInOrder st → CleanupIsUnderway st start cursor at → turn_left st.format.pages at < steps_for_page st.format.pages
turn_small st start cursor Look order h = omega arith
turn_small st start cursor (Start high) order h = omega arith
turn_small st start cursor (Down high position) order h =
    let low = low_level st start position.level (bound_aim high) false position.block order.tree h.1.place in
    let m = mul_le position.level 31 (st.format.pages + 2) low in
    omega (arith, m)
turn_small st start cursor (Judge high parent) order h = omega arith
turn_small st start cursor Unlink order h = omega arith

pages_small : (used cursor : ℕ) (at : CleanupAt) → pages_left used cursor at ≤ used
pages_small used cursor Look = omega arith
pages_small used cursor (Start high) = omega arith
pages_small used cursor (Down high position) = omega arith
pages_small used cursor (Judge high parent) = omega arith
pages_small used cursor Unlink = omega arith

pub cleanups_bounded : CleanupsAreBounded
cleanups_bounded st op order fits few =
    bounded st.format.pages (length st.pages) op.cursor op.at few (pages_few st order.tree) (turn_small st fits.start op.cursor op.at order fits.at) (pages_small (length st.pages) op.cursor op.at)
