-- What an insert knows lasts while others act, and what it has to do has a bound.
use Rattle.std.proofs.Common.{ℕ, suc, ◌<◌, ◌≤◌, length, true, sym, subst, ◌∙◌, arith}
use Rattle.tree_acts.proofs.Sizes.{low_level}
use Rattle.split_finish.proofs.Bounds.{finish_bounded}
use Rattle.split_finish.specs.declared.finish.FinishAt.{FinishAt}
use Rattle.insert_split.specs.Laws.{InsertsAreUndisturbed, FreshInsertsAreBounded, InsertsAreBounded}
use Rattle.insert_split.proofs.Imports.{Entry, bound_of, Bound, State, entry_aim, bound_aim, bound_falls, HasTree, IsOnDescent, MayRely, NumbersStay, Position, IsTarget, FinishStands}
use Rattle.insert_split.proofs.Imports.{FinishInvariant, walk_is_long, FinishStart, Down, Link, Root, FinishOp, Target, InsertStands, insert_left, InsertAt, Coming, Finishing, Start, At, Holds}
use Rattle.insert_split.proofs.Adding.{holds_leaf}

way_still : (old new : State) (start to : ℕ) (e : Bound) (position : Position) → NumbersStay start old new → IsOnDescent old start (bound_aim e) true to position → IsOnDescent new start (bound_aim e) true to position
way_still old new start to e position stay on = record {
  not_below = on.not_below;
  place = stay.places position.level (bound_aim e) true position.block (bound_falls e) on.place;
  trail = stay.trails position.level position.block position.moves on.trail;
}

target_still : (old new : State) (start least : ℕ) (target : Target) → NumbersStay start old new → IsTarget old start least target → IsTarget new start least target
target_still old new start least target stay h =
    record { high_enough = h.high_enough; place = stay.places target.level (bound_aim target.separator) true target.block (bound_falls target.separator) h.place }

finish_stands : (old new : State) (start : ℕ) (target : Target) (at : FinishAt) → NumbersStay start old new → FinishStands old start target at → FinishStands new start target at
finish_stands old new start target FinishStart stay h = h
finish_stands old new start target (Down position) stay h = way_still old new start (suc target.level) target.separator position stay h
finish_stands old new start target (Link position) stay h = (h.0, way_still old new start (suc target.level) target.separator position stay h.1)
finish_stands old new start target Root stay h = h

-- a call that finishes splits
pub finish_still : (old new : State) (op : FinishOp) → MayRely op.session old new → FinishInvariant old op → FinishInvariant new op
finish_still old new op rely fits =
    let stay = rely.numbers fits.start fits.running in
    record {
      session = fits.session;
      free = rely.held ∙ fits.free;
      start = fits.start;
      running = rely.number ∙ fits.running;
      newest = target_still old new fits.start (length op.below.items) op.target stay fits.newest;
      below = λ i target is. target_still old new fits.start i target stay (fits.below i target is);
      stands = finish_stands old new fits.start op.target op.at stay fits.stands;
    }

stands_still : (old new : State) (session start : ℕ) (e : Entry) (at : InsertAt) → MayRely session old new → NumbersStay start old new
    → InsertStands old session start e at → InsertStands new session start e at
stands_still old new session start e (Coming Start) rely stay h = rely.held ∙ h
stands_still old new session start e (Coming (At position)) rely stay h = (rely.held ∙ h.0, way_still old new start 0 (bound_of e) position stay h.1)
stands_still old new session start e (Coming (Holds block)) rely stay h = (
  rely.held ∙ h.0,
  record {
    page = h.1.page;
    found = rely.pages block (holds_leaf old session block h.0) ∙ h.1.found;
    alive = h.1.alive;
    leaf = h.1.leaf;
    whole = h.1.whole;
    place = stay.places 0 (entry_aim e) true block (bound_falls (bound_of e)) h.1.place;
    within = h.1.within;
  },
)
stands_still old new session start e (Finishing op) rely stay h = (h.0, finish_still old new op (subst (λ (s : ℕ). MayRely s old new) (sym h.0) rely) h.1)

pub undisturbed : InsertsAreUndisturbed
undisturbed old new op rely fits = record {
  session = fits.session;
  start = fits.start;
  running = rely.number ∙ fits.running;
  stands = stands_still old new op.session fits.start op.entry op.at rely (rely.numbers fits.start fits.running) fits.stands;
  to_come = fits.to_come;
}

pub bounded : FreshInsertsAreBounded
bounded most pages few = omega arith

left_few : (st : State) (session start : ℕ) (e : Entry) (at : InsertAt) → HasTree st → st.format.pages ≤ 65536 → InsertStands st session start e at
    → insert_left st.format.pages st.pages at < 4398046511104
left_few st session start e (Coming Start) has few stands = omega arith
left_few st session start e (Coming (At position)) has few stands =
    let low = low_level st start position.level (entry_aim e) true position.block has stands.1.place in
    let short = walk_is_long st.format.pages position (omega arith) in
    omega arith
left_few st session start e (Coming (Holds block)) has few stands = omega arith
left_few st session start e (Finishing op) has few stands = (let left = finish_bounded st op st.format.pages has stands.1 in omega arith)

pub bounded_at_each_moment : InsertsAreBounded
bounded_at_each_moment st op order few fits = left_few st op.session fits.start op.entry op.at order.tree few fits.stands
