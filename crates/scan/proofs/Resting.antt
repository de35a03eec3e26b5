-- Steps with no action, on a tree that many sessions share.
use Rattle.std.proofs.Common.{◌≡◌, ℕ, Bool, inl, refl, sym, subst}
use Rattle.scan.proofs.Imports.{Bound, Table, State, with_table, LeadsTo, HasTrail, IsOnDescent, IsOneActAtMost, Position}

-- other latches and pins leave every page number what it was
place_with : (st : State) (table : Table) (start level : ℕ) (aim : Bound → Bool) (clear : Bool) (block : ℕ) → LeadsTo st start level aim clear block
    → LeadsTo (with_table st table) start level aim clear block
place_with st table start level aim clear block p = record { tree = p.tree; in_tree = p.in_tree; place = p.place }

trail_with : (st : State) (table : Table) (start level block moves : ℕ) → HasTrail st start level block moves → HasTrail (with_table st table) start level block moves
trail_with st table start level block moves t =
    record { tree = t.tree; in_tree = t.in_tree; passed = t.passed; count = t.count; distinct = t.distinct; steps = t.steps; trail = t.trail }

pub way_with : (st : State) (table : Table) (start : ℕ) (aim : Bound → Bool) (clear : Bool) (to : ℕ) (position : Position) → IsOnDescent st start aim clear to position
    → IsOnDescent (with_table st table) start aim clear to position
way_with st table start aim clear to position on = record {
  not_below = on.not_below;
  place = place_with st table start position.level aim clear position.block on.place;
  trail = trail_with st table start position.level position.block position.moves on.trail;
}

pub rests : (old new : State) (table : Table) → new ≡ with_table old table → IsOneActAtMost old new
rests old new table is = subst (λ (st : State). IsOneActAtMost old st) (sym is) (record {
  acts = inl refl;
  quiet = λ same. refl;
  format = refl;
  frames = refl;
  begun = refl;
  running = refl;
})

pub quiet_by : (old new : State) (table : Table) → new ≡ with_table old table → new ≡ with_table old new.table
quiet_by old new table is = subst (λ (st : State). st ≡ with_table old st.table) (sym is) refl
