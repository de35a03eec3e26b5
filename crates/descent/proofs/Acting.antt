-- What an act on a tree leaves to the sessions that share it.
use Rattle.std.proofs.Common.{◌≡◌, ◌≢◌, inl, inr, ℕ, suc, Bool, true, false, true≢false, ◌||◌, Option, Some, None, if◌then◌else◌, List, [], ◌∷◌, length, slice_get, refl, sym, subst, ◌∙◌, arith}
use Rattle.index_model.specs.Actions.{Add, Shape, said_of}
use Rattle.index_model.specs.Order.{same_entry}
use Rattle.index_model.specs.declared.bound.Bound.{Bound}
use Rattle.page_action.specs.Contents.{entry_on_live_leaf}
use Rattle.tree_acts.specs.Acts.{MayActWith, TreeLasts, ContentsStay, ContentsGain}
use Rattle.tree_acts.specs.Leaves.{LeafPagesStay}
use Rattle.tree_acts.proofs.Leaving.{leaves_same}
use Rattle.tree_acts.proofs.Lows.{lows_same}
use Rattle.descent.proofs.Imports.{unwrap_or, Entry, Table, holding_of, is_held_by_another, Exclusive, Page, State, with_table, after_act, IsApartFrom, HasTree, LeadsTo, HasTrail, PlacesLast}
use Rattle.descent.proofs.Imports.{TrailsLast, pages_other, HoldsAlone, AreApart, IsRaised, IsInOrder, NumbersStay, OthersRely, SplitsALeaf, FinishesASplit, StepEffect, DeletesALeaf}
use Rattle.descent.proofs.Imports.{CleanupEffect, IsOneActAtMost}
use Rattle.descent.proofs.Tables.{any_excluded, free_of}

-- nothing of another session's is in the way of changing these pages
abbrev pub AreFree : State → ℕ → List Page → Type 0
AreFree st session [] = Unit {0}
AreFree st session (page ∷ changed) =
    (is_held_by_another st.table session page.block Exclusive ≡ false) × AreFree st session changed

-- what another session holds alone is none of these pages
pub apart_from_held : (st : State) (session other block : ℕ) (changed : List Page) → other ≢ session → HoldsAlone st.table other block → AreFree st session changed → IsApartFrom block changed
apart_from_held st session other block [] differ alone free = tt
apart_from_held st session other block (page ∷ changed) differ alone free = (
  (λ same. true≢false (sym (any_excluded (holding_of st.table other).latches page.block Exclusive (subst (λ (b : ℕ). HoldsAlone st.table other b) (sym same) alone))
      ∙ free_of st.table session page.block Exclusive other differ free.0)),
  apart_from_held st session other block changed differ alone free.1,
)

-- the numbers that a call keeps stay good over an act that lasts
pub numbers_stay : (old new : State) (session start : ℕ) → slice_get old.running session ≡ Some (Some start) → PlacesLast old new → TrailsLast old new → NumbersStay start old new
numbers_stay old new session start runs places trails = record {
  places = λ level aim clear block aims place. places start level aim clear block (record { session = session; is = runs }) aims place;
  trails = λ level block moves trail. trails start level block moves (record { session = session; is = runs }) trail;
}

pub others_rely : (st : State) (session : ℕ) (changed : List Page) → MayActWith st changed → TreeLasts st (after_act changed st) → AreFree st session changed
    → OthersRely session st (after_act changed st)
others_rely st session changed may lasts free other differ = record {
  held = refl;
  number = refl;
  pages = λ block alone. pages_other st.format (length st.pages) st.pages changed block may (omega arith) (apart_from_held st session other block changed differ alone free);
  numbers = λ start runs. numbers_stay st (after_act changed st) other start runs lasts.places lasts.trails;
  lows = lasts.lows;
}

in_order_after : (st : State) (changed : List Page) → IsInOrder st → TreeLasts st (after_act changed st) → IsInOrder (after_act changed st)
in_order_after st changed order lasts = record { tree = lasts.has; apart = order.apart; holdings = order.holdings; calls = order.calls }

-- an act on the shape alone, by which a split is finished
pub does_finish : (st : State) (session : ℕ) (changed : List Page) → IsInOrder st → MayActWith st changed → TreeLasts st (after_act changed st) → ContentsStay st (after_act changed st)
    → LeafPagesStay (Some Shape) st (after_act changed st) → FinishesASplit st (after_act changed st) → AreFree st session changed → StepEffect session (Some Shape) st (after_act changed st)
does_finish st session changed order may lasts stay leaves finishes free = record {
  changes = record { acts = refl; apt = tt; contents = stay };
  flags = finishes;
  leaves = leaves;
  format = refl;
  frames = refl;
  begun = refl;
  running = refl;
  order = in_order_after st changed order lasts;
  others = others_rely st session changed may lasts free;
}

said : (e x : Entry) (was : Bool) → unwrap_or (said_of (Add e) x) was ≡ (same_entry e x || was)
said e x was = by (same_entry e x)
  where
    by : (b : Bool) → unwrap_or (if b then Some true else None) was ≡ (b || was)
    by true = refl
    by false = refl

-- a place is one whoever holds what
pub place_held_else : (st : State) (table : Table) (start level : ℕ) (aim : Bound → Bool) (clear : Bool) (block : ℕ)
    → LeadsTo st start level aim clear block → LeadsTo (with_table st table) start level aim clear block
place_held_else st table start level aim clear block place = record { tree = place.tree; in_tree = place.in_tree; place = place.place }

pub trail_held_else : (st : State) (table : Table) (start level block moves : ℕ) → HasTrail st start level block moves → HasTrail (with_table st table) start level block moves
trail_held_else st table start level block moves trail =
    record { tree = trail.tree; in_tree = trail.in_tree; passed = trail.passed; count = trail.count; distinct = trail.distinct; steps = trail.steps; trail = trail.trail }

-- ... by a session that lets go what it held
pub others_rely_else : (st : State) (session : ℕ) (changed : List Page) (table : Table) → MayActWith st changed → TreeLasts st (after_act changed st)
    → ((other block : ℕ) → other ≢ session → HoldsAlone st.table other block → IsApartFrom block changed)
    → ((other : ℕ) → other ≢ session → holding_of table other ≡ holding_of st.table other)
    → OthersRely session st (with_table (after_act changed st) table)
others_rely_else st session changed table may lasts apart kept other differ = record {
  held = kept other differ;
  number = refl;
  pages = λ block alone. pages_other st.format (length st.pages) st.pages changed block may (omega arith) (apart other block differ alone);
  numbers = λ start runs.
      let stay = numbers_stay st (after_act changed st) other start runs lasts.places lasts.trails in
      record {
        places = λ level aim clear block aims place. place_held_else (after_act changed st) table start level aim clear block (stay.places level aim clear block aims place);
        trails = λ level block moves trail. trail_held_else (after_act changed st) table start level block moves (stay.trails level block moves trail);
      };
  lows = lasts.lows;
}

raised_else : (old new : State) (table : Table) (level : ℕ) (raised : Option ℕ) → IsRaised old new level raised → IsRaised old (with_table new table) level raised
raised_else old new table level None h = tt
raised_else old new table level (Some b) h = h

tree_held_else : (st : State) (table : Table) → HasTree st → HasTree (with_table st table)
tree_held_else st table tree = record { tree = tree.tree; stored = tree.stored; counted = tree.counted; within = tree.within; lead = tree.lead; unique = tree.unique }

-- an act that puts an entry which wasn't there, by a session that may let go what it held
pub does_add : (st : State) (session : ℕ) (e : Entry) (changed : List Page) (table : Table) → IsInOrder st → MayActWith st changed → TreeLasts st (after_act changed st)
    → ContentsGain e st (after_act changed st) → LeafPagesStay (Some (Add e)) st (after_act changed st) → entry_on_live_leaf st.pages e ≡ false → SplitsALeaf st (after_act changed st)
    → ((other block : ℕ) → other ≢ session → HoldsAlone st.table other block → IsApartFrom block changed)
    → AreApart table → length table ≡ 64 → ((other : ℕ) → other ≢ session → holding_of table other ≡ holding_of st.table other)
    → StepEffect session (Some (Add e)) st (with_table (after_act changed st) table)
does_add st session e changed table order may lasts gain leaves absent splits apart_pages apart many kept = record {
  changes = record {
    acts = refl;
    apt = absent;
    contents = λ x. gain x ∙ sym (said e x (entry_on_live_leaf st.pages x));
  };
  flags = record { raised = splits.raised; leaf = raised_else st (after_act changed st) table 0 splits.raised splits.leaf; moves = splits.moves; most = splits.most };
  leaves = record { cycle = leaves.cycle; each = leaves.each; others = leaves.others };
  format = refl;
  frames = refl;
  begun = refl;
  running = refl;
  order = record { tree = tree_held_else (after_act changed st) table lasts.has; apart = apart; holdings = many; calls = order.calls };
  others = others_rely_else st session changed table may lasts apart_pages kept;
}

-- what this session holds changed, and nothing else
pub holds_else : (session : ℕ) (old new : State) (table : Table) → new ≡ with_table old table → IsInOrder old → AreApart table → length table ≡ 64
    → ((other : ℕ) → other ≢ session → holding_of table other ≡ holding_of old.table other) → StepEffect session None old new
holds_else session old new table is order apart many kept = subst (λ (st : State). StepEffect session None old st) (sym is) (record {
  changes = refl;
  flags = tt;
  leaves = leaves_same old (with_table old table) refl refl;
  format = refl;
  frames = refl;
  begun = refl;
  running = refl;
  order = record { tree = tree_held_else old table order.tree; apart = apart; holdings = many; calls = order.calls };
  others = λ other differ. record {
    held = kept other differ;
    number = refl;
    pages = λ block alone. refl;
    numbers = λ start runs. record {
      places = λ level aim clear block aims place. record { tree = place.tree; in_tree = place.in_tree; place = place.place };
      trails = λ level block moves trail.
          record { tree = trail.tree; in_tree = trail.in_tree; passed = trail.passed; count = trail.count; distinct = trail.distinct; steps = trail.steps; trail = trail.trail };
    };
    lows = lows_same old.pages;
  };
})

-- nothing changed
pub nothing_else : (session : ℕ) (old new : State) → new ≡ old → IsInOrder old → StepEffect session None old new
nothing_else session old new same order = holds_else session old new old.table same order order.apart order.holdings (λ other differ. refl)

-- one step: one act, or nothing but who holds what
pub one_act : (old new : State) (changed : List Page) → new ≡ after_act changed old → IsOneActAtMost old new
one_act old new changed is = subst (λ (s : State). IsOneActAtMost old s) (sym is) (record {
  acts = inr refl;
  quiet = λ h. absurd (let k : suc old.acts ≡ old.acts = h in omega arith);
  format = refl;
  frames = refl;
  begun = refl;
  running = refl;
})

pub one_act_else : (old new : State) (changed : List Page) (table : Table) → new ≡ with_table (after_act changed old) table → IsOneActAtMost old new
one_act_else old new changed table is = subst (λ (s : State). IsOneActAtMost old s) (sym is) (record {
  acts = inr refl;
  quiet = λ h. absurd (let k : suc old.acts ≡ old.acts = h in omega arith);
  format = refl;
  frames = refl;
  begun = refl;
  running = refl;
})

pub one_table : (old new : State) (table : Table) → new ≡ with_table old table → IsOneActAtMost old new
one_table old new table is = subst (λ (s : State). IsOneActAtMost old s) (sym is) (record {
  acts = inl refl;
  quiet = λ h. refl;
  format = refl;
  frames = refl;
  begun = refl;
  running = refl;
})

pub one_nothing : (old new : State) → new ≡ old → IsOneActAtMost old new
one_nothing old new same = one_table old new old.table same

-- an act by which a leaf goes on its way out of the tree
pub does_delete : (st : State) (session : ℕ) (changed : List Page) → IsInOrder st → MayActWith st changed → TreeLasts st (after_act changed st) → ContentsStay st (after_act changed st)
    → DeletesALeaf st (after_act changed st) → AreFree st session changed → CleanupEffect session (Some Shape) st (after_act changed st)
does_delete st session changed order may lasts stay deletes free = record {
  changes = record { acts = refl; apt = tt; contents = stay };
  deletes = deletes;
  cycle = refl;
  format = refl;
  frames = refl;
  begun = refl;
  running = refl;
  order = in_order_after st changed order lasts;
  others = others_rely st session changed may lasts free;
}

-- a step of a cleanup that changes nothing
pub cleans_nothing : (session : ℕ) (old new : State) → new ≡ old → IsInOrder old → CleanupEffect session None old new
cleans_nothing session old new same order =
    let d = nothing_else session old new same order in
    record {
      changes = d.changes;
      deletes = tt;
      cycle = d.leaves.cycle;
      format = d.format;
      frames = d.frames;
      begun = d.begun;
      running = d.running;
      order = d.order;
      others = d.others;
    }
