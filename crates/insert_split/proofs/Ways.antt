-- Where an insert stands on its way.
use Rattle.std.proofs.Common.{◌≡◌, ℕ, ◌≤◌, Bool, false, Some, slice_get, sym, ap, subst, ◌∙◌, arith}
use Rattle.tree_shape.specs.Tree.{IsMetaOf}
use Rattle.tree_acts.specs.Levels.{root_level, level_of, level_with}
use Rattle.insert_split.proofs.Imports.{Bound, IsPage, IsOfKind, Items, Meta, Entries, Downlinks, Page, State, HasTree, HasCover, NoneIsIncomplete, metapage_shows, trail_begins_here}
use Rattle.insert_split.proofs.Imports.{root_covers_all, IsOnDescent, position_from, Position}

-- a page of the format is on a level up to 31
pub level_low : (page : Page) → IsPage page → page.level ≤ 31
level_low page admitted = by page.items admitted.kind
  where
    by : (items : Items) → IsOfKind page items → page.level ≤ 31
    by Meta h = h.level
    by (Entries v) h = (let z : page.level ≡ 0 = h.level in omega arith)
    by (Downlinks v) h = h.level.1

-- the root is on the way, whatever is looked for
pub on_way_from_root : (st : State) (start : ℕ) (aim : Bound → Bool) (clear : Bool) (to : ℕ) (meta : Page) (position : Position) → HasTree st → slice_get st.pages 0 ≡ Some meta → to ≤ meta.level
    → ((root : ℕ) → IsMetaOf meta root meta.level → Some position ≡ Some (position_from root meta.level)) → IsOnDescent st start aim clear to position
on_way_from_root st start aim clear to meta position tree found le named =
    let there = metapage_shows st start aim clear meta tree found in
    let is : position ≡ position_from there.root meta.level = (let k = named there.root there.names in cc) in
    subst (IsOnDescent st start aim clear to) (sym is) (record {
      not_below = le;
      place = there.place;
      trail = trail_begins_here st start meta.level aim clear there.root tree there.place;
    })

-- if no page has an incomplete split, the root covers whatever is looked for
pub root_covers_there : (st : State) (aim : Bound → Bool) (meta : Page) (position : Position) → HasTree st → NoneIsIncomplete st.pages → slice_get st.pages 0 ≡ Some meta
    → ((root : ℕ) → IsMetaOf meta root meta.level → Some position ≡ Some (position_from root meta.level)) → HasCover st position.level aim position.block × (position.level ≡ root_level st.pages)
root_covers_there st aim meta position h whole found named =
    let r = metapage_shows st 0 aim false meta h found in
    let is : position ≡ position_from r.root meta.level = (let k = named r.root r.names in cc) in (
      subst (λ (w : Position). HasCover st w.level aim w.block) (sym is) (root_covers_all st aim meta r.root h whole found r.names),
      ap (λ (w : Position). w.level) is ∙ sym (ap level_of found ∙ ap (λ (items : Items). level_with items meta.level) r.names.kind),
    )
