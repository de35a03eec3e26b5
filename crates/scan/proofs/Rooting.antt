-- The way from the metapage.
use Rattle.std.proofs.Common.{◌≡◌, ℕ, Bool, Some, slice_get, arith, false, ap, ◌∙◌}
use Rattle.tree_shape.specs.Tree.{IsMetaOf}
use Rattle.scan.proofs.Imports.{Bound, Items, Page, State, HasTree, HasCover, NoneIsIncomplete, metapage_shows, trail_begins_here, root_covers_all, IsOnDescent, position_from}
use Rattle.tree_acts.specs.Levels.{level_with, level_of, root_level}

-- in a tree the metapage names a root, where a call begins its way
pub record StartsFrom (st : State) (start : ℕ) (aim : Bound → Bool) (clear : Bool) (meta : Page) : Type 0 where
  pub root : ℕ
  pub names : IsMetaOf meta root meta.level
  pub on : IsOnDescent st start aim clear 0 (position_from root meta.level)

pub root_way : (st : State) (start : ℕ) (aim : Bound → Bool) (clear : Bool) (meta : Page) → HasTree st → slice_get st.pages 0 ≡ Some meta → StartsFrom st start aim clear meta
root_way st start aim clear meta h found =
    let r = metapage_shows st start aim clear meta h found in
    record {
      root = r.root;
      names = r.names;
      on = record { not_below = omega arith; place = r.place; trail = trail_begins_here st start meta.level aim clear r.root h r.place };
    }

-- if no page has an incomplete split, the root covers whatever is looked for
pub record StartsStraight (st : State) (aim : Bound → Bool) (meta : Page) : Type 0 where
  pub root : ℕ
  pub names : IsMetaOf meta root meta.level
  pub covers : HasCover st meta.level aim root
  pub level_is : root_level st.pages ≡ meta.level

pub straight_root : (st : State) (aim : Bound → Bool) (meta : Page) → HasTree st → NoneIsIncomplete st.pages → slice_get st.pages 0 ≡ Some meta → StartsStraight st aim meta
straight_root st aim meta h whole found =
    let r = metapage_shows st 0 aim false meta h found in
    record {
      root = r.root;
      names = r.names;
      covers = root_covers_all st aim meta r.root h whole found r.names;
      level_is = ap level_of found ∙ ap (λ (items : Items). level_with items meta.level) r.names.kind;
    }
