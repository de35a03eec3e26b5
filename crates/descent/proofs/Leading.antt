-- Where a page leads a call, in a tree.
use Rattle.std.proofs.Common.{◌≡◌, ◌≢◌, ◌⊎◌, inl, inr, ℕ, zero, suc, ◌<◌, ◌≤◌, Bool, true, false, true≢false, slice_get, length, Option, Some, None, refl, sym, ap, subst, ◌∙◌, arith}
use Rattle.page_action.proofs.StoredPages.{stored_page}
use Rattle.tree_shape.specs.Aims.{aim_of, IsToward}
use Rattle.tree_shape.specs.Nodes.{Node, node_of, node_from, nodes_of, links_of}
use Rattle.tree_shape.specs.Chains.{first_context}
use Rattle.tree_shape.proofs.Places.{IsCoverAt, cover_at}
use Rattle.tree_shape.specs.Walks.{is_within}
use Rattle.tree_shape.specs.declared.aim.SearchKey.{SearchKey}
use Rattle.tree_acts.specs.Ways.{RightIsThere, IsArrival, NoneIsIncomplete}
use Rattle.tree_acts.proofs.Meanings.{passed_shows, live_shows, internal_shows, straight_shows, trail_begins_here, trail_moves_right, trail_is_short_here}
use Rattle.tree_acts.proofs.Finishing.{covered}
use Rattle.tree_acts.proofs.Lasting.{on_level}
use Rattle.tree_acts.proofs.Words.{cover_in}
use Rattle.descent.proofs.Imports.{lt-ltb, Ascends, LinkBefore, StartsLow, IsPage, IsOfKind, Items, Meta, Entries, Downlinks, Page, Live, State, HasTree, LeadsTo, HasCover, HasTrail, IsOnDescent}
use Rattle.descent.proofs.Imports.{LeadsToNext, LeadsStraight, right_from, right_of, going, DownTo, Position}

-- an internal page of the format has downlinks that ascend from minus infinity
internal_links : (page : Page) (level : ℕ) → IsPage page → page.level ≡ suc level → 0 < page.block → Ascends LinkBefore (links_of page.items) × StartsLow (links_of page.items)
internal_links page level admitted is above = by page.items refl admitted.kind
  where
    by : (items : Items) → page.items ≡ items → IsOfKind page items → Ascends LinkBefore (links_of page.items) × StartsLow (links_of page.items)
    by Meta same h = absurd (let z : page.block ≡ 0 = h.block in omega arith)
    by (Entries v) same h = absurd (let z : page.level ≡ 0 = h.level in omega arith)
    by (Downlinks v) same h = rw same (h.links.ascends, h.first)

module _ (st : State) (start : ℕ) (clear : Bool) (aim : SearchKey) (to most : ℕ) (page : Page) (position : Position) (h : HasTree st) (found : slice_get st.pages position.block ≡ Some page)
    (on : IsOnDescent st start (aim_of aim) clear to position) (whole : clear ≡ true → page.split ≡ false) (few : length st.pages ≤ most) where
  at_block : page.block ≡ position.block
  at_block = (stored_page st.format position.block st.pages page h.stored found).block_is

  found_there : slice_get st.pages page.block ≡ Some page
  found_there = subst (λ (b : ℕ). slice_get st.pages b ≡ Some page) (sym at_block) found

  place_there : LeadsTo st start position.level (aim_of aim) clear page.block
  place_there = subst (LeadsTo st start position.level (aim_of aim) clear) (sym at_block) on.place

  arrival : page.state ≡ Live → IsArrival st position.level (aim_of aim) page
  arrival alive = live_shows st start position.level (aim_of aim) clear page h found_there place_there alive

  -- a live page is on its level
  pub on_its_level : page.state ≡ Live → page.level ≢ position.level → ⊥
  on_its_level alive ne = ne (arrival alive).level_is

  -- a page that has to be passed leads right
  pub leads_right : (page.state ≢ Live) ⊎ (is_within (aim_of aim) page.high ≡ false) → LeadsToNext st start (aim_of aim) clear to position (going (right_of page position most))
  leads_right why = go (passed_shows st start position.level (aim_of aim) clear page h found_there place_there (record { why = why; whole = whole }))
    where
      go : RightIsThere st start position.level (aim_of aim) clear page → LeadsToNext st start (aim_of aim) clear to position (going (right_of page position most))
      go r =
          let short = trail_is_short_here st start position.level position.block position.moves h on.trail in
          let on_right = trail_moves_right st start position.level position.moves r.to page h found_there r.right_is (subst (λ (b : ℕ). HasTrail st start position.level b position.moves) (sym at_block) on.trail) in
          subst (λ (o : Option ℕ). LeadsToNext st start (aim_of aim) clear to position (going (right_from o position most))) (sym r.right_is)
          (rw (lt-ltb position.moves most (omega arith)) (record { not_below = on.not_below; place = r.place; trail = on_right }))

  covers : page.state ≡ Live → is_within (aim_of aim) page.high ≡ true → HasCover st position.level (aim_of aim) page.block
  covers alive within = (arrival alive).covers within

  -- the page sought
  pub leads_here : page.state ≡ Live → is_within (aim_of aim) page.high ≡ true → position.level ≡ to → (position.level ≡ to) × HasCover st to (aim_of aim) position.block
  leads_here alive within is = (is, subst (λ (b : ℕ). HasCover st to (aim_of aim) b) at_block (subst (λ (k : ℕ). HasCover st k (aim_of aim) page.block) is (covers alive within)))

  -- a page above it leads down
  pub leads_down : page.state ≡ Live → is_within (aim_of aim) page.high ≡ true → to < position.level → (r : Option Position) → DownTo page position aim r → LeadsToNext st start (aim_of aim) clear to position (going r)
  leads_down alive within lower r down = by position.level refl r down
    where
      links_at : (level : ℕ) → position.level ≡ suc level → Ascends LinkBefore (links_of page.items) × StartsLow (links_of page.items)
      links_at level is =
          let c = subst (λ (k : ℕ). HasCover st k (aim_of aim) page.block) is (covers alive within) in
          let w = covered st h.tree (suc level) (aim_of aim) page.block c in
          let above : 0 < page.block = (h.tree.is.in_use (suc level) page.block w.0 w.1).0 in
          internal_links page level (stored_page st.format position.block st.pages page h.stored found).storable.admitted ((arrival alive).level_is ∙ is) above

      by : (level : ℕ) → position.level ≡ level → (r : Option Position) → DownTo page position aim r → LeadsToNext st start (aim_of aim) clear to position (going r)
      by zero is r down = absurd (omega arith)
      by (suc level) is None down = (let l = links_at level is in absurd (down l.0 l.1))
      by (suc level) is (Some child) down =
          let l = links_at level is in
          let t : IsToward (links_of page.items) (aim_of aim) child.block = down.2 l.0 l.1 in
          let same : child.level ≡ level = (let a = down.0 in omega arith) in
          let place = subst (λ (k : ℕ). LeadsTo st start k (aim_of aim) clear child.block) (sym same)
          (internal_shows st start level (aim_of aim) clear page h found_there (subst (λ (k : ℕ). HasCover st k (aim_of aim) page.block) is (covers alive within))
          t.before t.bound child.block t.after t.links_are t.beyond) in
          record {
            not_below = omega arith;
            place = place;
            trail = subst (HasTrail st start child.level child.block) (sym down.1) (trail_begins_here st start child.level (aim_of aim) clear child.block h place);
          }

-- if no page has an incomplete split, from a page that covers what is looked for
module _ (st : State) (aim : SearchKey) (to : ℕ) (page : Page) (position : Position) (h : HasTree st) (whole : NoneIsIncomplete st.pages) (found : slice_get st.pages position.block ≡ Some page)
    (cover : HasCover st position.level (aim_of aim) position.block) where
  cover_block : page.block ≡ position.block
  cover_block = (stored_page st.format position.block st.pages page h.stored found).block_is

  cover_found : slice_get st.pages page.block ≡ Some page
  cover_found = subst (λ (b : ℕ). slice_get st.pages b ≡ Some page) (sym cover_block) found

  here : nodes_of st.pages position.block ≡ node_of page
  here = ap node_from found

  at_cover : IsCoverAt (nodes_of st.pages) first_context (h.tree.chain position.level) (aim_of aim) position.block
  at_cover = cover_at (nodes_of st.pages) first_context (h.tree.chain position.level) (aim_of aim) position.block (cover_in st h.tree position.level (aim_of aim) position.block cover).covers

  tall : position.level ≤ h.tree.meta.level
  tall = (cover_in st h.tree position.level (aim_of aim) position.block cover).in_tree

  -- it is on its level, and isn't passed
  pub covers_on_level : page.level ≢ position.level → ⊥
  covers_on_level ne =
      let w = covered st h.tree position.level (aim_of aim) position.block cover in
      ne (sym (ap (λ (n : Node). n.level) here) ∙ on_level st h.tree position.level position.block w.0 w.1)

  pub covers_not_passed : (page.state ≢ Live) ⊎ (is_within (aim_of aim) page.high ≡ false) → ⊥
  covers_not_passed (inl dead) = dead (sym (ap (λ (n : Node). n.state) here) ∙ at_cover.alive)
  covers_not_passed (inr out) = true≢false (sym (sym (ap (λ (n : Node). is_within (aim_of aim) n.high) here) ∙ at_cover.within) ∙ out)

  links_there : (level : ℕ) → position.level ≡ suc level → Ascends LinkBefore (links_of page.items) × StartsLow (links_of page.items)
  links_there level is =
      let w = covered st h.tree position.level (aim_of aim) position.block cover in
      let above : 0 < page.block = subst (λ (b : ℕ). 0 < b) (sym cover_block) (h.tree.is.in_use position.level position.block w.0 w.1).0 in
      internal_links page level (stored_page st.format position.block st.pages page h.stored found).storable.admitted
      (sym (ap (λ (n : Node). n.level) here) ∙ on_level st h.tree position.level position.block w.0 w.1 ∙ is) above

  pub leads_straight_down : to < position.level → (r : Option Position) → DownTo page position aim r → LeadsStraight st (aim_of aim) to position (going r)
  leads_straight_down lower r down = by position.level refl r down
    where
      by : (level : ℕ) → position.level ≡ level → (r : Option Position) → DownTo page position aim r → LeadsStraight st (aim_of aim) to position (going r)
      by zero is r down = absurd (omega arith)
      by (suc level) is None down = (let l = links_there level is in absurd (down l.0 l.1))
      by (suc level) is (Some child) down =
          let l = links_there level is in
          let t : IsToward (links_of page.items) (aim_of aim) child.block = down.2 l.0 l.1 in
          let same : child.level ≡ level = (let a = down.0 in omega arith) in (
            down.0,
            subst (λ (k : ℕ). HasCover st k (aim_of aim) child.block) (sym same)
                (straight_shows st level (aim_of aim) page h whole cover_found
                (subst (λ (b : ℕ). HasCover st (suc level) (aim_of aim) b) (sym cover_block) (subst (λ (k : ℕ). HasCover st k (aim_of aim) position.block) is cover))
                t.before t.bound child.block t.after t.links_are t.beyond t.up_to_next),
          )
