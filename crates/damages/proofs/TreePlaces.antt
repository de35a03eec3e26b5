-- In a B-link tree a level's places are the pages of its chain.
use Rattle.std.proofs.Common.{◌≡◌, ℕ, zero, suc, ◌-◌, ◌<◌, ◌≤◌, inl, Some, None, List, [], ◌∷◌, ◌++◌, length, take, slice_get, refl, sym, ap, subst, ◌∙◌, arith}
use Rattle.damages.proofs.Ascending.{IsDownlinkAmong, upper_fits}
use Rattle.damages.proofs.Imports.{Downlink, Page, Node, nodes_of, LeftContext, past, context_after, first_context, first_or, LinksWithin, IsPlaced, IsRunOf, IsRootLevel, IsTreeOf, from_low, downlinks}
use Rattle.damages.proofs.Imports.{Index, index_of, moved_left, first_child, head, start, left_after_steps, Place, place_at, Here, node, context, IsOnLevel, IsBack, few_blocks, same_Some}
use Rattle.damages.proofs.Decided.{no_link}
use Rattle.damages.proofs.Linking.{due}
use Rattle.damages.proofs.Places.{in_from, one_place, placed_at, place_is}
use Rattle.damages.proofs.Ways.{moved_to, gone_first, never_back}

pub head_is : (ix : Index) (depth : ℕ) → head ix depth ≡ moved_left ix.at (start ix depth) ix.used
head_is ix zero = refl
head_is ix (suc depth) = refl

root_first : (at : ℕ → Node) (root : ℕ) (xs : List ℕ) → IsRootLevel at root xs → slice_get xs 0 ≡ Some root
root_first at root [] h = absurd h
root_first at root (b ∷ []) h = ap Some h
root_first at root (b ∷ c ∷ []) h = ap Some h.0
root_first at root (b ∷ c ∷ d ∷ ds) h = absurd h

first_is : (xs : List ℕ) (b : ℕ) → slice_get xs 0 ≡ Some b → first_or xs None ≡ Some b
first_is [] b e = e
first_is (x ∷ xs) b e = e

-- the first child of the leftmost page of a level is due
first_among : (at : ℕ → Node) (level : ℕ) (xs : List ℕ) (b : ℕ) → IsRunOf at (suc level) first_context xs None → slice_get xs 0 ≡ Some b
    → (d : Downlink) × IsDownlinkAmong d (downlinks at first_context xs) × (d.child ≡ first_child (at b).links)
first_among at level [] b run e = absurd (no_link e)
first_among at level (x ∷ xs) b run e = by (at x).links (upper_fits (at x).state level first_context (at x) run.0.fits).2 (ap (λ (c : ℕ). first_child (at c).links) (same_Some x b e))
  where
    by : (links : List Downlink) → LinksWithin None links (at x).high → first_child links ≡ first_child (at b).links
        → (d : Downlink) × IsDownlinkAmong d (from_low None links ++ downlinks at (past x (at x) first_context) xs) × (d.child ≡ first_child (at b).links)
    by [] w same = absurd w
    by (i ∷ is) w same = (record { bound = None; child = i.child }, inl refl, same)

module _ (pages : List Page) (chain : ℕ → List ℕ) (t : IsTreeOf (nodes_of pages) (length pages) (index_of pages).root (index_of pages).top chain) where
  abbrev ix : Index
  ix = index_of pages

  abbrev at : ℕ → Node
  at = nodes_of pages

  record StartsOn (depth : ℕ) : Type 0 where
    place : ℕ
    is : slice_get (chain (ix.top - depth)) place ≡ Some (start ix depth)

  few : (level : ℕ) → level ≤ ix.top → length (chain level) ≤ length pages
  few level le =
      let r = few_blocks (length pages) (chain level) some (t.distinct level le) (λ c i. t.in_use level c le i) in
      omega (arith, r)
    where
      some : 0 < length pages
      some =
          let root = t.in_use ix.top ix.root (omega arith) (in_from ix.root (chain ix.top) 0 (root_first at ix.root (chain ix.top) t.root_level)) in
          omega (arith, root.1)

  head_from : (depth : ℕ) → depth ≤ ix.top → StartsOn depth → slice_get (chain (ix.top - depth)) 0 ≡ Some (head ix depth)
  head_from depth deep s =
      gone_first at (ix.top - depth) (chain (ix.top - depth)) (t.runs (ix.top - depth) (omega arith)) (start ix depth) s.place s.is
      (length pages) (few (ix.top - depth) (omega arith))
      ∙ ap Some (sym (head_is ix depth))

  -- the first child of the leftmost page of a level is on the level below
  starts_below : (depth : ℕ) → suc depth ≤ ix.top → slice_get (chain (suc (ix.top - suc depth))) 0 ≡ Some (head ix depth) → StartsOn (suc depth)
  starts_below depth deep first =
      let d = first_among at (ix.top - suc depth) (chain (suc (ix.top - suc depth))) (head ix depth)
      (t.runs (suc (ix.top - suc depth)) (omega arith)) first in
      let a = due at first_context (chain (ix.top - suc depth)) d.0 (subst (IsDownlinkAmong d.0) (t.parents (ix.top - suc depth) (omega arith)) d.1) in
      record { place = a.place; is = subst (λ (b : ℕ). slice_get (chain (ix.top - suc depth)) a.place ≡ Some b) d.2 a.there }

  starts : (depth : ℕ) → depth ≤ ix.top → StartsOn depth
  starts zero deep = record {
    place = 0;
    is = subst (λ (l : ℕ). slice_get (chain l) 0 ≡ Some ix.root) (let k : ix.top ≡ ix.top - 0 = omega arith in k)
        (root_first at ix.root (chain ix.top) t.root_level);
  }
  starts (suc depth) deep =
      let level : ix.top - depth ≡ suc (ix.top - suc depth) = omega arith in
      starts_below depth deep (subst (λ (l : ℕ). slice_get (chain l) 0 ≡ Some (head ix depth)) level (head_from depth (omega arith) (starts depth (omega arith))))

  pub head_first : (depth : ℕ) → depth ≤ ix.top → slice_get (chain (ix.top - depth)) 0 ≡ Some (head ix depth)
  head_first depth deep = head_from depth deep (starts depth deep)

  pub place_told : (depth : ℕ) → depth ≤ ix.top → (n : ℕ)
      → place_at ix depth n ≡ record { context = context_after at first_context (take n (chain (ix.top - depth))); block = slice_get (chain (ix.top - depth)) n }
  place_told depth deep n = place_is at (ix.top - depth) (head ix depth) (chain (ix.top - depth))
      (t.runs (ix.top - depth) (omega arith)) (first_is (chain (ix.top - depth)) (head ix depth) (head_first depth deep)) n

  -- a block of a chain is on its level
  pub on_level_from : (depth n b : ℕ) → depth ≤ ix.top → slice_get (chain (ix.top - depth)) n ≡ Some b → IsOnLevel ix depth b
  on_level_from depth n b deep e =
      let inside = t.in_use (ix.top - depth) b (omega arith) (in_from b (chain (ix.top - depth)) n e) in
      let l = (placed_at at (ix.top - depth) first_context (chain (ix.top - depth)) n b (t.runs (ix.top - depth) (omega arith)) e).level_is in
      record { after_meta = inside.0; in_use = inside.1; level_is = omega arith }

  -- the ways to the leftmost pages stay on their levels, and never come back
  pub way_on : (depth steps : ℕ) → depth ≤ ix.top → IsOnLevel ix depth (left_after_steps ix depth steps)
  way_on depth steps deep =
      let s = starts depth deep in
      on_level_from depth (s.place - steps) (left_after_steps ix depth steps) deep
      (moved_to at (ix.top - depth) (chain (ix.top - depth)) (t.runs (ix.top - depth) (omega arith)) (start ix depth) s.place s.is steps)

  pub way_not_back : (depth step : ℕ) → depth ≤ ix.top → IsBack ix depth step → ⊥
  way_not_back depth step deep back =
      let s = starts depth deep in
      never_back at (ix.top - depth) (chain (ix.top - depth)) (t.runs (ix.top - depth) (omega arith)) (start ix depth) s.place s.is
      (t.distinct (ix.top - depth) (omega arith)) back.before back.met back.goes_on back.earlier (back.same ∙ ap (left_after_steps ix depth) back.comes)

  -- a place with its page, on the chain
  module _ (h : Here ix) where
    pub there : slice_get (chain (ix.top - h.depth)) h.place ≡ Some h.block
    there = sym (ap (λ (p : Place). p.block) (place_told h.depth h.deep h.place)) ∙ h.is

    pub context_is : context h ≡ context_after at first_context (take h.place (chain (ix.top - h.depth)))
    context_is = ap (λ (p : Place). p.context) (place_told h.depth h.deep h.place)

    pub placed : IsPlaced (node h) (ix.top - h.depth) (context h) (slice_get (chain (ix.top - h.depth)) (suc h.place))
    placed = subst (λ (s : LeftContext). IsPlaced (node h) (ix.top - h.depth) s (slice_get (chain (ix.top - h.depth)) (suc h.place))) (sym context_is)
        (placed_at at (ix.top - h.depth) first_context (chain (ix.top - h.depth)) h.place h.block (t.runs (ix.top - h.depth) (let deep = h.deep in omega arith)) there)

    pub on_level : IsOnLevel ix h.depth h.block
    on_level = on_level_from h.depth h.place h.block h.deep there

    -- the page there is on no other place
    pub same_context : (level place : ℕ) → level ≤ ix.top → slice_get (chain level) place ≡ Some h.block
        → context h ≡ context_after at first_context (take place (chain level))
    same_context level place le e =
        let deep = h.deep in
        let l = (placed_at at level first_context (chain level) place h.block (t.runs level le) e).level_is in
        let m = on_level.level_is in
        let same : ix.top - h.depth ≡ level = omega arith in
        let own = subst (λ (n : ℕ). slice_get (chain n) h.place ≡ Some h.block) same there in
        let one = one_place (chain level) h.place place h.block (t.distinct level le) own e in
        context_is ∙ ap (λ (n : ℕ). context_after at first_context (take h.place (chain n))) same ∙ ap (λ (n : ℕ). context_after at first_context (take n (chain level))) one
