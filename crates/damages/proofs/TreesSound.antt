-- In a B-link tree there is no damage.
use Rattle.std.proofs.Common.{◌≡◌, ◌≢◌, ◌⊎◌, ℕ, zero, suc, ◌-◌, ◌<◌, ◌≤◌, inl, inr, Bool, true, false, true≢false, Option, Some, List, [], ◌∷◌, length, take, slice_get, get_or, refl, sym, ap, subst, ◌∙◌, arith}
use Rattle.damages.proofs.Ascending.{IsDownlinkAmong, Ascend, beyond_not, beyond_trans, bounds_in, down_ascend}
use Rattle.damages.proofs.Decided.{no_link, bool_so}
use Rattle.damages.proofs.Fitting.{page_there}
use Rattle.damages.proofs.Imports.{Contains, cases_lt, bound_of, Bound, Entry, Downlink, Page, PageState, Live, HalfDead, Deleted, AreUnique, Node, node_of, node_from, nodes_of, LeftContext}
use Rattle.damages.proofs.Imports.{context_after, first_context, IsBeyond, Rises, AscendWithin, LinksWithin, FitsState, IsRootLevel, IsTreeOf, from_low, downlinks, Index, index_of, or_block}
use Rattle.damages.proofs.Imports.{ComesBefore, Place, Here, Item, Site, node, context, IsOnLevel, IsOnChain, IsMetBefore, HasNotBeyond, IsAfterRoot, IsUnlinked, IsOfPath, IsOfChain, IsOfParents}
use Rattle.damages.proofs.Imports.{IsDamage, IsSound, on_way, on_chain, at_child, at_page, nowhere, StandAtTheirBlocks, IsTree, IsBoundBeyond, same_Some}
use Rattle.damages.proofs.Imports.{beside_root, dead_after_split, deleted, met_before, not_beyond, not_rising, off_level, shared_key, wrong_left}
use Rattle.damages.proofs.Items.{leaf_links, upper_entries}
use Rattle.damages.proofs.KeysJudged.{unique_at}
use Rattle.damages.proofs.Linking.{among_at, had, has, IsHad, due, HasDueDownlink, is_due, ascend_items, ascend_places}
use Rattle.damages.proofs.Places.{at_from, one_place}
use Rattle.damages.proofs.TreePlaces.{place_told, way_on, way_not_back, there, context_is, placed, on_level, on_level_from, same_context}
use Rattle.damages.proofs.Parents.{live_so}

-- what a page that stands in its place says of the numbers of damages
not_deleted : (state : PageState) (level : ℕ) (s : LeftContext) (n : Node) → FitsState state level s n → state ≡ Deleted → ⊥
not_deleted Live level s n f e = cc
not_deleted HalfDead level s n f e = cc
not_deleted Deleted level s n f e = f

live_rises : (state : PageState) (level : ℕ) (s : LeftContext) (n : Node) → FitsState state level s n → state ≡ Live → Rises s.low n.high
live_rises Live level s n f e = f.0
live_rises HalfDead level s n f e = absurd cc
live_rises Deleted level s n f e = absurd f

dead_clear : (state : PageState) (level : ℕ) (s : LeftContext) (n : Node) → FitsState state level s n → state ≡ HalfDead → s.left_is_split ≡ false
dead_clear Live level s n f e = absurd cc
dead_clear HalfDead level s n f e = f.3
dead_clear Deleted level s n f e = absurd f

-- entries and bounds lie beyond the low
pub entry_beyond : (low : Option Bound) (es : List Entry) (high : Option Bound) (k : ℕ) (e : Entry) → AscendWithin low es high → k < length es → get_or es k e ≡ e
    → IsBeyond low (bound_of e)
entry_beyond low [] high k e a lt is = absurd (omega arith)
entry_beyond low (x ∷ xs) high zero e a lt is = subst (λ (y : Entry). IsBeyond low (bound_of y)) is a.0
entry_beyond low (x ∷ xs) high (suc k) e a lt is =
    beyond_trans low (Some (bound_of x)) (Some (bound_of e)) a.0 (entry_beyond (Some (bound_of x)) xs high k e a.2 (omega arith) is)

pub link_beyond : (low : Option Bound) (ds : List Downlink) (high : Option Bound) (item : ℕ) (link : Downlink) (bound : Bound) → LinksWithin low ds high
    → 0 < item → slice_get ds item ≡ Some link → link.bound ≡ Some bound
    → IsBeyond low bound
link_beyond low [] high item link bound w pos e is = absurd w
link_beyond low (x ∷ xs) high zero link bound w pos e is = absurd (omega arith)
link_beyond low (x ∷ xs) high (suc k) link bound w pos e is = subst (IsBoundBeyond low) is (bounds_in low xs high link w.1 (among_at link xs k e)).0

module _ (level : ℕ) (s : LeftContext) (n : Node) (leaf : level ≡ 0 → n.links ≡ []) (upper : 0 < level → n.entries ≡ []) where
  no_entry : (e : Entry) → n.entries ≡ [] → Contains n.entries e → ⊥
  no_entry e none' c = (let lt = c.1 in let size = ap length none' in absurd (omega (arith, lt, size)))

  no_item : (item : ℕ) (link : Downlink) → n.links ≡ [] → slice_get n.links item ≡ Some link → ⊥
  no_item item link none' e = no_link (sym (ap (λ (ds : List Downlink). slice_get ds item) none') ∙ e)

  beyond : (state : PageState) → FitsState state level s n → HasNotBeyond s.low n → ⊥
  beyond state f (inl e) = entry state level f leaf upper
    where
      entry : (state : PageState) (l : ℕ) → FitsState state l s n → (l ≡ 0 → n.links ≡ []) → (0 < l → n.entries ≡ []) → ⊥
      entry Live zero f leaf upper = e.2 (entry_beyond s.low n.entries n.high e.1.0 e.0 f.1 e.1.1 e.1.2)
      entry Live (suc l) f leaf upper = no_entry e.0 (upper (omega arith)) e.1
      entry HalfDead l f leaf upper = no_entry e.0 f.1 e.1
      entry Deleted l f leaf upper = f
  beyond state f (inr i) = item state level f leaf
    where
      item : (state : PageState) (l : ℕ) → FitsState state l s n → (l ≡ 0 → n.links ≡ []) → ⊥
      item Live zero f leaf = no_item i.0 i.1 (leaf refl) i.4
      item Live (suc l) f leaf = i.6 (link_beyond s.low n.links n.high i.0 i.1 i.2 f.1 i.3 i.4 i.5)
      item HalfDead l f leaf = no_item i.0 i.1 (leaf f.0) i.4
      item Deleted l f leaf = f

-- each page of the root's level is the root, or right after the root with an incomplete split
root_part : (at : ℕ → Node) (root : ℕ) (xs : List ℕ) (n b : ℕ) → IsRootLevel at root xs → slice_get xs n ≡ Some b
    → (b ≡ root) ⊎ IsAfterRoot root (context_after at first_context (take n xs))
root_part at root [] n b h e = absurd h
root_part at root (x ∷ []) zero b h e = inl (sym (same_Some x b e) ∙ h)
root_part at root (x ∷ []) (suc n) b h e = absurd (no_link e)
root_part at root (x ∷ y ∷ []) zero b h e = inl (sym (same_Some x b e) ∙ h.0)
root_part at root (x ∷ y ∷ []) (suc zero) b h e = inr (ap Some h.0, h.1)
root_part at root (x ∷ y ∷ []) (suc (suc n)) b h e = absurd (no_link e)
root_part at root (x ∷ y ∷ z ∷ zs) n b h e = absurd h

module _ (pages : List Page) (stand : StandAtTheirBlocks pages) (chain : ℕ → List ℕ) (t : IsTreeOf (nodes_of pages) (length pages) (index_of pages).root (index_of pages).top chain) where
  abbrev ix : Index
  ix = index_of pages

  abbrev at : ℕ → Node
  at = nodes_of pages

  -- what the format says of a page of a level
  page_links : (b : ℕ) → 0 < b → b < length pages → (at b).level ≡ 0 → (at b).links ≡ []
  page_links b after_meta in_use leaf =
      let p = page_there pages b in_use in
      let own = stand b p.0 p.1 in
      let here : at b ≡ node_of p.0 = ap node_from p.1 in
      subst (λ (n : Node). n.links ≡ []) (sym here) (leaf_links p.0 own.0 (let e = own.1 in omega arith) (subst (λ (n : Node). n.level ≡ 0) here leaf))

  page_entries : (b : ℕ) → 0 < b → b < length pages → 0 < (at b).level → (at b).entries ≡ []
  page_entries b after_meta in_use upper =
      let p = page_there pages b in_use in
      let own = stand b p.0 p.1 in
      let here : at b ≡ node_of p.0 = ap node_from p.1 in
      subst (λ (n : Node). n.entries ≡ []) (sym here) (upper_entries p.0 own.0 (let e = own.1 in omega arith) (subst (λ (n : Node). 0 < n.level) here upper))

  way_sound : (depth step number : ℕ) → depth ≤ ix.top → IsOfPath ix depth step number → ⊥
  way_sound depth step number deep (inl off) = off.1 (way_on pages chain t depth step deep)
  way_sound depth step number deep (inr back) = way_not_back pages chain t depth step deep back.1

  module _ (h : Here ix) where
    abbrev xs : List ℕ
    xs = chain (ix.top - h.depth)

    abbrev ys : List ℕ
    ys = chain (ix.top - suc h.depth)

    -- the downlink that is due to the page
    abbrev own : Downlink
    own = record { bound = (context_after at first_context (take h.place xs)).low; child = h.block }

    place_fits : FitsState (node h).state (ix.top - h.depth) (context h) (node h)
    place_fits = (placed pages chain t h).fits

    not_met : IsMetBefore h → ⊥
    not_met m =
        let earlier = sym (ap (λ (p : Place). p.block) (place_told pages chain t h.depth h.deep m.earlier)) ∙ m.same in
        let one = one_place xs m.earlier h.place h.block (t.distinct (ix.top - h.depth) (let deep = h.deep in omega arith)) earlier (there pages chain t h) in
        let before = m.before in
        absurd (omega (arith, one, before))

    within : HasNotBeyond (context h).low (node h) → ⊥
    within has' =
        let on = on_level pages chain t h in
        let l = on.level_is in
        beyond (ix.top - h.depth) (context h) (node h)
        (λ leaf. page_links h.block on.after_meta on.in_use (omega arith)) (λ upper. page_entries h.block on.after_meta on.in_use (omega arith)) (node h).state place_fits has'

    not_more : h.depth ≡ 0 → h.block ≢ ix.root → (IsAfterRoot ix.root (context h) → ⊥) → ⊥
    not_more top not_root not_after_root = elim (root_part at ix.root xs h.place h.block root_level (there pages chain t h)) [
      | inl is ↦ not_root is
      | inr b ↦ not_after_root (subst (IsAfterRoot ix.root) (sym (context_is pages chain t h)) b)
    ]
      where
        root_level : IsRootLevel at ix.root xs
        root_level = subst (λ (l : ℕ). IsRootLevel at ix.root (chain l)) (let k : ix.top ≡ ix.top - h.depth = omega arith in k) t.root_level

    chain_sound : (keys : Bool) → (keys ≡ true → AreUnique pages) → (number : ℕ) → IsOfChain keys h number → ⊥
    chain_sound keys unique number (off_level k off) = off (on_level pages chain t h)
    chain_sound keys unique number (wrong_left k differs) = differs (placed pages chain t h).left_is
    chain_sound keys unique number (met_before k met) = not_met met
    chain_sound keys unique number (deleted k gone) = not_deleted (node h).state (ix.top - h.depth) (context h) (node h) place_fits gone
    chain_sound keys unique number (not_rising k live low) = low (live_rises (node h).state (ix.top - h.depth) (context h) (node h) place_fits live)
    chain_sound keys unique number (not_beyond k has) = within has
    chain_sound keys unique number (beside_root k top not_root not_after) = not_more top not_root not_after
    chain_sound keys unique number (dead_after_split k dead after) = true≢false (sym after ∙ dead_clear (node h).state (ix.top - h.depth) (context h) (node h) place_fits dead)
    chain_sound keys unique number (shared_key k seen shared) = shared (unique_at pages h.block (unique seen))

    -- items stand above the leaves, and each is due on the level below
    below : Item h → h.depth < ix.top
    below i = elim (cases_lt h.depth ix.top) [
      | inl lt ↦ lt
      | inr ge ↦
          let on = on_level pages chain t h in
          let l = on.level_is in
          let none' = page_links h.block on.after_meta on.in_use (omega arith) in
          absurd (no_link (sym (ap (λ (ds : List Downlink). slice_get (from_low (context h).low ds) i.item) none') ∙ i.is))
    ]

    item_at : (i : Item h) → slice_get (from_low (context_after at first_context (take h.place xs)).low (at h.block).links) i.item ≡ Some i.link
    item_at i = subst (λ (s : LeftContext). slice_get (from_low s.low (at h.block).links) i.item ≡ Some i.link) (context_is pages chain t h) i.is

    item_due : (i : Item h) → HasDueDownlink at first_context ys i.link
    item_due i =
        let lt = below i in
        let upper : ix.top - h.depth ≡ suc (ix.top - suc h.depth) = omega arith in
        let among = has at first_context xs h.place h.block i.item i.link (there pages chain t h) (item_at i) in
        due at first_context ys i.link
        (subst (IsDownlinkAmong i.link) (t.parents (ix.top - suc h.depth) (omega arith))
        (subst (λ (l : ℕ). IsDownlinkAmong i.link (downlinks at first_context (chain l))) upper among))

    ascending : Item h → Ascend (downlinks at first_context xs)
    ascending i =
        let lt = below i in
        let upper : suc (ix.top - suc h.depth) ≡ ix.top - h.depth = omega arith in
        subst (λ (l : ℕ). Ascend (downlinks at first_context (chain l))) upper
        (down_ascend at (ix.top - suc h.depth) first_context (chain (suc (ix.top - suc h.depth))) (t.runs (suc (ix.top - suc h.depth)) (omega arith)))

    child_on : (i : Item h) → IsOnLevel ix (suc h.depth) i.link.child
    child_on i = (let lt = below i in let d = item_due i in on_level_from pages chain t (suc h.depth) d.place i.link.child (omega arith) d.there)

    -- the spot of the page to which an item leads
    child_context : (i : Item h) (child : Here ix) → i.link.child ≡ child.block → context child ≡ context_after at first_context (take (item_due i).place ys)
    child_context i child same = same_context pages chain t child (ix.top - suc h.depth) (item_due i).place (omega arith) ((item_due i).there ∙ ap Some same)

    bound_right : (i : Item h) (child : Here ix) → i.link.child ≡ child.block → i.link.bound ≡ (context child).low
    bound_right i child same = (item_due i).bound ∙ ap (λ (s : LeftContext). s.low) (sym (child_context i child same))

    -- a page that is to have a downlink has one
    linked : 0 < h.depth → (IsUnlinked h → ⊥) → ((above : Here ix) (i : Item above) → above.depth < h.depth → i.link.child ≢ h.block) → ⊥
    linked pos not_unlinked none' =
        let deep = h.deep in
        let upper : suc (ix.top - h.depth) ≡ ix.top - (h.depth - 1) = omega arith in
        let context_told = context_is pages chain t h in
        let alive = live_so (node h).state (ix.top - h.depth) (context h) (node h) place_fits (λ dead. not_unlinked (inl dead)) in
        let clear = bool_so (context h).left_is_split (λ left_is_split. not_unlinked (inr left_is_split)) in
        let among = is_due at first_context xs h.place own
        (there pages chain t h) refl alive (ap (λ (s : LeftContext). s.left_is_split) (sym context_told) ∙ clear) in
        had_none (had at first_context (chain (ix.top - (h.depth - 1))) own
        (subst (λ (l : ℕ). IsDownlinkAmong own (downlinks at first_context (chain l))) upper
        (subst (IsDownlinkAmong own) (sym (t.parents (ix.top - h.depth) (omega arith))) among)))
      where
        had_none : IsHad at first_context (chain (ix.top - (h.depth - 1))) own → ⊥
        had_none a =
            let deep = h.deep in
            let told = place_told pages chain t (h.depth - 1) (omega arith) a.place in
            let above : Here ix = record { depth = h.depth - 1; place = a.place; block = a.block; deep = omega arith; is = ap (λ (p : Place). p.block) told ∙ a.there } in
            let i : Item above = record {
              item = a.item;
              link = own;
              is = subst (λ (s : LeftContext). slice_get (from_low s.low (at a.block).links) a.item ≡ Some own)
                  (sym (ap (λ (p : Place). p.context) told)) a.is;
            } in
            none' above i (omega arith) refl

    leads_on_chain : (i : Item h) → IsOnChain ix i.link.child
    leads_on_chain i =
        let lt = below i in
        let d = item_due i in
        record {
          depth = suc h.depth;
          place = d.place;
          deep = omega arith;
          is = ap (λ (p : Place). p.block) (place_told pages chain t (suc h.depth) (omega arith) d.place) ∙ d.there;
        }

    leads_to_linked : (i : Item h) (child : Here ix) → i.link.child ≡ child.block → IsUnlinked child → ⊥
    leads_to_linked i child same (inl dead) = differ (sym (item_due i).alive ∙ ap (λ (b : ℕ). (at b).state) same ∙ dead)
      where
        differ : Live ≡ HalfDead → ⊥
        differ e = cc
    leads_to_linked i child same (inr left_is_split) = true≢false (sym left_is_split ∙ ap (λ (s : LeftContext). s.left_is_split) (child_context i child same) ∙ (item_due i).clear)

  -- no page has two downlinks
  module _ (h : Here ix) (i : Item h) (page : Here ix) (first : Item page) (same : first.link.child ≡ i.link.child) where
    abbrev upper : List ℕ
    upper = chain (ix.top - h.depth)

    abbrev lower : List ℕ
    lower = chain (ix.top - suc h.depth)

    one_depth : page.depth ≡ h.depth
    one_depth =
        let a = (child_on page first).level_is in
        let b = (child_on h i).level_is in
        let c : (at first.link.child).level ≡ (at i.link.child).level = ap (λ (n : ℕ). (at n).level) same in
        omega (arith, a, b, c)

    first_there : slice_get upper page.place ≡ Some page.block
    first_there = subst (λ (d : ℕ). slice_get (chain (ix.top - d)) page.place ≡ Some page.block) one_depth (there pages chain t page)

    first_at : slice_get (from_low (context_after at first_context (take page.place upper)).low (at page.block).links) first.item ≡ Some first.link
    first_at = subst (λ (d : ℕ).
        slice_get (from_low (context_after at first_context (take page.place (chain (ix.top - d)))).low (at page.block).links) first.item ≡ Some first.link) one_depth (item_at page first)

    one_bound : first.link.bound ≡ i.link.bound
    one_bound =
        let d = item_due h i in
        let e : HasDueDownlink at first_context lower first.link = subst (λ (n : ℕ). HasDueDownlink at first_context (chain (ix.top - suc n)) first.link) one_depth (item_due page first) in
        let one = one_place lower e.place d.place i.link.child (t.distinct (ix.top - suc h.depth) (omega arith)) (e.there ∙ ap Some same) d.there in
        e.bound ∙ ap (λ (n : ℕ). (context_after at first_context (take n lower)).low) one ∙ sym d.bound

    ordered : ComesBefore (page.depth ∷ page.place ∷ first.item ∷ []) (h.depth ∷ h.place ∷ i.item ∷ []) → IsBoundBeyond first.link.bound i.link.bound
    ordered (inl lt) = absurd (let d = one_depth in omega arith)
    ordered (inr (d, inl lt)) =
        ascend_places at first_context upper page.place page.block h.place h.block first.item i.item first.link i.link (ascending h i) lt first_there (there pages chain t h) first_at (item_at h i)
    ordered (inr (d, inr (p, inl lt))) = ascend_items at first_context upper h.place h.block first.item i.item first.link i.link (ascending h i) (there pages chain t h) lt
        (subst (λ (b : ℕ). slice_get (from_low (context_after at first_context (take h.place upper)).low (at b).links) first.item ≡ Some first.link) block
        (subst (λ (n : ℕ). slice_get (from_low (context_after at first_context (take n upper)).low (at page.block).links) first.item ≡ Some first.link) p first_at))
        (item_at h i)
      where
        block : page.block ≡ h.block
        block = same_Some page.block h.block (sym first_there ∙ ap (slice_get upper) p ∙ there pages chain t h)
    ordered (inr (d, inr (p, inr e))) = absurd e.1

    not_second : ComesBefore (page.depth ∷ page.place ∷ first.item ∷ []) (h.depth ∷ h.place ∷ i.item ∷ []) → ⊥
    not_second earlier =
        let o = subst (λ (b : Option Bound). IsBoundBeyond b i.link.bound) one_bound (ordered earlier) in
        beyond_not i.link.bound i.link.bound o o

  parents_sound : (h : Here ix) (number : ℕ) → IsOfParents h number → ⊥
  parents_sound h number (inl a) = a.4 (bound_right h a.1 a.2 a.3)
  parents_sound h number (inr (inl a)) = linked h a.1 a.2 a.3
  parents_sound h number (inr (inr (n, i, inl off))) = off (leads_on_chain h i)
  parents_sound h number (inr (inr (n, i, inr (inl (child, same, u))))) = leads_to_linked h i child same u
  parents_sound h number (inr (inr (n, i, inr (inr s)))) = not_second h i s.page s.first s.same s.earlier

  on_its_chain : (b : ℕ) → 0 < b → b < length pages → (at b).state ≢ Deleted → IsOnChain ix b
  on_its_chain b after_meta in_use stands =
      let p = t.placed b after_meta in_use stands in
      let le = p.0 in
      let a = at_from b (chain (at b).level) p.1 in
      let level : (at b).level ≡ ix.top - (ix.top - (at b).level) = omega arith in
      record {
        depth = ix.top - (at b).level;
        place = a.place;
        deep = omega arith;
        is = ap (λ (q : Place). q.block) (place_told pages chain t (ix.top - (at b).level) (omega arith) a.place)
            ∙ subst (λ (l : ℕ). slice_get (chain l) a.place ≡ Some b) level a.is;
      }

  pub all_sound : (parents keys : Bool) → (keys ≡ true → AreUnique pages) → (site : Site ix) (number : ℕ) → IsDamage parents keys site number → ⊥
  all_sound parents keys unique (on_way depth step deep) number damage = way_sound depth step number deep damage
  all_sound parents keys unique (on_chain h) number damage = chain_sound h keys unique number damage
  all_sound parents keys unique (at_child h i) number damage = damage.2 (child_on h i)
  all_sound parents keys unique (at_page h) number damage = parents_sound h number damage.1
  all_sound parents keys unique (nowhere b) number damage = damage.2.3 (on_its_chain b damage.2.0 damage.2.1 damage.2.2)

pub tree_is_sound : (parents keys : Bool) (pages : List Page) → StandAtTheirBlocks pages → IsTree pages → (keys ≡ true → AreUnique pages) → IsSound parents keys pages
tree_is_sound parents keys pages stand t unique = all_sound pages stand t.chain
    (subst (λ (n : ℕ). IsTreeOf (nodes_of pages) (length pages) n (index_of pages).top t.chain) root_is
    (subst (λ (n : ℕ). IsTreeOf (nodes_of pages) (length pages) t.root n t.chain) top_is t.is)) parents keys unique
  where
    here : nodes_of pages 0 ≡ node_of t.meta
    here = ap node_from t.meta_at

    top_is : t.meta.level ≡ (index_of pages).top
    top_is = ap (λ (n : Node). n.level) (sym here)

    root_is : t.root ≡ (index_of pages).root
    root_is = sym (ap (λ (n : Node). or_block n.right 0) here ∙ ap (λ (o : Option ℕ). or_block o 0) t.names_root.root_is)
