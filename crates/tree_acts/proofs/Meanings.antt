-- What a page tells, on the pages of a store.
use Rattle.std.proofs.Common.{◌≡◌, ◌≢◌, ℕ, zero, suc, ◌<◌, ◌≤◌, inl, inr, Bool, true, false, not, ◌&&◌, List, [], ◌∷◌, length, slice_get, slice_index, Option, Some, None, refl, sym, ap, subst, ◌∙◌, arith}
use Rattle.tree_shape.proofs.Straight.{covers_lead_straight_down, root_covers}
use Rattle.tree_acts.proofs.Imports.{is_among, Bound, entries_of, IsOfKind, IsMeta, Meta, Page, PageState, Live, entry_on_live_leaf, State, IsMetaOf, Node, node_from, nodes_of, IsIn, AreDistinct}
use Rattle.tree_acts.proofs.Imports.{IsRunOf, FitsState, Rises, LeftContext, past, first_context, IsBetween, HasLink, entry_aim, bound_aim, frontier_aim, is_beyond, is_within, is_fit, IsFitOn}
use Rattle.tree_acts.proofs.Imports.{IsCoverOn, IsLead, on_chain, by_deleted, first_in, member, not_in_apart, apart_back, run_back, split_at, trail_begins, trail_goes_on, here_apart, false≢true}
use Rattle.tree_acts.proofs.Imports.{trail_is_short, root_is_a_place, places_go_right, places_cover, covers_lead_down, held_on_its_cover, frontier_covers_entries, incomplete_split_has_its_link}
use Rattle.tree_acts.proofs.Imports.{separator_fits_after, only_the_root_is_clear, places_keep_their_level, stored_page, IsTree, HasTree, LeadsTo, MetapageShows, PassedShows, LiveShows}
use Rattle.tree_acts.proofs.Imports.{InternalShows, LeafShows, FrontierShows, ParentShows, SeparatorShows, RootShows, IncompleteSplitIsBelow, TrailBegins, TrailMovesRight, TrailIsShort}
use Rattle.tree_acts.proofs.Imports.{PlacesWiden, HighKeyShows, NeighbourShows, NoneIsIncomplete, StraightShows, RootCoversAll}
use Rattle.tree_acts.proofs.Overlays.{node_there}
use Rattle.tree_acts.proofs.Words.{place_in, cover_in, contents_held, only_leaves, same_test, trail_in}
use Rattle.tree_acts.proofs.Lasting.{StandsOnChain, stands, deleted_in_use, right_on_chain}
use Rattle.tree_acts.proofs.Finishing.{p_here, p_on, covered}

meta_is : (st : State) (h : HasTree st) (meta : Page) → slice_get st.pages 0 ≡ Some meta → h.tree.meta ≡ meta
meta_is st h meta found = (let k : Some h.tree.meta ≡ Some meta = sym h.tree.meta_at ∙ found in cc)

pub metapage_shows : MetapageShows
metapage_shows st start aim clear meta h found =
    let same = meta_is st h meta found in
    record {
      root = h.tree.root;
      names = subst (λ (m : Page). IsMetaOf m h.tree.root m.level) same h.tree.names_root;
      place = record {
        tree = h.tree;
        in_tree = subst (λ (m : Page). m.level ≤ h.tree.meta.level) same (omega arith);
        place = subst (λ (m : Page). IsLead (nodes_of st.pages) (slice_index st.counted) (h.tree.chain m.level) start (is_fit aim clear) h.tree.root) same
            (on_chain (root_is_a_place (nodes_of st.pages) (length st.pages) h.tree.root h.tree.meta.level h.tree.chain aim clear h.tree.is));
      };
    }

pub passed_shows : PassedShows
passed_shows st start level aim clear page h found place passed =
    let here = node_there st.pages page.block page found in
    let p = place_in st h.tree start level aim clear page.block place in
    let r = places_go_right (nodes_of st.pages) (slice_index st.counted) (length st.pages) h.tree.root h.tree.meta.level h.tree.chain level start aim clear page.block h.tree.is p.in_tree p.place
    (rw here passed) in
    record {
      to = r.to;
      right_is = sym (ap (λ (n : Node). n.right) here) ∙ r.right_is;
      place = record { tree = h.tree; in_tree = p.in_tree; place = r.place };
    }

pub live_shows : LiveShows
live_shows st start level aim clear page h found place alive =
    let here = node_there st.pages page.block page found in
    let p = place_in st h.tree start level aim clear page.block place in
    let lives = ap (λ (n : Node). n.state) here ∙ alive in
    let on = stands st h.tree start level aim clear page.block place lives in
    record {
      level_is = sym (ap (λ (n : Node). n.level) here) ∙ on.level_is;
      covers = λ within. record {
        tree = h.tree;
        in_tree = p.in_tree;
        covers = places_cover (nodes_of st.pages) (slice_index st.counted) (h.tree.chain level) start aim clear page.block p.place lives (ap (λ (n : Node). is_within aim n.high) here ∙ within);
      };
    }

pub internal_shows : InternalShows
internal_shows st start level aim clear page h found cover before bound child after links beyond =
    let here = node_there st.pages page.block page found in
    let c = cover_in st h.tree (suc level) aim page.block cover in
    record {
      tree = h.tree;
      in_tree = (let t = c.in_tree in omega arith);
      place = on_chain (covers_lead_down (nodes_of st.pages) (length st.pages) h.tree.root h.tree.meta.level h.tree.chain level page.block aim clear h.tree.is c.in_tree c.covers
          before bound child after (ap (λ (n : Node). n.links) here ∙ links) beyond);
    }

pub leaf_shows : LeafShows
leaf_shows st e page h found cover =
    let here = node_there st.pages page.block page found in
    let c = cover_in st h.tree 0 (entry_aim e) page.block cover in
    let held = held_on_its_cover (nodes_of st.pages) (length st.pages) h.tree.root h.tree.meta.level h.tree.chain e page.block h.tree.is (only_leaves st.format st.pages h.stored) c.covers in
    same_test (entry_on_live_leaf st.pages e) (is_among (entries_of page.items) e)
    (λ t. sym (ap (λ (n : Node). is_among n.entries e) here) ∙ held.0 ((contents_held st.pages e).0 t))
    (λ t. (contents_held st.pages e).1 (held.1 (ap (λ (n : Node). is_among n.entries e) here ∙ t)))

pub frontier_shows : FrontierShows
frontier_shows st f e page h found cover beyond within =
    let here = node_there st.pages page.block page found in
    let c = cover_in st h.tree 0 (frontier_aim f) page.block cover in
    record {
      tree = h.tree;
      in_tree = c.in_tree;
      covers = frontier_covers_entries (nodes_of st.pages) (h.tree.chain 0) f e page.block c.covers beyond (ap (λ (n : Node). is_within (entry_aim e) n.high) here ∙ within);
    }

pub parent_shows : ParentShows
parent_shows st start level s p q new h u found cover =
    let here = node_there st.pages q.block q found in
    let c = cover_in st h.tree (suc level) (bound_aim s) q.block cover in
    let on = p_on st start level s p new h u in
    subst (λ (n : Node). HasLink p.block n.links) here
    (incomplete_split_has_its_link (nodes_of st.pages) (length st.pages) h.tree.root h.tree.meta.level h.tree.chain level p.block q.block s h.tree.is c.in_tree on.fits
    (ap (λ (n : Node). n.split) (p_here st start level s p new h u) ∙ u.incomplete) (ap (λ (n : Node). n.high) (p_here st start level s p new h u) ∙ u.high_is) c.covers)

pub separator_shows : SeparatorShows
separator_shows st start level s p q new added h u found cover put =
    let here = node_there st.pages q.block q found in
    let w = covered st h.tree (suc level) (bound_aim s) q.block cover in
    let on = p_on st start level s p new h u in
    subst (λ (high : Option Bound). IsBetween put.bound s put.after high) (ap (λ (n : Node). n.high) here)
    (fits_at w.0 w.1 on)
  where
    fits_at : suc level ≤ h.tree.meta.level → IsIn q.block (h.tree.chain (suc level)) → StandsOnChain st h.tree level (is_fit (bound_aim s) true) p.block
        → IsBetween put.bound s put.after (nodes_of st.pages q.block).high
    fits_at tall q_in on =
        separator_fits_after (nodes_of st.pages) (length st.pages) h.tree.root h.tree.meta.level h.tree.chain level p.block q.block new s added h.tree.is tall on.fits
        (ap (λ (n : Node). n.split) (p_here st start level s p new h u) ∙ u.incomplete) (ap (λ (n : Node). n.high) (p_here st start level s p new h u) ∙ u.high_is)
        (ap (λ (n : Node). n.right) (p_here st start level s p new h u) ∙ u.right_is) q_in
        (record { before = put.before; bound = put.bound; after = put.after; links_are = ap (λ (n : Node). n.links) (node_there st.pages q.block q found) ∙ put.links_are; added_are = put.added_are })

pub root_shows : RootShows
root_shows st start s meta p new h found u =
    let same = meta_is st h meta found in
    let on = p_on st start meta.level s p new h u in
    let root : p.block ≡ h.tree.root = only_the_root_is_clear (nodes_of st.pages) (length st.pages) h.tree.root h.tree.meta.level h.tree.chain (bound_aim s) p.block h.tree.is
    (subst (λ (m : Page). IsFitOn (nodes_of st.pages) first_context (h.tree.chain m.level) (is_fit (bound_aim s) true) p.block) (sym same) on.fits) in
    subst (λ (m : Page). m.right ≡ Some h.tree.root) same h.tree.names_root.root_is ∙ ap Some (sym root)

pub unfinished_is_below : IncompleteSplitIsBelow
unfinished_is_below st start level s meta p new h found u =
    let same = meta_is st h meta found in
    let on = p_on st start level s p new h u in
    subst (λ (m : Page). level ≤ m.level) same on.in_tree

pub trail_begins_here : TrailBegins
trail_begins_here st start level aim clear block h place =
    let p = place_in st h.tree start level aim clear block place in
    let t = trail_begins (nodes_of st.pages) (slice_index st.counted) (h.tree.chain level) start (is_fit aim clear) block p.place in
    record { tree = h.tree; in_tree = p.in_tree; passed = []; count = refl; distinct = tt; steps = t.steps; trail = t.trail }

pub trail_moves_right : TrailMovesRight
trail_moves_right st start level moves to page h found right trail =
    let here = node_there st.pages page.block page found in
    let t = trail_in st h.tree start level page.block moves trail in
    let g = trail_goes_on (nodes_of st.pages) (slice_index st.counted) (length st.pages) h.tree.root h.tree.meta.level h.tree.chain h.tree.is level
    start t.in_tree t.passed t.steps page.block to t.trail
    (ap (λ (n : Node). n.right) here ∙ right) in
    record {
      tree = h.tree;
      in_tree = t.in_tree;
      passed = page.block ∷ t.passed;
      count = ap suc t.count;
      distinct = (
        here_apart (nodes_of st.pages) (slice_index st.counted) (length st.pages) h.tree.root h.tree.meta.level h.tree.chain h.tree.is level
            start t.in_tree t.passed t.steps page.block t.trail,
        t.distinct,
      );
      steps = g.steps;
      trail = g.trail;
    }

pub trail_is_short_here : TrailIsShort
trail_is_short_here st start level block moves h trail =
    let t = trail_in st h.tree start level block moves trail in
    let s = trail_is_short (nodes_of st.pages) (slice_index st.counted) (length st.pages) h.tree.root h.tree.meta.level h.tree.chain h.tree.is level
    start t.in_tree (deleted_in_use st h) t.passed t.steps block t.distinct t.trail in
    subst (λ (n : ℕ). suc n < length st.pages) t.count s

-- what is fit for an aim is fit for one that looks farther
wider : (aim farther : Bound → Bool) (clear clear' : Bool) (s : LeftContext) → ((b : Bound) → aim b ≡ true → farther b ≡ true) → (clear' ≡ true → clear ≡ true)
    → is_fit aim clear s ≡ true → is_fit farther clear' s ≡ true
wider aim farther clear clear' s more eased fit = go clear clear' s.left_is_split s.low eased fit
  where
    low : (l : Option Bound) → is_beyond aim l ≡ true → is_beyond farther l ≡ true
    low None p = refl
    low (Some l) p = more l p

    go : (c c' w : Bool) (l : Option Bound) → (c' ≡ true → c ≡ true) → not (c && w) && is_beyond aim l ≡ true → not (c' && w) && is_beyond farther l ≡ true
    go false false w l eased p = low l p
    go true false false l eased p = low l p
    go true false true l eased p = cc
    go false true w l eased p = absurd (false≢true (eased refl))
    go true true false l eased p = low l p
    go true true true l eased p = cc

pub places_widen : PlacesWiden
places_widen st start level aim farther clear clear' block more eased place =
    record { tree = place.tree; in_tree = place.in_tree; place = far block place.place }
  where
    on : (s : LeftContext) (xs : List ℕ) (c : ℕ) → IsFitOn (nodes_of st.pages) s xs (is_fit aim clear) c → IsFitOn (nodes_of st.pages) s xs (is_fit farther clear') c
    on s [] c i = absurd i
    on s (x ∷ xs) c (inl h) = inl (h.0, wider aim farther clear clear' s more eased h.1)
    on s (x ∷ xs) c (inr i) = inr (on (past x (nodes_of st.pages x) s) xs c i)

    far : (c : ℕ) → IsLead (nodes_of st.pages) (slice_index st.counted) (place.tree.chain level) start (is_fit aim clear) c
        → IsLead (nodes_of st.pages) (slice_index st.counted) (place.tree.chain level) start (is_fit farther clear') c
    far c (on_chain i) = on_chain (on first_context (place.tree.chain level) c i)
    far c (by_deleted r kept right rest) = by_deleted r kept right (far r rest)

-- a live page of a run is fit for its own high key
own_high : (at : ℕ → Node) (level : ℕ) (s : LeftContext) (xs : List ℕ) (aim : Bound → Bool) (clear : Bool) (b : ℕ) (high : Bound) → IsRunOf at level s xs None → (at b).state ≡ Live → (at b).high ≡ Some high
    → IsFitOn at s xs (is_fit aim clear) b → IsFitOn at s xs (is_fit (bound_aim high) clear) b
own_high at level s [] aim clear b high run alive is i = absurd i
own_high at level s (x ∷ xs) aim clear b high run alive is (inr i) = inr (own_high at level (past x (at x) s) xs aim clear b high run.1 alive is i)
own_high at level s (x ∷ xs) aim clear b high run alive is (inl h) = inl (h.0, go clear s.left_is_split s.low (below s.low rises) h.1)
  where
    fits : FitsState Live level s (at x)
    fits = subst (λ (st : PageState). FitsState st level s (at x)) (subst (λ (c : ℕ). (at c).state ≡ Live) (h.0) alive) run.0.fits

    rises : Rises s.low (Some high)
    rises = subst (Rises s.low) (subst (λ (c : ℕ). (at c).high ≡ Some high) (h.0) is) fits.0

    below : (low : Option Bound) → Rises low (Some high) → is_beyond (bound_aim high) low ≡ true
    below None r = refl
    below (Some l) r = r

    go : (c w : Bool) (low : Option Bound) → is_beyond (bound_aim high) low ≡ true → not (c && w) && is_beyond aim low ≡ true → not (c && w) && is_beyond (bound_aim high) low ≡ true
    go false w low lies p = lies
    go true false low lies p = lies
    go true true low lies p = cc

pub high_key_shows : HighKeyShows
high_key_shows st start level aim clear page high h found place alive is =
    let here = node_there st.pages page.block page found in
    let lives = ap (λ (n : Node). n.state) here ∙ alive in
    let on = stands st h.tree start level aim clear page.block place lives in
    record {
      tree = h.tree;
      in_tree = on.in_tree;
      place = on_chain (own_high (nodes_of st.pages) level first_context (h.tree.chain level) aim clear page.block high (h.tree.is.runs level on.in_tree)
          lives (ap (λ (n : Node). n.high) here ∙ is) on.fits);
    }

-- each block in use has its page
page_within : (pages : List Page) (b : ℕ) → b < length pages → (page : Page) × (slice_get pages b ≡ Some page)
page_within [] b lt = absurd (omega arith)
page_within (page ∷ pages) zero lt = (page, refl)
page_within (page ∷ pages) (suc b) lt = page_within pages b (omega arith)

-- a stored page of another block than 0 isn't the metapage
no_meta_above : (st : State) (h : HasTree st) (block : ℕ) (page : Page) → slice_get st.pages block ≡ Some page → 0 < block → page.items ≢ Meta
no_meta_above st h block page found above is =
    let s = stored_page st.format block st.pages page h.stored found in
    let kind : IsMeta page = subst (IsOfKind page) is s.storable.admitted.kind in
    let zero_is : block ≡ 0 = sym s.block_is ∙ kind.block in
    omega arith

-- the right link of a page of a chain names another page
right_is_another : (st : State) (tree : IsTree st.pages) (level b r : ℕ) → level ≤ tree.meta.level → IsIn b (tree.chain level) → (nodes_of st.pages b).right ≡ Some r → r ≢ b
right_is_another st tree level b r in_top i right =
    let w = split_at b (tree.chain level) i in
    let run = subst (λ (xs : List ℕ). IsRunOf (nodes_of st.pages) level first_context xs None) w.is (tree.is.runs level in_top) in
    let here = run_back (nodes_of st.pages) level first_context w.front (b ∷ w.back) None run in
    let apart = apart_back w.front (b ∷ w.back) (subst AreDistinct w.is (tree.is.distinct level in_top)) in
    λ same. not_in_apart b r w.back apart.0 (first_in r w.back (sym here.0.right_is ∙ right)) (sym same)

pub neighbour_shows : NeighbourShows
neighbour_shows st start level aim clear page right h found place alive is =
    let here = node_there st.pages page.block page found in
    let lives = ap (λ (n : Node). n.state) here ∙ alive in
    let on = stands st h.tree start level aim clear page.block place lives in
    let link = ap (λ (n : Node). n.right) here ∙ is in
    let i = right_on_chain st h.tree level page.block right on.in_tree on.on_chain link in
    let m = member (nodes_of st.pages) level first_context (h.tree.chain level) None right (h.tree.is.runs level on.in_tree) i in
    let u = h.tree.is.in_use level right on.in_tree i in
    let there = page_within st.pages right u.1 in
    let seen = ap node_from there.1 in
    record {
      page = there.0;
      found = there.1;
      level_is = sym (ap (λ (n : Node). n.level) seen) ∙ m.0;
      mends = record { no_meta = no_meta_above st h right there.0 there.1 u.0; in_use = λ gone. m.1 (ap (λ (n : Node). n.state) seen ∙ gone) };
      apart = right_is_another st h.tree level page.block right on.in_tree on.on_chain link;
    }

-- if no page has an incomplete split, nothing that the tree sees of a page says that it has one
none_incomplete : (pages : List Page) → NoneIsIncomplete pages → (b : ℕ) → (nodes_of pages b).split ≡ false
none_incomplete pages whole b = go (slice_get pages b) refl
  where
    go : (o : Option Page) → slice_get pages b ≡ o → (node_from o).split ≡ false
    go None is = refl
    go (Some page) is = whole b page is

pub straight_shows : StraightShows
straight_shows st level aim page h whole found cover before bound child after links beyond first =
    let here = node_there st.pages page.block page found in
    let c = cover_in st h.tree (suc level) aim page.block cover in
    record {
      tree = h.tree;
      in_tree = (let t = c.in_tree in omega arith);
      covers = covers_lead_straight_down (nodes_of st.pages) (length st.pages) h.tree.root h.tree.meta.level h.tree.chain level page.block aim h.tree.is c.in_tree c.covers
          before bound child after (ap (λ (n : Node). n.links) here ∙ links) beyond first (λ b i. none_incomplete st.pages whole b);
    }

pub root_covers_all : RootCoversAll
root_covers_all st aim meta root h whole found names =
    let same = meta_is st h meta found in
    let is : Some h.tree.root ≡ Some root = sym h.tree.names_root.root_is ∙ ap (λ (m : Page). m.right) same ∙ names.root_is in
    let root_is : h.tree.root ≡ root = cc in
    record {
      tree = h.tree;
      in_tree = subst (λ (m : Page). m.level ≤ h.tree.meta.level) same (omega arith);
      covers = subst (λ (m : Page). IsCoverOn (nodes_of st.pages) first_context (h.tree.chain m.level) aim root) same
          (subst (IsCoverOn (nodes_of st.pages) first_context (h.tree.chain h.tree.meta.level) aim) root_is
          (root_covers (nodes_of st.pages) (length st.pages) h.tree.root h.tree.meta.level h.tree.chain aim h.tree.is (none_incomplete st.pages whole h.tree.root)));
    }

-- a place is the block of a page in use
pub place_inside : (st : State) (start level : ℕ) (aim : Bound → Bool) (clear : Bool) (block : ℕ) → HasTree st → LeadsTo st start level aim clear block → block < length st.pages
place_inside st start level aim clear block h place =
    let p = place_in st h.tree start level aim clear block place in
    elim (places_keep_their_level (nodes_of st.pages) (slice_index st.counted) (length st.pages) h.tree.root h.tree.meta.level h.tree.chain level
    start (is_fit aim clear) block h.tree.is p.in_tree p.place) [
      | inl gone ↦ (deleted_in_use st h block gone).1
      | inr on ↦ (h.tree.is.in_use level block p.in_tree on.1).1
    ]
