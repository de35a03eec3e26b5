-- What an act leaves, from what the tree's law says of it.
use Rattle.std.proofs.Common.{◌≡◌, ◌≢◌, ◌⊎◌, ℕ, zero, suc, ◌<◌, ◌≤◌, ◌&&◌, inl, inr, Bool, true, false, true≢false, if◌then◌else◌, List, [], ◌∷◌, ◌++◌, length, slice_get, slice_index, nat_le, Option, Some, None, refl, sym, ap, subst, ◌∙◌, arith}
use Rattle.tree_acts.proofs.Imports.{cases_lt, lt-leb, nat_lt, slice_set, Bound, Format, IsOfKind, IsMeta, Page, PageState, Live, HalfDead, Deleted, is_deleted_state, is_deleted_page, is_deleted}
use Rattle.tree_acts.proofs.Imports.{began_after, others_began_after, is_reusable, IsFresh, State, after_act, with_page, with_pages, AreStored, AreActable, stored-with_page, stored_page, slice_get_past}
use Rattle.tree_acts.proofs.Imports.{length-with_counts, IsUniquePage, AreUnique, IsMetaOf, node_from, nodes_of, LeftContext, IsIn, IsRunOf, IsTreeOf, first_context, IsFree, IsTreeAgain}
use Rattle.tree_acts.proofs.Imports.{IsTreeAgainWithout, IsReusable, is_fit, IsFitOn, first_in, in_append_right, member, run_back, split_at, trail_stays, places_stay, live_places_stand}
use Rattle.tree_acts.proofs.Imports.{places_keep_their_level, IsTree, HasTree, LeadsTo, IsStart, KeptDeletedLeadOn, TreeLasts}
use Rattle.tree_acts.proofs.Gone.{NoneIsDeleted, CountUpTo, in_use_count, gone_lead_on, counts_within}
use Rattle.tree_acts.proofs.Lows.{lows_of}
use Rattle.tree_acts.proofs.Overlays.{page_length}
use Rattle.tree_acts.proofs.Words.{place_in, trail_in}

pub stored_after : (format : Format) (used : ℕ) (pages changed : List Page) → AreActable format used changed → used ≤ length pages
    → AreStored format 0 pages → AreStored format 0 (with_pages pages changed)
stored_after format used pages [] h le stored = stored
stored_after format used pages (page ∷ changed) h le stored =
    let place : page.block ≤ length pages = omega (arith, h.1.0) in
    let longer = page_length pages page place in
    stored_after format used (with_page pages page) changed h.3 (omega arith) (stored-with_page format pages page h.0.storable place stored)

-- the metapage of a tree is live
pub meta_lives : (st : State) (h : HasTree st) → h.tree.meta.state ≡ Live
meta_lives st h =
    let s = stored_page st.format 0 st.pages h.tree.meta h.stored h.tree.meta_at in
    let kind : IsMeta h.tree.meta = subst (IsOfKind h.tree.meta) h.tree.names_root.kind s.storable.admitted.kind in
    kind.state

-- a deleted page is in use, and isn't the metapage
pub deleted_in_use : (st : State) (h : HasTree st) → (c : ℕ) → (nodes_of st.pages c).state ≡ Deleted → (0 < c) × (c < length st.pages)
deleted_in_use st h c gone = (
  positive c refl,
  elim (cases_lt c (length st.pages)) [
    | inl lt ↦ lt
    | inr ge ↦ absurd (clash (sym (ap (λ (o : Option Page). (node_from o).state) (slice_get_past st.pages c ge)) ∙ gone))
  ],
)
  where
    clash : Live ≡ Deleted → ⊥
    clash e = cc

    positive : (n : ℕ) → c ≡ n → 0 < n
    positive (suc n) is = omega arith
    positive zero is = absurd (clash (sym (meta_lives st h) ∙ ap (λ (o : Option Page). (node_from o).state) (sym h.tree.meta_at) ∙ subst (λ (b : ℕ). (nodes_of st.pages b).state ≡ Deleted) is gone))

deleted_from : (o : Option Page) → is_deleted_page o ≡ true → (node_from o).state ≡ Deleted
deleted_from None h = cc
deleted_from (Some page) h = go page.state h
  where
    go : (st : PageState) → is_deleted_state st ≡ true → st ≡ Deleted
    go Live h = cc
    go HalfDead h = cc
    go Deleted h = refl

and_left : (a b : Bool) → a && b ≡ true → a ≡ true
and_left true b h = refl
and_left false b h = cc

and_right : (a b : Bool) → a && b ≡ true → b ≡ true
and_right true b h = h
and_right false b h = cc

reusable_deleted : (st : State) (new : ℕ) → is_reusable st new ≡ true → (nodes_of st.pages new).state ≡ Deleted
reusable_deleted st new h = deleted_from (slice_get st.pages new) (and_left _ _ h)

pub fresh_free : (st : State) (new : ℕ) → HasTree st → IsFresh st new → IsFree (nodes_of st.pages) (length st.pages) new
fresh_free st new h f = record {
  past_meta = positive new refl;
  within = f.within;
  not_in_use = λ lt. reusable_deleted st new (f.reusable lt);
}
  where
    clash : Live ≡ Deleted → ⊥
    clash e = cc

    some_first : (pages : List Page) (page : Page) → slice_get pages 0 ≡ Some page → 0 < length pages
    some_first [] page found = cc
    some_first (p ∷ pages) page found = omega arith

    meta_there : 0 < length st.pages
    meta_there = some_first st.pages h.tree.meta h.tree.meta_at

    positive : (n : ℕ) → new ≡ n → 0 < n
    positive (suc n) is = omega arith
    positive zero is =
        let gone : (nodes_of st.pages 0).state ≡ Deleted =
        subst (λ (b : ℕ). (nodes_of st.pages b).state ≡ Deleted) is (reusable_deleted st new (f.reusable (subst (λ (b : ℕ). b < length st.pages) (sym is) meta_there))) in
        absurd (clash (sym (meta_lives st h) ∙ ap (λ (n : _). n.state) (sym (ap node_from h.tree.meta_at)) ∙ gone))

le_is : (a b : ℕ) → nat_le a b ≡ true → a ≤ b
le_is a b h = elim (cases_lt b a) [ inl lt ↦ absurd (true≢false (sym h ∙ lt-leb a b lt)) | inr le ↦ le ]

began : (number from session start : ℕ) (running : List (Option ℕ)) → others_began_after number from None running ≡ true → slice_get running session ≡ Some (Some start) → number ≤ start
began number from session start [] h is = cc
began number from zero start (call ∷ running) h is =
    let same : call ≡ Some start = cc in
    le_is number start (subst (λ (o : Option ℕ). began_after number o ≡ true) same (and_left (began_after number call) _ h))
began number from (suc session) start (call ∷ running) h is = began number (suc from) session start running (and_right (began_after number call) _ h) is

pub fresh_reusable : (st : State) (new start : ℕ) → IsFresh st new → IsStart st.running start → IsReusable (nodes_of st.pages) (slice_index st.counted) start new
fresh_reusable st new start f is gone = elim (cases_lt new (length st.pages)) [
  | inl lt ↦ began (slice_index st.counted new) 0 is.session start st.running (and_right (is_deleted st.pages new) _ (f.reusable lt)) is.is
  | inr ge ↦ absurd (never (slice_get_past st.pages new ge) gone)
]
  where
    clash : Live ≡ Deleted → ⊥
    clash e = cc

    never : slice_get st.pages new ≡ None → (nodes_of st.pages new).state ≡ Deleted → ⊥
    never none' gone = clash (sym (ap (λ (o : Option Page). (node_from o).state) none') ∙ gone)

-- a live page that is a place stands on its chain, and isn't the metapage
pub record StandsOnChain (st : State) (tree : IsTree st.pages) (level : ℕ) (fit : LeftContext → Bool) (block : ℕ) : Type 0 where
  pub in_tree : level ≤ tree.meta.level
  pub fits : IsFitOn (nodes_of st.pages) first_context (tree.chain level) fit block
  pub on_chain : IsIn block (tree.chain level)
  pub level_is : (nodes_of st.pages block).level ≡ level
  pub above : 0 < block
  pub inside : block < length st.pages

pub stands : (st : State) (tree : IsTree st.pages) (start level : ℕ) (aim : Bound → Bool) (clear : Bool) (block : ℕ) → LeadsTo st start level aim clear block → (nodes_of st.pages block).state ≡ Live
    → StandsOnChain st tree level (is_fit aim clear) block
stands st tree start level aim clear block place alive =
    let p = place_in st tree start level aim clear block place in
    go p.in_tree (live_places_stand (nodes_of st.pages) (slice_index st.counted) (tree.chain level) start (is_fit aim clear) block p.place alive)
    (places_keep_their_level (nodes_of st.pages) (slice_index st.counted) (length st.pages) tree.root tree.meta.level tree.chain level start (is_fit aim clear) block tree.is p.in_tree p.place)
  where
    clash : Live ≡ Deleted → ⊥
    clash e = cc

    go : level ≤ tree.meta.level → IsFitOn (nodes_of st.pages) first_context (tree.chain level) (is_fit aim clear) block
        → ((nodes_of st.pages block).state ≡ Deleted) ⊎ (((nodes_of st.pages block).level ≡ level) × IsIn block (tree.chain level)) → StandsOnChain st tree level (is_fit aim clear) block
    go in_tree fits (inl gone) = absurd (clash (sym alive ∙ gone))
    go in_tree fits (inr on) =
        let u = tree.is.in_use level block in_tree on.1 in
        record { in_tree = in_tree; fits = fits; on_chain = on.1; level_is = on.0; above = u.0; inside = u.1 }

-- the right link of a page of a chain names a page of that chain
pub right_on_chain : (st : State) (tree : IsTree st.pages) (level b r : ℕ) → level ≤ tree.meta.level → IsIn b (tree.chain level) → (nodes_of st.pages b).right ≡ Some r → IsIn r (tree.chain level)
right_on_chain st tree level b r in_top i right =
    let w = split_at b (tree.chain level) i in
    let run = subst (λ (xs : List ℕ). IsRunOf (nodes_of st.pages) level first_context xs None) w.is (tree.is.runs level in_top) in
    let here = run_back (nodes_of st.pages) level first_context w.front (b ∷ w.back) None run in
    subst (IsIn r) (sym w.is) (in_append_right r w.front (b ∷ w.back) (inr (first_in r w.back (sym here.0.right_is ∙ right))))

-- ... and that page isn't deleted
pub right_in_use : (st : State) (tree : IsTree st.pages) (level b r : ℕ) → level ≤ tree.meta.level → IsIn b (tree.chain level)
    → (nodes_of st.pages b).right ≡ Some r → (nodes_of st.pages r).state ≢ Deleted
right_in_use st tree level b r in_top i right =
    (member (nodes_of st.pages) level first_context (tree.chain level) None r (tree.is.runs level in_top) (right_on_chain st tree level b r in_top i right)).1

-- a page of a chain says its level
pub on_level : (st : State) (tree : IsTree st.pages) (level b : ℕ) → level ≤ tree.meta.level → IsIn b (tree.chain level) → (nodes_of st.pages b).level ≡ level
on_level st tree level b in_top i = (member (nodes_of st.pages) level first_context (tree.chain level) None b (tree.is.runs level in_top) i).0

-- the metapage as it is after the act
pub record MetaIs (pages : List Page) (root top : ℕ) : Type 0 where
  pub meta : Page
  pub at : slice_get pages 0 ≡ Some meta
  pub names : IsMetaOf meta root meta.level
  pub level_is : meta.level ≡ top

-- pages that are unique stay so, if those of an act are
unique_set : (pages : List Page) (page : Page) (b : ℕ) → AreUnique pages → IsUniquePage page → AreUnique (slice_set pages b page)
unique_set [] page b h one = h
unique_set (p ∷ pages) page zero h one = (one, h.1)
unique_set (p ∷ pages) page (suc b) h one = (h.0, unique_set pages page b h.1 one)

unique_add : (pages : List Page) (page : Page) → AreUnique pages → IsUniquePage page → AreUnique (pages ++ page ∷ [])
unique_add [] page h one = (one, tt)
unique_add (p ∷ pages) page h one = (h.0, unique_add pages page h.1 one)

unique_with : (pages : List Page) (page : Page) → AreUnique pages → IsUniquePage page → AreUnique (with_page pages page)
unique_with pages page h one = by (nat_lt page.block (length pages))
  where
    by : (w : Bool) → AreUnique (if w then slice_set pages page.block page else pages ++ page ∷ [])
    by true = unique_set pages page page.block h one
    by false = unique_add pages page h one

pub unique_after : (pages changed : List Page) → AreUnique pages → AreUnique changed → AreUnique (with_pages pages changed)
unique_after pages [] h c = h
unique_after pages (page ∷ changed) h c = unique_after (with_page pages page) changed (unique_with pages page h c.0) c.1

pub lasts : (st : State) (changed : List Page) (h : HasTree st) → AreActable st.format (length st.pages) changed
    → (st.format.unique ≡ true → AreUnique changed) → NoneIsDeleted changed → (Ok : ℕ → Type 0) (one : ℕ) → Ok one → ((start : ℕ) → IsStart st.running start → Ok start)
    → (root' top' : ℕ) → h.tree.meta.level ≤ top' → MetaIs (with_pages st.pages changed) root' top'
    → ((least : ℕ) → Ok least → IsTreeAgain (nodes_of st.pages) (nodes_of (with_pages st.pages changed)) (slice_index st.counted) (slice_index (after_act changed st).counted)
    (length (with_pages st.pages changed)) root' h.tree.meta.level top' h.tree.chain least)
    → TreeLasts st (after_act changed st)
lasts st changed h may one_a_key live Ok one ok running root' top' taller meta goes = record {
  has = record {
    tree = tree_of one ok;
    stored = stored_after st.format (length st.pages) st.pages changed may (omega arith) h.stored;
    counted = length-with_counts st.counted st.pages changed h.counted;
    within = counts_within st changed h.counted may (in_use_count st.begun changed live) h.within;
    lead = gone_lead_on st changed h.counted may live h.lead;
    unique = λ asked. unique_after st.pages changed (h.unique asked) (one_a_key asked);
  };
  lows = lows_of st.pages (with_pages st.pages changed) h.tree (tree_of one ok) (slice_index st.counted) (slice_index (after_act changed st).counted) one (rw (meta.level_is) taller)
      (λ level in_top. (goes one ok).places one (omega arith) level in_top);
  places = λ start level aim clear block is falls place.
      let p = place_in st h.tree start level aim clear block place in
      let good = running start is in
      record {
        tree = tree_of start good;
        in_tree = rw (meta.level_is) (let q = p.in_tree in omega arith);
        place = places_stay (nodes_of st.pages) (nodes_of (with_pages st.pages changed)) (slice_index st.counted) (slice_index (after_act changed st).counted)
            (h.tree.chain level) ((goes start good).chain' level) start aim clear block falls ((goes start good).places start (omega arith) level p.in_tree) p.place;
      };
  trails = λ start level block moves is trail.
      let t = trail_in st h.tree start level block moves trail in
      let good = running start is in
      record {
        tree = tree_of start good;
        in_tree = rw (meta.level_is) (let q = t.in_tree in omega arith);
        passed = t.passed;
        count = t.count;
        distinct = t.distinct;
        steps = t.steps;
        trail = trail_stays (nodes_of st.pages) (nodes_of (with_pages st.pages changed)) (slice_index st.counted) (slice_index (after_act changed st).counted)
            (h.tree.chain level) ((goes start good).chain' level) start t.passed t.steps block ((goes start good).order level t.in_tree)
            ((goes start good).places start (omega arith) level t.in_tree) t.trail;
      };
}
  where
    tree_of : (least : ℕ) → Ok least → IsTree (with_pages st.pages changed)
    tree_of least good = record {
      meta = meta.meta;
      meta_at = meta.at;
      root = root';
      names_root = meta.names;
      chain = (goes least good).chain';
      is = rw (meta.level_is) ((goes least good).tree);
    }

-- ... also if a page of a chain is deleted, later than each running call began; lows are as they are
-- whichever numbers count
pub lasts_without : (st : State) (changed : List Page) (h : HasTree st) → AreActable st.format (length st.pages) changed
    → (st.format.unique ≡ true → AreUnique changed) → CountUpTo st.begun changed → KeptDeletedLeadOn (after_act changed st)
    → (late : ℕ) → ((start : ℕ) → IsStart st.running start → start < late)
    → MetaIs (with_pages st.pages changed) h.tree.root h.tree.meta.level
    → IsTreeAgainWithout (nodes_of st.pages) (nodes_of (with_pages st.pages changed)) (slice_index st.counted) (slice_index (after_act changed st).counted)
    (length (with_pages st.pages changed)) h.tree.root h.tree.meta.level h.tree.chain late
    → IsTreeAgainWithout (nodes_of st.pages) (nodes_of (with_pages st.pages changed)) (λ c. 1) (λ c. 1)
    (length (with_pages st.pages changed)) h.tree.root h.tree.meta.level h.tree.chain 1
    → TreeLasts st (after_act changed st)
lasts_without st changed h may one_a_key few leads late running meta goes lower = record {
  has = record {
    tree = tree';
    stored = stored_after st.format (length st.pages) st.pages changed may (omega arith) h.stored;
    counted = length-with_counts st.counted st.pages changed h.counted;
    within = counts_within st changed h.counted may few h.within;
    lead = leads;
    unique = λ asked. unique_after st.pages changed (h.unique asked) (one_a_key asked);
  };
  lows = lows_of st.pages (with_pages st.pages changed) h.tree (tree_by lower.chain' lower.tree) (λ c. 1) (λ c. 1) 0 (rw (meta.level_is) (omega arith))
      (λ level in_top. lower.places 0 (omega arith) level in_top);
  places = λ start level aim clear block is falls place.
      let p = place_in st h.tree start level aim clear block place in
      record {
        tree = tree';
        in_tree = rw (meta.level_is) p.in_tree;
        place = places_stay (nodes_of st.pages) (nodes_of (with_pages st.pages changed)) (slice_index st.counted) (slice_index (after_act changed st).counted)
            (h.tree.chain level) (goes.chain' level) start aim clear block falls (goes.places start (running start is) level p.in_tree) p.place;
      };
  trails = λ start level block moves is trail.
      let t = trail_in st h.tree start level block moves trail in
      let w = goes.trails start (running start is) level t.in_tree t.passed t.steps block t.trail in
      record {
        tree = tree';
        in_tree = rw (meta.level_is) t.in_tree;
        passed = t.passed;
        count = t.count;
        distinct = t.distinct;
        steps = w.steps;
        trail = w.trail;
      };
}
  where
    tree_by : (chain : ℕ → List ℕ) → IsTreeOf (nodes_of (with_pages st.pages changed)) (length (with_pages st.pages changed)) h.tree.root h.tree.meta.level chain → IsTree (with_pages st.pages changed)
    tree_by chain is = record {
      meta = meta.meta;
      meta_at = meta.at;
      root = h.tree.root;
      names_root = meta.names;
      chain = chain;
      is = rw (meta.level_is) is;
    }

    tree' : IsTree (with_pages st.pages changed)
    tree' = tree_by goes.chain' goes.tree
