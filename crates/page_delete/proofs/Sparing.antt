-- Which empty leaves a cleanup leaves in the tree, after each step.
use Rattle.std.proofs.Common.{◌≡◌, ◌≢◌, ◌⊎◌, ℕ, suc, ◌+◌, take, All, ◌<◌, ◌≤◌, inl, inr, Bool, true, false, not, ◌&&◌, ◌||◌, ◌==◌, eq-eqb, List, [], ◌∷◌, ◌++◌, length, slice_get, Option, Some, None, IsSome, IsNone, refl, sym, ap, subst, ◌∙◌, arith}
use Rattle.std.specs.Prelude.{slice_index_or}
use Rattle.page_action.proofs.StoredPages.{stored_page}
use Rattle.tree_shape.specs.Edits.{IsHalfDeath, IsUnlink}
use Rattle.tree_shape.specs.Staying.{MustStay, rightmost, incomplete, after_incomplete, IsCompleteLeaf, HasBothLinks}
use Rattle.tree_shape.proofs.Links.{link_cases}
use Rattle.tree_shape.proofs.Places.{cover_at}
use Rattle.tree_shape.proofs.Staying.{complete_leaf_has_both_links, root_leaf_is_not_complete, half_death_spares, unlink_spares}
use Rattle.tree_acts.proofs.Dying.{whole_from}
use Rattle.page_delete.proofs.Siblings.{some_at, siblings}
use Rattle.page_delete.proofs.Imports.{cases_eq, Bound, Holding, Table, holding_of, nothing_held, holding_excludes, others_exclude, is_held_by_another, Cleanup, HasEntries, IsPage, IsOfKind}
use Rattle.page_delete.proofs.Imports.{IsLeafIn, Downlink, Items, Meta, Entries, Downlinks, Page, PageState, Live, HalfDead, Deleted, State, IsIn, IsTreeOf, first_context, MayDie, HasLinks, Node}
use Rattle.page_delete.proofs.Imports.{node_of, nodes_of, links_of, member, in_append_right, IsCompleteAt, state_in, HasTree, node_there, leaf_is, IsInOrder, IsToDie, IsHandingPlace, same_Some, slice_get_within}
use Rattle.page_delete.proofs.Imports.{NothingIsSpared, turned_to, moved_past, moved_past_deleted, TurnsAt, unlinks, tries, passes, LeafDies, PageIsDeleted, LinksLeft, IsAlone, IsEmptyLeaf}
use Rattle.page_delete.proofs.Imports.{HasToStay, MayGo, MayGoFrom, IsSought, IsSparing, OnlyNeededStay, EditsALeaf, dies, goes, CleanupAt, Look, Start, Judge, Unlink, CleanupOp}

live_dead : {s : PageState} → s ≡ Live → s ≡ HalfDead → ⊥
live_dead a b = cc

live_gone : {s : PageState} → s ≡ Live → s ≡ Deleted → ⊥
live_gone a b = cc

dead_gone : {s : PageState} → s ≡ HalfDead → s ≡ Deleted → ⊥
dead_gone a b = cc

admitted_at : (st : State) (block : ℕ) (page : Page) → HasTree st → slice_get st.pages block ≡ Some page → IsPage page
admitted_at st block page has found = (stored_page st.format block st.pages page has.stored found).storable.admitted

block_at : (st : State) (block : ℕ) (page : Page) → HasTree st → slice_get st.pages block ≡ Some page → page.block ≡ block
block_at st block page has found = (stored_page st.format block st.pages page has.stored found).block_is

-- a page of level 0 that isn't the metapage is a leaf
leaf_items : (page : Page) → IsPage page → 0 < page.block → page.level ≡ 0 → HasEntries page.items
leaf_items page admitted above leaf = by page.items admitted.kind
  where
    by : (items : Items) → IsOfKind page items → HasEntries items
    by Meta kind = absurd (let a = kind.block in omega (arith, a, above))
    by (Entries v) kind = tt
    by (Downlinks v) kind = absurd (let a = kind.level.0 in omega (arith, a, leaf))

-- a live leaf with a right link has a high key
high_there : (page : Page) → IsPage page → MayDie page → page.high ≡ None → ⊥
high_there page admitted may none = by page.items may.leaf admitted.kind
  where
    no_high : (o : Option Bound) → o ≡ None → IsSome o → ⊥
    no_high None e i = cc
    no_high (Some h) e i = cc

    by : (items : Items) → HasEntries items → IsOfKind page items → ⊥
    by Meta has kind = has
    by (Entries v) has kind = no_high page.high none ((subst (λ (s : PageState). IsLeafIn s page v.items) may.alive kind.rest).high.1 may.right)
    by (Downlinks v) has kind = has

-- a deleted page has no left link
moved_left : (page : Page) (b : ℕ) → IsPage page → page.state ≡ Deleted → page.left ≡ Some b → ⊥
moved_left page b admitted gone left = by page.items admitted.kind
  where
    no_left : (o : Option ℕ) → o ≡ Some b → IsNone o → ⊥
    no_left None e i = cc
    no_left (Some c) e i = cc

    by : (items : Items) → IsOfKind page items → ⊥
    by Meta kind = live_gone kind.state gone
    by (Entries v) kind = no_left page.left left ((subst (λ (s : PageState). IsLeafIn s page v.items) gone kind.rest).left)
    by (Downlinks v) kind = live_gone kind.state gone

-- an empty leaf that its own page keeps from dying
looked_stays : (st : State) (block : ℕ) (page : Page) → HasTree st → slice_get st.pages block ≡ Some page → (MayDie page → page.high ≡ None) → IsEmptyLeaf st block → HasToStay st block
looked_stays st block page has found none e = by page.split refl page.right refl
  where
    here : nodes_of st.pages block ≡ node_of page
    here = node_there st.pages block page found

    by : (w : Bool) → page.split ≡ w → (o : Option ℕ) → page.right ≡ o → HasToStay st block
    by true split o right = incomplete (ap (λ (n : Node). n.split) here ∙ split)
    by false split None right = rightmost (ap (λ (n : Node). n.right) here ∙ right)
    by false split (Some r) right = absurd (high_there page (admitted_at st block page has found) may (none may))
      where
        may : MayDie page
        may = record {
          alive = sym (ap (λ (n : Node). n.state) here) ∙ e.alive;
          whole = split;
          right = subst IsSome (sym right) refl;
          leaf = leaf_items page (admitted_at st block page has found) (subst (λ (b : ℕ). 0 < b) (sym (block_at st block page has found)) e.above) (sym (ap (λ (n : Node). n.level) here) ∙ e.leaf);
          empty = sym (ap (λ (n : Node). n.entries) here) ∙ e.empty;
        }

-- places after some downlinks
place_found : (before : List Downlink) (x : Downlink) (ys : List Downlink) (d : Downlink) → slice_index_or (before ++ x ∷ ys) (length before) d ≡ x
place_found [] x ys d = refl
place_found (b ∷ bs) x ys d = place_found bs x ys d

place_after : (before : List Downlink) (x y : Downlink) (ys : List Downlink) (d : Downlink) → slice_index_or (before ++ x ∷ y ∷ ys) (suc (length before)) d ≡ y
place_after [] x y ys d = refl
place_after (b ∷ bs) x y ys d = place_after bs x y ys d

taken_before : (before ys : List Downlink) → take (length before) (before ++ ys) ≡ before
taken_before [] ys = refl
taken_before (b ∷ bs) ys = ap (λ (l : List Downlink). b ∷ l) (taken_before bs ys)

place_inside : (before : List Downlink) (x y : Downlink) (ys : List Downlink) → suc (length before) < length (before ++ x ∷ y ∷ ys)
place_inside [] x y ys = omega arith
place_inside (b ∷ bs) x y ys = (let r = place_inside bs x y ys in omega arith)

links_there : (items : Items) (before : List Downlink) (x : Downlink) (ys : List Downlink) → links_of items ≡ before ++ x ∷ ys → HasLinks items
links_there Meta [] x ys e = cc
links_there Meta (b ∷ bs) x ys e = cc
links_there (Entries v) [] x ys e = cc
links_there (Entries v) (b ∷ bs) x ys e = cc
links_there (Downlinks v) before x ys e = tt

-- if no other session holds anything, nobody else holds the page
free_alone : (table : Table) (session block : ℕ) → ((other : ℕ) → other ≢ session → holding_of table other ≡ nothing_held) → is_held_by_another table session block Cleanup ≡ false
free_alone table session block alone = go 0 table (λ k differ. alone k (λ same. differ (let e : k ≡ session = same in omega (arith, e))))
  where
    none : (h : Holding) → h ≡ nothing_held → holding_excludes h block Cleanup ≡ false
    none h e = rw e refl

    neither : (a b c : Bool) → (a ≡ false) ⊎ (b ≡ false) → c ≡ false → ((a && b) || c) ≡ false
    neither false b c h e = e
    neither true false c h e = e
    neither true true c (inl a) e = absurd cc
    neither true true c (inr b) e = absurd cc

    here : (from : ℕ) (h : Holding) → (from ≢ session → h ≡ nothing_held) → (not (from == session) ≡ false) ⊎ (holding_excludes h block Cleanup ≡ false)
    here from h free = elim (cases_eq from session) [
      | inl same ↦ inl (rw (eq-eqb from session same) refl)
      | inr differ ↦ inr (none h (free differ))
    ]

    go : (from : ℕ) (rest : Table) → ((k : ℕ) → from + k ≢ session → holding_of rest k ≡ nothing_held) → others_exclude from rest session block Cleanup ≡ false
    go from [] free = refl
    go from (h ∷ rest) free = neither (not (from == session)) (holding_excludes h block Cleanup) (others_exclude (suc from) rest session block Cleanup)
        (here from h (λ differ. free 0 (λ same. differ (omega (arith, same)))))
        (go (suc from) rest (λ k differ. free (suc k) (λ same. differ (omega (arith, same)))))

-- an empty leaf that the pages beside it, and above, keep from dying
judged_stays : (st : State) (session block parent : ℕ) → IsInOrder st → IsAlone st session → ((b : ℕ) → state_in st b ≢ HalfDead) → MayGoFrom st block parent
    → (IsToDie st session block parent → ⊥) → HasToStay st block
judged_stays st session block parent order alone none m not_to_die = with_right m.leaf.leaf.right refl (m.leaf.may_die.right)
  where
    admitted : IsPage m.leaf.leaf
    admitted = admitted_at st block m.leaf.leaf order.tree m.leaf.found

    block_is : m.leaf.leaf.block ≡ block
    block_is = block_at st block m.leaf.leaf order.tree m.leaf.found

    here : nodes_of st.pages block ≡ node_of m.leaf.leaf
    here = node_there st.pages block m.leaf.leaf m.leaf.found

    stands : (0 < m.leaf.leaf.block) × (m.leaf.leaf.level ≡ 0)
    stands = leaf_is m.leaf.leaf admitted m.leaf.may_die.leaf

    above : 0 < block
    above = subst (λ (b : ℕ). 0 < b) block_is stands.0

    whole_left : (o : Option ℕ) → m.leaf.leaf.left ≡ o → IsCompleteAt st.pages o ⊎ HasToStay st block
    whole_left None is = inl tt
    whole_left (Some l) is = by (slice_get st.pages l) refl
      where
        none_there : (page : Page) → None ≡ Some page → page.split ≡ false
        none_there page e = cc

        by : (o : Option Page) → slice_get st.pages l ≡ o → IsCompleteAt st.pages (Some l) ⊎ HasToStay st block
        by None gone = inl (λ page found. none_there page (sym gone ∙ found))
        by (Some p) there = flag p.split refl
          where
            flag : (w : Bool) → p.split ≡ w → IsCompleteAt st.pages (Some l) ⊎ HasToStay st block
            flag true split = inr (after_incomplete l (ap (λ (n : Node). n.left) here ∙ is) (ap (λ (n : Node). n.split) (node_there st.pages l p there) ∙ split))
            flag false split = inl (λ page found. ap (λ (q : Page). q.split) (same_Some page p (sym found ∙ there)) ∙ split)

    with_right : (o : Option ℕ) → m.leaf.leaf.right ≡ o → IsSome o → HasToStay st block
    with_right None is some = cc
    with_right (Some r) is some = elim (whole_left m.leaf.leaf.left refl) [ inr stays ↦ stays | inl whole ↦ beside whole ]
      where
        beside : IsCompleteAt st.pages m.leaf.leaf.left → HasToStay st block
        beside whole = elim (complete_leaf_has_both_links (nodes_of st.pages) (length st.pages) m.above.tree.root m.above.tree.meta.level m.above.tree.chain block r parent m.high m.above.tree.is
            (let a = m.above.in_tree in omega (arith, a)) above (slice_get_within st.pages block m.leaf.leaf m.leaf.found) whole_leaf m.above.covers) [
              | inl both ↦ absurd (not_to_die (dying both))
              | inr stays ↦ stays
            ]
          where
            link : LinksLeft st.pages r m.leaf.leaf.block
            link = (siblings st order.tree m.leaf.leaf (subst (λ (b : ℕ). slice_get st.pages b ≡ Some m.leaf.leaf) (sym block_is) m.leaf.found)
                (λ gone. live_gone m.leaf.may_die.alive gone) stands.0).right r is

            right_alive : link.page.state ≡ Live
            right_alive = by link.page.state refl
              where
                by : (s : PageState) → link.page.state ≡ s → link.page.state ≡ Live
                by Live e = e
                by HalfDead e = absurd (none r (ap (λ (n : Node). n.state) (node_there st.pages r link.page link.found) ∙ e))
                by Deleted e = absurd (moved_left link.page m.leaf.leaf.block (admitted_at st r link.page order.tree link.found) e link.links)

            whole_leaf : IsCompleteLeaf (nodes_of st.pages) block r m.high
            whole_leaf = record {
              alive = ap (λ (n : Node). n.state) here ∙ m.leaf.may_die.alive;
              leaf = ap (λ (n : Node). n.level) here ∙ stands.1;
              whole = ap (λ (n : Node). n.split) here ∙ m.leaf.may_die.whole;
              left_whole = λ l is_left. whole_from st.pages m.leaf.leaf.left whole l (sym (ap (λ (n : Node). n.left) here) ∙ is_left);
              right_is = ap (λ (n : Node). n.right) here ∙ is;
              right_alive = ap (λ (n : Node). n.state) (node_there st.pages r link.page link.found) ∙ right_alive;
              high_is = ap (λ (n : Node). n.high) here ∙ m.leaf.high_is;
            }

            on_chain : IsIn parent (m.above.tree.chain 1)
            on_chain = let c = cover_at (nodes_of st.pages) first_context (m.above.tree.chain 1) _ parent m.above.covers in
                subst (IsIn parent) (sym c.is) (in_append_right parent c.front (parent ∷ c.back) (inl refl))

            parent_there : (page : Page) × (slice_get st.pages parent ≡ Some page)
            parent_there = some_at st.pages parent (m.above.tree.is.in_use 1 parent m.above.in_tree on_chain).1

            parent_node : nodes_of st.pages parent ≡ node_of parent_there.0
            parent_node = node_there st.pages parent parent_there.0 parent_there.1

            dying : HasBothLinks block r (nodes_of st.pages parent).links → IsToDie st session block parent
            dying both = record {
              free = free_alone st.table session block alone;
              leaf = m.leaf.leaf;
              found = m.leaf.found;
              may_die = m.leaf.may_die;
              left_whole = whole;
              right = r;
              right_is = is;
              right_page = link.page;
              right_found = link.found;
              right_alive = right_alive;
              parent_page = parent_there.0;
              parent_found = parent_there.1;
              at = length both.before;
              hands_on = record {
                internal = links_there parent_there.0.items both.before (record { bound = both.bound; child = block }) (record { bound = both.own; child = r } ∷ both.after) links_are;
                level = sym (ap (λ (n : Node). n.level) parent_node) ∙ (member (nodes_of st.pages) 1 first_context (m.above.tree.chain 1) None parent (m.above.tree.is.runs 1 m.above.in_tree) on_chain).0;
                place = subst (λ (links : List Downlink). IsHandingPlace links block r (length both.before)) (sym links_are) (record {
                  next_inside = place_inside both.before _ _ both.after;
                  leads = ap (λ (d : Downlink). d.child) (place_found both.before _ _ _);
                  first = subst (λ (l : List Downlink). All (λ (d : Downlink). d.child ≢ block) l) (sym (taken_before both.before _)) both.first;
                  next = ap (λ (d : Downlink). d.child) (place_after both.before _ _ both.after _);
                });
              };
            }
              where
                links_are : links_of parent_there.0.items ≡ both.before ++ record { bound = both.bound; child = block } ∷ record { bound = both.own; child = r } ∷ both.after
                links_are = sym (ap (λ (n : Node). n.links) parent_node) ∙ both.is

-- if the root is a leaf, no empty leaf may go
pub no_root_leaf : (st : State) (block : ℕ) (high : Bound) → (has : HasTree st) → has.tree.meta.level ≡ 0 → MayGo st block high → ⊥
no_root_leaf st block high has low m = by m.leaf.right refl m.may_die.right
  where
    admitted : IsPage m.leaf
    admitted = admitted_at st block m.leaf has m.found

    stands : (0 < m.leaf.block) × (m.leaf.level ≡ 0)
    stands = leaf_is m.leaf admitted m.may_die.leaf

    here : nodes_of st.pages block ≡ node_of m.leaf
    here = node_there st.pages block m.leaf m.found

    by : (o : Option ℕ) → m.leaf.right ≡ o → IsSome o → ⊥
    by None is some = cc
    by (Some r) is some = root_leaf_is_not_complete (nodes_of st.pages) (length st.pages) has.tree.root has.tree.chain block r
        (subst (λ (top : ℕ). IsTreeOf (nodes_of st.pages) (length st.pages) has.tree.root top has.tree.chain) low has.tree.is)
        (subst (λ (b : ℕ). 0 < b) (block_at st block m.leaf has m.found) stands.0) (slice_get_within st.pages block m.leaf m.found)
        (ap (λ (n : Node). n.state) here ∙ m.may_die.alive) (ap (λ (n : Node). n.level) here ∙ stands.1) (ap (λ (n : Node). n.split) here ∙ m.may_die.whole) (ap (λ (n : Node). n.right) here ∙ is)

-- the cleanup knows of no half-dead page, unless it is to unlink one
no_dead : (st : State) (op : CleanupOp) → IsSparing st op → op.at ≢ Unlink → (b : ℕ) → state_in st b ≢ HalfDead
no_dead st op h not_unlink b dead = not_unlink (h.none_dead b dead).1

-- at another step for the page
pub spared_at : (st : State) (op : CleanupOp) (at : CleanupAt) → IsSparing st op → op.at ≢ Unlink → IsSought st op.cursor at → IsSparing st (turned_to op at)
spared_at st op at h not_unlink sought = record {
  none_dead = λ b dead. absurd (no_dead st op h not_unlink b dead);
  sought = sought;
  stays = h.stays;
}

-- after the page
pub spared_past : (st : State) (op : CleanupOp) (count : ℕ) → IsSparing st op → ((b : ℕ) → state_in st b ≢ HalfDead)
    → (IsEmptyLeaf st op.cursor → HasToStay st op.cursor) → IsSparing st (moved_past op count)
spared_past st op count h none here = record {
  none_dead = λ b dead. absurd (none b dead);
  sought = tt;
  stays = λ b lt e. elim (cases_eq b op.cursor) [
    | inl same ↦ subst (HasToStay st) (sym same) (here (subst (IsEmptyLeaf st) same e))
    | inr differ ↦ h.stays b (omega (arith, lt, differ)) e
  ];
}

-- after the look at a page
pub spared_looking : (st : State) (before after : CleanupOp) (page : Page) → HasTree st → slice_get st.pages before.cursor ≡ Some page
    → before.at ≡ Look → IsSparing st before → TurnsAt page before after → IsSparing st after
spared_looking st before after page has found at h turn = by turn
  where
    not_unlink : before.at ≢ Unlink
    not_unlink e = clash (sym at ∙ e)
      where
        clash : Look ≡ Unlink → ⊥
        clash k = cc

    none : (b : ℕ) → state_in st b ≢ HalfDead
    none = no_dead st before h not_unlink

    by : TurnsAt page before after → IsSparing st after
    by (unlinks dead is) = absurd (none before.cursor (ap (λ (n : Node). n.state) (node_there st.pages before.cursor page found) ∙ dead))
    by (tries high may is_high is) = rw is (spared_at st before (Start high) h not_unlink (record { leaf = page; found = found; may_die = may; high_is = is_high }))
    by (passes alive empty is) = rw is (spared_past st before _ h none (looked_stays st before.cursor page has found empty))

-- after the test of the leaf, which is passed
pub spared_judged : (st : State) (before : CleanupOp) (high : Bound) (parent : ℕ) → IsInOrder st → IsAlone st before.session → before.at ≡ Judge high parent → IsSparing st before
    → (IsToDie st before.session before.cursor parent → ⊥) → IsSparing st (moved_past before 0)
spared_judged st before high parent order alone at h spared =
    spared_past st before 0 h none (λ e. judged_stays st before.session before.cursor parent order alone none (subst (IsSought st before.cursor) at h.sought) spared)
  where
    none : (b : ℕ) → state_in st b ≢ HalfDead
    none = no_dead st before h (λ e. clash (sym at ∙ e))
      where
        clash : Judge high parent ≡ Unlink → ⊥
        clash k = cc

-- the other pages are the leaves that they were
leaf_before_death : (old new : State) (n q b : ℕ) → length new.pages ≡ length old.pages → IsHalfDeath (nodes_of old.pages) (nodes_of new.pages) n q → b ≢ n → IsEmptyLeaf new b → IsEmptyLeaf old b
leaf_before_death old new n q b used h not_n e = elim (cases_eq b q) [
  | inl is_q ↦ record {
    above = e.above;
    inside = subst (λ (k : ℕ). b < k) used e.inside;
    alive = subst (λ (c : ℕ). (nodes_of old.pages c).state ≡ Live) (sym is_q) (sym (ap (λ (x : Node). x.state) h.parent_is) ∙ subst (λ (c : ℕ). (nodes_of new.pages c).state ≡ Live) is_q e.alive);
    leaf = subst (λ (c : ℕ). (nodes_of old.pages c).level ≡ 0) (sym is_q) (sym (ap (λ (x : Node). x.level) h.parent_is) ∙ subst (λ (c : ℕ). (nodes_of new.pages c).level ≡ 0) is_q e.leaf);
    empty = subst (λ (c : ℕ). (nodes_of old.pages c).entries ≡ []) (sym is_q) (sym (ap (λ (x : Node). x.entries) h.parent_is) ∙ subst (λ (c : ℕ). (nodes_of new.pages c).entries ≡ []) is_q e.empty);
  }
  | inr not_q ↦ let same = h.others b not_n not_q in record {
    above = e.above;
    inside = subst (λ (k : ℕ). b < k) used e.inside;
    alive = sym (ap (λ (x : Node). x.state) same) ∙ e.alive;
    leaf = sym (ap (λ (x : Node). x.level) same) ∙ e.leaf;
    empty = sym (ap (λ (x : Node). x.entries) same) ∙ e.empty;
  }
]

leaf_before_unlink : (old new : State) (n b : ℕ) → length new.pages ≡ length old.pages → IsUnlink (nodes_of old.pages) (nodes_of new.pages) n → b ≢ n → IsEmptyLeaf new b → IsEmptyLeaf old b
leaf_before_unlink old new n b used u not_n e = record {
  above = e.above;
  inside = subst (λ (k : ℕ). b < k) used e.inside;
  alive = sym same.0 ∙ e.alive;
  leaf = sym same.1 ∙ e.leaf;
  empty = sym same.2 ∙ e.empty;
}
  where
    same : ((nodes_of new.pages b).state ≡ (nodes_of old.pages b).state) × ((nodes_of new.pages b).level ≡ (nodes_of old.pages b).level)
        × ((nodes_of new.pages b).entries ≡ (nodes_of old.pages b).entries)
    same = elim (cases_eq b u.right) [
      | inl is_right ↦ subst
          (λ (c : ℕ). ((nodes_of new.pages c).state ≡ (nodes_of old.pages c).state) × ((nodes_of new.pages c).level ≡ (nodes_of old.pages c).level)
          × ((nodes_of new.pages c).entries ≡ (nodes_of old.pages c).entries))
          (sym is_right) (ap (λ (x : Node). x.state) u.right_mended, ap (λ (x : Node). x.level) u.right_mended, ap (λ (x : Node). x.entries) u.right_mended)
      | inr not_right ↦ elim (link_cases (nodes_of old.pages n).left b) [
        | inl is_left ↦ let k = u.left_mended b is_left in (ap (λ (x : Node). x.state) k, ap (λ (x : Node). x.level) k, ap (λ (x : Node). x.entries) k)
        | inr not_left ↦ let k = u.others b not_n not_right not_left in (ap (λ (x : Node). x.state) k, ap (λ (x : Node). x.level) k, ap (λ (x : Node). x.entries) k)
      ]
    ]

-- the leaf at the cursor became half-dead
pub spared_dying : (old new : State) (op : CleanupOp) (high : Bound) (parent : ℕ) → op.at ≡ Judge high parent → length new.pages ≡ length old.pages
    → IsSparing old op → LeafDies op.cursor old new → EditsALeaf old new → IsSparing new (turned_to op Unlink)
spared_dying old new op high parent at used h moves edit = record {
  none_dead = λ b dead. elim (cases_eq b op.cursor) [
    | inl same ↦ (same, refl)
    | inr differ ↦ absurd (none b (sym (moves.others b differ) ∙ dead))
  ];
  sought = moves.after;
  stays = λ b lt e. by edit b lt e;
}
  where
    none : (b : ℕ) → state_in old b ≢ HalfDead
    none = no_dead old op h (λ e. clash (sym at ∙ e))
      where
        clash : Judge high parent ≡ Unlink → ⊥
        clash k = cc

    by : EditsALeaf old new → (b : ℕ) → b < op.cursor → IsEmptyLeaf new b → HasToStay new b
    by (goes n above below u) b lt e = absurd (none n u.dead)
    by (dies n q above below d) b lt e = subst (λ (k : ℕ). MustStay (nodes_of new.pages) k b) (sym used)
        (half_death_spares (nodes_of old.pages) (nodes_of new.pages) (length old.pages) n q b d not_n (h.stays b lt (leaf_before_death old new n q b used d not_n e)))
      where
        not_n : b ≢ n
        not_n same = elim (cases_eq n op.cursor) [
          | inl here ↦ (let k : b ≡ op.cursor = same ∙ here in omega (arith, lt, k))
          | inr differ ↦ none n (sym (moves.others n differ) ∙ ap (λ (x : Node). x.state) d.half_dead_is)
        ]

-- ... or was deleted
pub spared_deleted : (old new : State) (op : CleanupOp) → HasTree old → op.at ≡ Unlink → length new.pages ≡ length old.pages → IsSparing old op
    → PageIsDeleted op.cursor old new → EditsALeaf old new → IsSparing new (moved_past_deleted op)
spared_deleted old new op has at used h moves edit = record {
  none_dead = λ b dead. absurd (none b dead);
  sought = tt;
  stays = λ b lt e. elim (cases_eq b op.cursor) [
    | inl same ↦ absurd (live_gone (subst (λ (c : ℕ). state_in new c ≡ Live) same e.alive) moves.after)
    | inr differ ↦ by edit b (omega (arith, lt, differ)) e
  ];
}
  where
    none : (b : ℕ) → state_in new b ≢ HalfDead
    none b dead = elim (cases_eq b op.cursor) [
      | inl same ↦ dead_gone (subst (λ (c : ℕ). state_in new c ≡ HalfDead) same dead) moves.after
      | inr differ ↦ differ (h.none_dead b (sym (moves.others b differ) ∙ dead)).0
    ]

    by : EditsALeaf old new → (b : ℕ) → b < op.cursor → IsEmptyLeaf new b → HasToStay new b
    by (dies n q above below d) b lt e = absurd (none n (ap (λ (x : Node). x.state) d.half_dead_is))
    by (goes n above below u) b lt e = subst (λ (k : ℕ). MustStay (nodes_of new.pages) k b) (sym used)
        (unlink_spares (nodes_of old.pages) (nodes_of new.pages) (length old.pages) has.tree.root has.tree.meta.level has.tree.chain n b has.tree.is u
        above below not_n (h.stays b lt (leaf_before_unlink old new n b used u not_n e)))
      where
        not_n : b ≢ n
        not_n same = (let k : b ≡ op.cursor = same ∙ (h.none_dead n u.dead).0 in omega (arith, lt, k))

-- at the end
pub spared_all : (st : State) (op : CleanupOp) → IsSparing st op → length st.pages ≤ op.cursor → OnlyNeededStay st
spared_all st op h last b e = h.stays b (let i = e.inside in omega (arith, i, last)) e

-- at the beginning
pub nothing_spared : NothingIsSpared
nothing_spared st session order none = record {
  none_dead = λ b dead. absurd (none b dead);
  sought = tt;
  stays = λ b lt e. absurd (let a = e.above in omega (arith, lt, a));
}
