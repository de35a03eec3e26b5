-- The siblings of a page of a tree link to it.
use Rattle.std.proofs.Common.{◌≡◌, ◌≢◌, ℕ, zero, suc, ◌<◌, ◌≤◌, inl, inr, List, [], ◌∷◌, ◌++◌, length, slice_get, slice_index, Some, None, refl, sym, ap, subst, ◌∙◌, arith}
use Rattle.tree_shape.proofs.Deleting.{is_dead}
use Rattle.tree_shape.proofs.LeafSplit.{first_in}
use Rattle.tree_shape.proofs.Runs.{run_front, run_back, SplitAt, split_at}
use Rattle.tree_shape.proofs.Unlink.{left_in}
use Rattle.tree_acts.proofs.Words.{trail_in}
use Rattle.page_delete.proofs.Imports.{IsPage, Page, HalfDead, Deleted, State, Node, node_of, nodes_of, IsRunOf, LeftContext, past, context_after, first_context, IsIn, AreDistinct, apart_sides}
use Rattle.page_delete.proofs.Imports.{apart_back, not_in_apart, in_append_left, in_append_right, IsTrail, reached, over, HasTree, HasTrail, deleted_in_use, node_there, LinksRight, same_Some, slice_get_within}
use Rattle.page_delete.proofs.Imports.{LinksLeft, SiblingsLink}

-- a block in use has a page
pub some_at : (pages : List Page) (c : ℕ) → c < length pages → (page : Page) × (slice_get pages c ≡ Some page)
some_at [] c lt = absurd (omega arith)
some_at (p ∷ pages) zero lt = (p, refl)
some_at (p ∷ pages) (suc c) lt = some_at pages c (omega arith)

-- the page right before some page leads to it
last_right : (at : ℕ → Node) (level : ℕ) (s : LeftContext) (x : ℕ) (xs : List ℕ) (l b : ℕ) → IsRunOf at level s (x ∷ xs) (Some b) → (context_after at s (x ∷ xs)).left ≡ Some l → (at l).right ≡ Some b
last_right at level s x [] l b run is = ap (λ (c : ℕ). (at c).right) (sym (same_Some x l is)) ∙ run.0.right_is
last_right at level s x (y ∷ ys) l b run is = last_right at level (past x (at x) s) y ys l b run.1 is

left_leads : (at : ℕ → Node) (level : ℕ) (xs : List ℕ) (l b : ℕ) → IsRunOf at level first_context xs (Some b) → (context_after at first_context xs).left ≡ Some l → (at l).right ≡ Some b
left_leads at level [] l b run is = cc
left_leads at level (x ∷ xs) l b run is = last_right at level first_context x xs l b run is

-- the page right after some page leads back to it
next_left : (at : ℕ → Node) (level : ℕ) (s : LeftContext) (b : ℕ) (xs : List ℕ) (r : ℕ) → IsRunOf at level s (b ∷ xs) None → (at b).right ≡ Some r → (at r).left ≡ Some b
next_left at level s b [] r run is = absurd (no_link (sym run.0.right_is ∙ is))
  where
    no_link : None ≡ Some r → ⊥
    no_link e = cc
next_left at level s b (x ∷ xs) r run is = ap (λ (c : ℕ). (at c).left) (sym (same_Some x r (sym run.0.right_is ∙ is))) ∙ run.1.0.left_is

-- a page to which a walk has come is in use
pub trail_in_use : (st : State) (start level block moves : ℕ) → HasTree st → HasTrail st start level block moves → block < length st.pages
trail_in_use st start level block moves tree trail = (let t = trail_in st tree.tree start level block moves trail in by t.in_tree t.passed t.steps t.trail)
  where
    by : level ≤ tree.tree.meta.level → (passed : List ℕ) (steps : ℕ) → IsTrail (nodes_of st.pages) (slice_index st.counted) (tree.tree.chain level) start passed steps block → block < length st.pages
    by in_top passed steps (reached i left) = (tree.tree.is.in_use level block in_top i).1
    by in_top passed steps (over r kept right apart rest) = (deleted_in_use st tree block kept.gone).1

module _ (st : State) (has : HasTree st) (page : Page) (found : slice_get st.pages page.block ≡ Some page) (alive : page.state ≢ Deleted) (above : 0 < page.block) where
  here : nodes_of st.pages page.block ≡ node_of page
  here = node_there st.pages page.block page found

  abbrev level : ℕ
  level = (nodes_of st.pages page.block).level

  pub stands : (level ≤ has.tree.meta.level) × IsIn page.block (has.tree.chain level)
  stands = has.tree.is.placed page.block above (slice_get_within st.pages page.block page found) (λ gone. alive (sym (ap (λ (n : Node). n.state) here) ∙ gone))

  w : SplitAt page.block (has.tree.chain level)
  w = split_at page.block (has.tree.chain level) stands.1

  run : IsRunOf (nodes_of st.pages) level first_context (w.front ++ page.block ∷ w.back) None
  run = subst (λ (xs : List ℕ). IsRunOf (nodes_of st.pages) level first_context xs None) w.is (has.tree.is.runs level stands.0)

  distinct : AreDistinct (w.front ++ page.block ∷ w.back)
  distinct = subst AreDistinct w.is (has.tree.is.distinct level stands.0)

  from_here : IsRunOf (nodes_of st.pages) level (context_after (nodes_of st.pages) first_context w.front) (page.block ∷ w.back) None
  from_here = run_back (nodes_of st.pages) level first_context w.front (page.block ∷ w.back) None run

  on_chain : (c : ℕ) → IsIn c (w.front ++ page.block ∷ w.back) → c < length st.pages
  on_chain c i = (has.tree.is.in_use level c stands.0 (subst (IsIn c) (sym w.is) i)).1

  left_stands : (l : ℕ) → page.left ≡ Some l → IsIn l w.front
  left_stands l is = left_in (nodes_of st.pages) l w.front (sym from_here.0.left_is ∙ ap (λ (n : Node). n.left) here ∙ is)

  right_stands : (r : ℕ) → page.right ≡ Some r → IsIn r w.back
  right_stands r is = first_in r w.back (sym from_here.0.right_is ∙ ap (λ (n : Node). n.right) here ∙ is)

  pub left_links : (l : ℕ) → page.left ≡ Some l → LinksRight st.pages l page.block
  left_links l is =
      let p = some_at st.pages l (on_chain l (in_append_left l w.front (page.block ∷ w.back) (left_stands l is))) in
      record {
        page = p.0;
        found = p.1;
        links = sym (ap (λ (n : Node). n.right) (node_there st.pages l p.0 p.1))
            ∙ left_leads (nodes_of st.pages) level w.front l page.block (run_front (nodes_of st.pages) level first_context w.front page.block w.back None run)
            (sym from_here.0.left_is ∙ ap (λ (n : Node). n.left) here ∙ is);
      }

  pub right_links : (r : ℕ) → page.right ≡ Some r → LinksLeft st.pages r page.block
  right_links r is =
      let p = some_at st.pages r (on_chain r (in_append_right r w.front (page.block ∷ w.back) (inr (right_stands r is)))) in
      record {
        page = p.0;
        found = p.1;
        links = sym (ap (λ (n : Node). n.left) (node_there st.pages r p.0 p.1))
            ∙ next_left (nodes_of st.pages) level (context_after (nodes_of st.pages) first_context w.front) page.block w.back r from_here (ap (λ (n : Node). n.right) here ∙ is);
      }

  pub siblings : SiblingsLink st.pages page
  siblings = record { left = left_links; right = right_links }

  -- the three are different pages
  pub left_apart : (l : ℕ) → page.left ≡ Some l → l ≢ page.block
  left_apart l is = apart_sides w.front (page.block ∷ w.back) l page.block distinct (left_stands l is) (inl refl)

  pub right_apart : (r : ℕ) → page.right ≡ Some r → page.block ≢ r
  right_apart r is = not_in_apart page.block r w.back (apart_back w.front (page.block ∷ w.back) distinct).0 (right_stands r is)

  pub sides_apart : (l r : ℕ) → page.left ≡ Some l → page.right ≡ Some r → l ≢ r
  sides_apart l r left right = apart_sides w.front (page.block ∷ w.back) l r distinct (left_stands l left) (inr (right_stands r right))

-- a half-dead page stands among the leaves
pub dead_begins_trail : (st : State) (start : ℕ) (page : Page) → HasTree st → slice_get st.pages page.block ≡ Some page → IsPage page → page.state ≡ HalfDead → HasTrail st start 0 page.block 0
dead_begins_trail st start page has found admitted dead =
    let d = is_dead page admitted dead in
    let level : (nodes_of st.pages page.block).level ≡ 0 = ap (λ (n : Node). n.level) (node_there st.pages page.block page found) ∙ d.level in
    let on = stands st has page found (λ gone. clash (sym dead ∙ gone)) d.block.0 in
    record { tree = has.tree; in_tree = omega arith; passed = []; count = refl; distinct = tt; steps = 0; trail = reached (subst (λ (k : ℕ). IsIn page.block (has.tree.chain k)) level on.1) tt }
  where
    clash : HalfDead ≡ Deleted → ⊥
    clash e = cc
