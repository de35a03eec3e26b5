-- Each edit leaves a tree, and each kept number good.
use Rattle.std.proofs.Common.{◌≡◌, ◌≢◌, ◌⊎◌, ℕ, suc, ◌<◌, ◌≤◌, inl, inr, Bool, true, List, [], ◌∷◌, ◌++◌, Some, None, refl, sym, ap, subst, ◌∙◌, arith}
use Rattle.std.specs.List.{filter}
use Rattle.tree_shape.proofs.Imports.{cases_eq, bound_of, Bound, Entry, PageState, Live, Deleted, Node, IsRunOf, LeftContext, context_after, first_context, IsIn, AreDistinct, IsRootLevel, IsTreeOf}
use Rattle.tree_shape.proofs.Imports.{entry_aim, bound_aim, is_fit, IsFitOn, KeepsPlaces, SameOrder, IsInsertion, IsRemoval, InsertionKeeps, RemovalKeeps, LeafSplitKeeps, FinishKeeps, same_Some}
use Rattle.tree_shape.proofs.Imports.{ParentSplitKeeps, RootSplitKeeps}
use Rattle.tree_shape.proofs.Runs.{run_back, SplitAt, split_at}
use Rattle.tree_shape.proofs.Members.{member, in_append_left, in_append_right, apart_sides, apart_back, not_in_apart}
use Rattle.tree_shape.proofs.Links.{link_cases}
use Rattle.tree_shape.proofs.LeafSplit.{first_in}
use Rattle.tree_shape.proofs.LeafSplitTree.{leaf_split_tree, put_chain, put_chain_same, put_chain_other}
use Rattle.tree_shape.proofs.Insertion.{IsLeafEdit, leaf_edit_tree, insertion_tree}
use Rattle.tree_shape.proofs.Removal.{filter_within}
use Rattle.tree_shape.proofs.Clear.{incomplete_alive}
use Rattle.tree_shape.proofs.Finish.{upper_live}
use Rattle.tree_shape.proofs.FinishTree.{finish_tree}
use Rattle.tree_shape.proofs.ParentSplitTree.{parent_split_tree}
use Rattle.tree_shape.proofs.RootSplit.{root_split_tree}
use Rattle.tree_shape.proofs.Fits.{root_from_fit, fit_beyond, fit_clear}
use Rattle.tree_shape.proofs.Places.{IsPassedAlike, alike_from, DeletedStay, places_alike, places_spliced, IsFitAt, fit_at}
use Rattle.tree_shape.proofs.Trails.{order_same, order_put, fit_in}
use Rattle.tree_shape.proofs.Parents.{beyond_from, within_from, IsIncompleteAt, incomplete_at}

clash : {st : PageState} → st ≡ Live → st ≡ Deleted → ⊥
clash a b = cc

-- a page of a chain is on its level, in use, and not deleted
record IsMember (at : ℕ → Node) (used level c : ℕ) : Type 0 where
  level_is : (at c).level ≡ level
  alive : (at c).state ≢ Deleted
  above : 0 < c
  inside : c < used

on_chain_of : (at : ℕ → Node) (used root top : ℕ) (chain : ℕ → List ℕ) → IsTreeOf at used root top chain → (level c : ℕ) → level ≤ top → IsIn c (chain level) → IsMember at used level c
on_chain_of at used root top chain tree level c in_top i =
    let m = member at level first_context (chain level) None c (tree.runs level in_top) i in
    let u = tree.in_use level c in_top i in
    record { level_is = m.0; alive = m.1; above = u.0; inside = u.1 }

-- what a leaf with other entries leaves of the walks that pass it
edit_alike : {at at' : ℕ → Node} {b : ℕ} {after : List Entry} → IsLeafEdit at at' b after → (c : ℕ) → IsPassedAlike (at c) (at' c)
edit_alike {at} {at'} {b} h c = elim (cases_eq c b) [
  | inl is_b ↦ rw is_b (rw h.leaf_is (record { state = refl; high = refl; split = inr refl }))
  | inr not_b ↦ alike_from (at c) (at' c) (h.others c not_b)
]

edit_stay : {at at' : ℕ → Node} {b : ℕ} {after : List Entry} (number number' : ℕ → ℕ) → IsLeafEdit at at' b after → ((c : ℕ) → c ≢ b → number' c ≡ number c)
    → (start : ℕ) → DeletedStay at at' number number' start
edit_stay {at} {at'} {b} number number' h counts start c kept =
    let not_b : c ≢ b = λ same. clash h.alive (subst (λ (d : ℕ). (at d).state ≡ Deleted) same kept.gone) in
    (h.others c not_b, counts c not_b)

edit_of_insertion : {at at' : ℕ → Node} {b : ℕ} {e : Entry} → (h : IsInsertion at at' b e) → IsLeafEdit at at' b h.after
edit_of_insertion h = record { alive = h.alive; leaf = h.leaf; leaf_is = h.leaf_is; others = h.others }

edit_of_removal : {at at' : ℕ → Node} {b : ℕ} {keeps : Entry → Bool} → IsRemoval at at' b keeps → IsLeafEdit at at' b (filter keeps (at b).entries)
edit_of_removal h = record { alive = h.alive; leaf = h.leaf; leaf_is = h.leaf_is; others = h.others }

-- a live leaf in use is on the chain of its level
pub leaf_on_chain : (at : ℕ → Node) (used root top : ℕ) (chain : ℕ → List ℕ) (b : ℕ) → IsTreeOf at used root top chain → (at b).state ≡ Live → (at b).level ≡ 0 → 0 < b → b < used
    → IsIn b (chain 0)
leaf_on_chain at used root top chain b tree alive leaf above inside =
    subst (λ (level : ℕ). IsIn b (chain level)) leaf (tree.placed b above inside (λ gone. clash alive gone)).1

pub insertion_keeps : InsertionKeeps
insertion_keeps at at' number number' used root top chain least b e clear tree h fit within counts = record {
  chain' = chain;
  tree = insertion_tree at at' used root top chain b e f.front f.back tree f.is h
      (beyond_from (bound_of e) (context_after at first_context f.front).low (fit_beyond (entry_aim e) clear (context_after at first_context f.front) f.passes))
      (within_from (bound_of e) (at b).high within);
  places = λ start is level in_top. places_alike at at' number number' (chain level) start (λ c i. edit_alike (edit_of_insertion h) c) (edit_stay number number' (edit_of_insertion h) counts start);
  order = λ level in_top. order_same (chain level);
}
  where
    f : IsFitAt at first_context (chain 0) (is_fit (entry_aim e) clear) b
    f = fit_at at first_context (chain 0) (is_fit (entry_aim e) clear) b fit

-- entries are removed from a leaf of the tree
pub removal_keeps : RemovalKeeps
removal_keeps at at' number number' used root top chain least b keeps tree h above inside counts = record {
  chain' = chain;
  tree = leaf_edit_tree at at' used root top chain b (filter keeps (at b).entries) w.front w.back tree w.is (edit_of_removal h)
      (λ sorted. filter_within keeps (context_after at first_context w.front).low (at b).entries (at b).high sorted);
  places = λ start is level in_top. places_alike at at' number number' (chain level) start (λ c i. edit_alike (edit_of_removal h) c) (edit_stay number number' (edit_of_removal h) counts start);
  order = λ level in_top. order_same (chain level);
}
  where
    w : SplitAt b (chain 0)
    w = split_at b (chain 0) (leaf_on_chain at used root top chain b tree h.alive h.leaf above inside)

-- a chain into which a block is put keeps its order, and so do the others
order_of : (chain : ℕ → List ℕ) (at_level : ℕ) (front : List ℕ) (b new : ℕ) (back : List ℕ) → chain at_level ≡ front ++ b ∷ back → (level : ℕ) → (level ≡ at_level) ⊎ (level ≢ at_level)
    → SameOrder (chain level) (put_chain chain at_level (front ++ b ∷ new ∷ back) level)
order_of chain at_level front b new back is level (inl here) =
    rw here (rw (put_chain_same chain at_level (front ++ b ∷ new ∷ back)) (subst (λ (xs : List ℕ). SameOrder xs (front ++ b ∷ new ∷ back)) (sym is) (order_put front b new back)))
order_of chain at_level front b new back is level (inr other) = rw (put_chain_other chain at_level (front ++ b ∷ new ∷ back) level other) (order_same (chain level))

pub leaf_split_keeps : LeafSplitKeeps
leaf_split_keeps at at' number number' used root top chain least b new e tree h free reusable fit within counts = record {
  chain' = put_chain chain 0 (f.front ++ b ∷ new ∷ f.back);
  tree = leaf_split_tree at at' used root top chain b new e f.front f.back tree f.is h free
      (beyond_from (bound_of e) context.low (fit_beyond (entry_aim e) true context f.passes)) (within_from (bound_of e) (at b).high within)
      (λ z. root_from_fit at root b f.front f.back (subst (IsRootLevel at root) f.is (subst (λ (k : ℕ). IsRootLevel at root (chain k)) z tree.root_level)) (fit_clear (entry_aim e) context f.passes));
  places = λ start is level in_top. kept start is level in_top (cases_eq level 0);
  order = λ level in_top. order_of chain 0 f.front b new f.back f.is level (cases_eq level 0);
}
  where
    f : IsFitAt at first_context (chain 0) (is_fit (entry_aim e) true) b
    f = fit_at at first_context (chain 0) (is_fit (entry_aim e) true) b fit

    context : LeftContext
    context = context_after at first_context f.front

    run : IsRunOf at 0 first_context (f.front ++ b ∷ f.back) None
    run = rw (f.is) at (tree.runs 0 (omega arith))

    not_new : (level c : ℕ) → level ≤ top → IsIn c (chain level) → c ≢ new
    not_new level c in_top i same =
        let m = on_chain_of at used root top chain tree level c in_top i in
        m.alive (rw same (free.not_in_use (rw (← same) m.inside)))

    right_in : (c : ℕ) → (at b).right ≡ Some c → IsIn c (chain 0)
    right_in c same =
        let here = run_back at 0 first_context f.front (b ∷ f.back) None run in
        subst (IsIn c) (sym f.is) (in_append_right c f.front (b ∷ f.back) (inr (first_in c f.back (sym here.0.right_is ∙ same))))

    alike : (c : ℕ) → c ≢ b → c ≢ new → IsPassedAlike (at c) (at' c)
    alike c not_b not_new = elim (link_cases (at b).right c) [
      | inl is_right ↦ rw (h.neighbour_is c is_right) (record { state = refl; high = refl; split = inr refl })
      | inr not_right ↦ alike_from (at c) (at' c) (h.others c not_b not_new not_right)
    ]

    stay : (start : ℕ) → least ≤ start → DeletedStay at at' number number' start
    stay start is c kept =
        let not_b : c ≢ b = λ same. clash h.alive (subst (λ (d : ℕ). (at d).state ≡ Deleted) same kept.gone) in
        let not_new : c ≢ new = λ same. late (reusable (subst (λ (d : ℕ). (at d).state ≡ Deleted) same kept.gone)) (subst (λ (d : ℕ). start < number d) same kept.late) in
        let not_right : (at b).right ≢ Some c = λ same. (on_chain_of at used root top chain tree 0 c (omega arith) (right_in c same)).alive kept.gone in
        (h.others c not_b not_new not_right, counts c not_b not_new not_right)
      where
        late : {n : ℕ} → n ≤ least → start < n → ⊥
        late p q = omega arith

    kept : (start : ℕ) → least ≤ start → (level : ℕ) → level ≤ top → (level ≡ 0) ⊎ (level ≢ 0)
        → KeepsPlaces at at' number number' (chain level) (put_chain chain 0 (f.front ++ b ∷ new ∷ f.back) level) start
    kept start is level in_top (inr upper) = rw (put_chain_other chain 0 (f.front ++ b ∷ new ∷ f.back) level upper)
        (places_alike at at' number number' (chain level) start
        (λ c i. alike c (λ same. upper (sym (on_chain_of at used root top chain tree level c in_top i).level_is ∙ subst (λ (d : ℕ). (at d).level ≡ 0) (sym same) h.leaf)) (not_new level c in_top i))
        (stay start is))
    kept start is level in_top (inl z) = rw z (rw (put_chain_same chain 0 (f.front ++ b ∷ new ∷ f.back))
        (subst (λ (xs : List ℕ). KeepsPlaces at at' number number' xs (f.front ++ b ∷ new ∷ f.back) start) (sym f.is)
        (places_spliced at at' number number' f.front b new f.back start
        (λ c i. alike c (apart_front c i) (not_new 0 c (omega arith) (subst (IsIn c) (sym f.is) (in_append_left c f.front (b ∷ f.back) i))))
        (record { alive = h.alive; new_alive = rw h.halves.right_is refl; high = rw h.halves.right_is refl; split = rw h.halves.right_is refl })
        (λ c i. alike c (apart_back_of c i) (not_new 0 c (omega arith) (subst (IsIn c) (sym f.is) (in_append_right c f.front (b ∷ f.back) (inr i)))))
        (stay start is))))
      where
        distinct : AreDistinct (f.front ++ b ∷ f.back)
        distinct = rw (f.is) at (tree.distinct 0 (omega arith))

        apart_front : (c : ℕ) → IsIn c f.front → c ≢ b
        apart_front c i = apart_sides f.front (b ∷ f.back) c b distinct i (inl refl)

        apart_back_of : (c : ℕ) → IsIn c f.back → c ≢ b
        apart_back_of c i same = not_in_apart b c f.back (apart_back f.front (b ∷ f.back) distinct).0 i (sym same)

-- page p, with an incomplete split, and the page q of the level above, as they stand on their chains
record Standing (at : ℕ → Node) (chain : ℕ → List ℕ) (level p new q : ℕ) : Type 0 where
  front : List ℕ
  rest : List ℕ
  left : List ℕ
  right : List ℕ
  lower_is : chain level ≡ front ++ p ∷ new ∷ rest
  upper_is : chain (suc level) ≡ left ++ q ∷ right
  level_is : (at p).level ≡ level
  p_alive : (at p).state ≡ Live
  q_alive : (at q).state ≡ Live

standing : (at : ℕ → Node) (used root top : ℕ) (chain : ℕ → List ℕ) (level p new q : ℕ) (s : Bound) → IsTreeOf at used root top chain → level < top
    → (at p).split ≡ true → (at p).high ≡ Some s → (at p).right ≡ Some new
    → IsFitOn at first_context (chain level) (is_fit (bound_aim s) true) p → IsIn q (chain (suc level)) → Standing at chain level p new q
standing at used root top chain level p new q s tree tall incomplete high right fit q_in = record {
  front = f.front;
  rest = f.rest;
  left = w.front;
  right = w.back;
  lower_is = f.is ∙ ap (λ (n : ℕ). f.front ++ p ∷ n ∷ f.rest) (same_Some f.new new (sym f.right_is ∙ right));
  upper_is = w.is;
  level_is = (member at level first_context (f.front ++ p ∷ f.new ∷ f.rest) None p f.incomplete.run (in_append_right p f.front (p ∷ f.new ∷ f.rest) (inl refl))).0;
  p_alive = incomplete_alive at level first_context f.front p f.new s f.rest f.incomplete;
  q_alive = upper_live (at q).state level (context_after at first_context w.front) (at q) (run_back at (suc level) first_context w.front (q ∷ w.back) None (rw (w.is) at (tree.runs (suc level) tall))).0.fits;
}
  where
    f : IsIncompleteAt at level (chain level) p s
    f = incomplete_at at level (chain level) p s (tree.runs level (omega arith)) fit incomplete high

    w : SplitAt q (chain (suc level))
    w = split_at q (chain (suc level)) q_in

pub finish_keeps : FinishKeeps
finish_keeps at at' number number' used root top chain least level p q s tree tall h sep fit q_in counts = record {
  chain' = chain;
  tree = finish_tree at at' used root top chain p q level w.front w.rest w.left w.right h tree w.level_is w.lower_is w.upper_is tall;
  places = λ start is k in_top. places_alike at at' number number' (chain k) start (λ c i. alike c) (stay start);
  order = λ k in_top. order_same (chain k);
}
  where
    w : Standing at chain level p h.new q
    w = standing at used root top chain level p h.new q s tree tall h.incomplete (h.high_is ∙ ap Some sep) h.right_is fit q_in

    alike : (c : ℕ) → IsPassedAlike (at c) (at' c)
    alike c = elim (cases_eq c p) [
      | inl is_p ↦ rw is_p (rw h.cleared_is (record { state = refl; high = refl; split = inl refl }))
      | inr not_p ↦ elim (cases_eq c q) [
        | inl is_q ↦ rw is_q (rw h.parent_is (record { state = refl; high = refl; split = inr refl }))
        | inr not_q ↦ alike_from (at c) (at' c) (h.others c not_p not_q)
      ]
    ]

    stay : (start : ℕ) → DeletedStay at at' number number' start
    stay start c kept =
        let not_p : c ≢ p = λ same. clash w.p_alive (subst (λ (d : ℕ). (at d).state ≡ Deleted) same kept.gone) in
        let not_q : c ≢ q = λ same. clash w.q_alive (subst (λ (d : ℕ). (at d).state ≡ Deleted) same kept.gone) in
        (h.others c not_p not_q, counts c not_p not_q)

pub parent_split_keeps : ParentSplitKeeps
parent_split_keeps at at' number number' used root top chain least level p q sibling s tree tall h sep free reusable fit q_fit counts = record {
  chain' = put_chain chain (suc level) (w.left ++ q ∷ sibling ∷ w.right);
  tree = parent_split_tree at at' used root top chain p q sibling level w.front w.rest w.left w.right h tree free w.level_is w.lower_is w.upper_is tall at_root;
  places = λ start is k in_top. kept start is k in_top (cases_eq k (suc level));
  order = λ k in_top. order_of chain (suc level) w.left q sibling w.right w.upper_is k (cases_eq k (suc level));
}
  where
    w : Standing at chain level p h.new q
    w = standing at used root top chain level p h.new q s tree tall h.incomplete (h.high_is ∙ ap Some sep) h.right_is fit (fit_in at first_context (chain (suc level)) (is_fit (bound_aim s) true) q q_fit)

    at_root : top ≡ suc level → q ≡ root
    at_root is_top =
        let f = fit_at at first_context (chain (suc level)) (is_fit (bound_aim s) true) q q_fit in
        root_from_fit at root q f.front f.back (subst (IsRootLevel at root) (ap chain is_top ∙ f.is) tree.root_level) (fit_clear (bound_aim s) (context_after at first_context f.front) f.passes)

    upper_run : IsRunOf at (suc level) first_context (w.left ++ q ∷ w.right) None
    upper_run = rw (w.upper_is) at (tree.runs (suc level) tall)

    distinct : AreDistinct (w.left ++ q ∷ w.right)
    distinct = rw (w.upper_is) at (tree.distinct (suc level) tall)

    not_new : (k c : ℕ) → k ≤ top → IsIn c (chain k) → c ≢ sibling
    not_new k c in_top i same =
        let m = on_chain_of at used root top chain tree k c in_top i in
        m.alive (rw same (free.not_in_use (rw (← same) m.inside)))

    right_in : (c : ℕ) → (at q).right ≡ Some c → IsIn c (chain (suc level))
    right_in c same =
        let here = run_back at (suc level) first_context w.left (q ∷ w.right) None upper_run in
        subst (IsIn c) (sym w.upper_is) (in_append_right c w.left (q ∷ w.right) (inr (first_in c w.right (sym here.0.right_is ∙ same))))

    q_level : (at q).level ≡ suc level
    q_level = (member at (suc level) first_context (w.left ++ q ∷ w.right) None q upper_run (in_append_right q w.left (q ∷ w.right) (inl refl))).0

    alike : (c : ℕ) → c ≢ q → c ≢ sibling → IsPassedAlike (at c) (at' c)
    alike c not_q not_new = elim (cases_eq c p) [
      | inl is_p ↦ rw is_p (rw h.cleared_is (record { state = refl; high = refl; split = inl refl }))
      | inr not_p ↦ elim (link_cases (at q).right c) [
        | inl is_right ↦ rw (h.neighbour_is c is_right) (record { state = refl; high = refl; split = inr refl })
        | inr not_right ↦ alike_from (at c) (at' c) (h.others c not_p not_q not_new not_right)
      ]
    ]

    stay : (start : ℕ) → least ≤ start → DeletedStay at at' number number' start
    stay start is c kept =
        let not_p : c ≢ p = λ same. clash w.p_alive (subst (λ (d : ℕ). (at d).state ≡ Deleted) same kept.gone) in
        let not_q : c ≢ q = λ same. clash w.q_alive (subst (λ (d : ℕ). (at d).state ≡ Deleted) same kept.gone) in
        let not_new : c ≢ sibling = λ same. late (reusable (subst (λ (d : ℕ). (at d).state ≡ Deleted) same kept.gone)) (subst (λ (d : ℕ). start < number d) same kept.late) in
        let not_right : (at q).right ≢ Some c = λ same. (on_chain_of at used root top chain tree (suc level) c tall (right_in c same)).alive kept.gone in
        (h.others c not_p not_q not_new not_right, counts c not_p not_q not_new not_right)
      where
        late : {n : ℕ} → n ≤ least → start < n → ⊥
        late p q = omega arith

    kept : (start : ℕ) → least ≤ start → (k : ℕ) → k ≤ top → (k ≡ suc level) ⊎ (k ≢ suc level)
        → KeepsPlaces at at' number number' (chain k) (put_chain chain (suc level) (w.left ++ q ∷ sibling ∷ w.right) k) start
    kept start is k in_top (inr other) = rw (put_chain_other chain (suc level) (w.left ++ q ∷ sibling ∷ w.right) k other)
        (places_alike at at' number number' (chain k) start
        (λ c i. alike c (λ same. other (sym (on_chain_of at used root top chain tree k c in_top i).level_is ∙ subst (λ (d : ℕ). (at d).level ≡ suc level) (sym same) q_level)) (not_new k c in_top i))
        (stay start is))
    kept start is k in_top (inl z) = rw z (rw (put_chain_same chain (suc level) (w.left ++ q ∷ sibling ∷ w.right))
        (subst (λ (xs : List ℕ). KeepsPlaces at at' number number' xs (w.left ++ q ∷ sibling ∷ w.right) start) (sym w.upper_is)
        (places_spliced at at' number number' w.left q sibling w.right start
        (λ c i. alike c (λ same. apart_sides w.left (q ∷ w.right) c q distinct i (inl refl) same)
        (not_new (suc level) c tall (subst (IsIn c) (sym w.upper_is) (in_append_left c w.left (q ∷ w.right) i))))
        (record { alive = w.q_alive; new_alive = rw h.halves.right_is refl; high = rw h.halves.right_is refl; split = rw h.halves.right_is refl })
        (λ c i. alike c (λ same. not_in_apart q c w.right (apart_back w.left (q ∷ w.right) distinct).0 i (sym same))
        (not_new (suc level) c tall (subst (IsIn c) (sym w.upper_is) (in_append_right c w.left (q ∷ w.right) (inr i)))))
        (stay start is))))

root_in : (at : ℕ → Node) (root : ℕ) (xs : List ℕ) → IsRootLevel at root xs → IsIn root xs
root_in at root [] r = absurd r
root_in at root (b ∷ []) r = inl (sym r)
root_in at root (b ∷ c ∷ []) r = inl (sym (r.0))
root_in at root (b ∷ c ∷ d ∷ ds) r = absurd r

pub root_split_keeps : RootSplitKeeps
root_split_keeps at at' number number' used p top fresh chain least tree h free reusable meta counts = record {
  chain' = put_chain chain (suc top) (fresh ∷ []);
  tree = root_split_tree at at' used p top fresh chain h tree free;
  places = λ start is k in_top. rw (put_chain_other chain (suc top) (fresh ∷ []) k (omega arith))
      (places_alike at at' number number' (chain k) start (λ c i. let m = on_chain_of at used p top chain tree k c in_top i in alike c m.above (not_new k c in_top i)) (stay start is));
  order = λ k in_top. rw (put_chain_other chain (suc top) (fresh ∷ []) k (omega arith)) (order_same (chain k));
}
  where
    not_new : (k c : ℕ) → k ≤ top → IsIn c (chain k) → c ≢ fresh
    not_new k c in_top i same =
        let m = on_chain_of at used p top chain tree k c in_top i in
        m.alive (rw same (free.not_in_use (rw (← same) m.inside)))

    alike : (c : ℕ) → 0 < c → c ≢ fresh → IsPassedAlike (at c) (at' c)
    alike c above not_new = elim (cases_eq c p) [
      | inl is_p ↦ rw is_p (rw h.cleared_is (record { state = refl; high = refl; split = inl refl }))
      | inr not_p ↦ alike_from (at c) (at' c) (h.others c above not_p not_new)
    ]

    stay : (start : ℕ) → least ≤ start → DeletedStay at at' number number' start
    stay start is c kept =
        let above : 0 < c = positive c (λ same. meta (subst (λ (d : ℕ). (at d).state ≡ Deleted) same kept.gone)) in
        let not_p : c ≢ p = λ same.
        (on_chain_of at used p top chain tree top p (omega arith) (root_in at p (chain top) tree.root_level)).alive (subst (λ (d : ℕ). (at d).state ≡ Deleted) same kept.gone) in
        let not_new : c ≢ fresh = λ same. late (reusable (subst (λ (d : ℕ). (at d).state ≡ Deleted) same kept.gone)) (subst (λ (d : ℕ). start < number d) same kept.late) in
        (h.others c above not_p not_new, counts c above not_p not_new)
      where
        late : {n : ℕ} → n ≤ least → start < n → ⊥
        late p q = omega arith

        positive : (c : ℕ) → c ≢ 0 → 0 < c
        positive c n = omega arith
