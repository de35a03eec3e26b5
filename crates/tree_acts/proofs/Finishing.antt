-- A split is finished: in a parent with room, in one that is split itself, and by a new root.
use Rattle.std.proofs.Common.{◌≡◌, ◌≢◌, ◌↔◌, ℕ, suc, ◌<◌, ◌≤◌, max, inl, Bool, true, List, [], ◌∷◌, ◌++◌, length, slice_get, slice_index, Option, Some, refl, sym, ap, subst, ◌∙◌, arith}
use Rattle.tree_shape.proofs.Places.{cover_at}
use Rattle.tree_acts.proofs.Imports.{Bound, Entry, entries_of, IsPage, IsOfKind, IsMeta, IsLeafIn, Items, Meta, Entries, Downlinks, Page, PageState, Live, HalfDead, Deleted, State, after_act}
use Rattle.tree_acts.proofs.Imports.{with_pages, IsApartFrom, stored_page, Node, node_of, node_from, nodes_of, links_of, IsHeld, IsIn, IsTreeOf, first_context, IsFree, IsFinish, IsParentSplit}
use Rattle.tree_acts.proofs.Imports.{IsRootSplit, with_links, cleared, new_root, IsTreeAgain, IsReusable, bound_aim, is_fit, IsFitOn, finish_holds, parent_split_holds, root_split_holds, false≢true}
use Rattle.tree_acts.proofs.Imports.{finish_keeps, parent_split_keeps, root_split_keeps, in_append_right, only_the_root_is_clear, IsTree, HasTree, HasCover, IsIncompleteSplit, IsClear, slice_get_within}
use Rattle.tree_acts.proofs.Imports.{SplitIsFinished, ParentIsSplit, RootIsSplit, TreeLasts, ContentsStay, FinishLasts, ParentSplitLasts, RootSplitLasts}
use Rattle.tree_acts.proofs.Overlays.{pages_length, pages_other, pages_first, pages_second, pages_third, counts_other, node_there, node_same}
use Rattle.tree_acts.proofs.Gone.{NoneIsDeleted, in_use_append, live_in_use}
use Rattle.tree_acts.proofs.Mending.{mended_apart, mended_first, mended_used, mended_in_use, last_there, apart_last, used_last}
use Rattle.tree_acts.proofs.Words.{cover_in, contents_same}
use Rattle.tree_acts.proofs.Lasting.{lasts, fresh_free, fresh_reusable, meta_lives, StandsOnChain, stands, right_on_chain, right_in_use, on_level, MetaIs}
use Rattle.tree_acts.proofs.UniqueActs.{finish_unique, parent_split_unique, root_split_unique}

-- a page with an incomplete split is live, by the format
incomplete_lives : (page : Page) → IsPage page → page.split ≡ true → page.state ≡ Live
incomplete_lives page admitted incomplete = by page.items refl admitted.kind
  where
    leaf : (es : List Entry) (st : PageState) → page.state ≡ st → IsLeafIn st page es → page.state ≡ Live
    leaf es Live is h = is
    leaf es HalfDead is h = absurd (false≢true (sym h.split ∙ incomplete))
    leaf es Deleted is h = absurd (false≢true (sym h.split ∙ incomplete))

    by : (items : Items) → page.items ≡ items → IsOfKind page items → page.state ≡ Live
    by Meta is h = absurd (false≢true (sym h.split ∙ incomplete))
    by (Entries v) is h = leaf v.items page.state refl h.rest
    by (Downlinks v) is h = h.state

-- a page of an upper level has no entries, by the format
upper_empty : (page : Page) (level : ℕ) → IsPage page → page.level ≡ suc level → entries_of page.items ≡ []
upper_empty page level admitted is = by page.items refl admitted.kind
  where
    by : (items : Items) → page.items ≡ items → IsOfKind page items → entries_of page.items ≡ []
    by Meta same h = ap entries_of same
    by (Downlinks v) same h = ap entries_of same
    by (Entries v) same h = absurd (let z : page.level ≡ 0 = h.level in omega arith)

pub covered : (st : State) (tree : IsTree st.pages) (level : ℕ) (aim : Bound → Bool) (block : ℕ) → HasCover st level aim block
    → (level ≤ tree.meta.level) × IsIn block (tree.chain level) × ((nodes_of st.pages block).state ≡ Live)
covered st tree level aim block h =
    let c = cover_in st tree level aim block h in
    let w = cover_at (nodes_of st.pages) first_context (tree.chain level) aim block c.covers in
    (c.in_tree, subst (IsIn block) (sym w.is) (in_append_right block w.front (block ∷ w.back) (inl refl)), w.alive)

-- page p, whose split is to be finished, as it stands
module _ (st : State) (start level : ℕ) (s : Bound) (p : Page) (new : ℕ) (has : HasTree st) (u : IsIncompleteSplit st start level s p new) where
  pub p_here : nodes_of st.pages p.block ≡ node_of p
  p_here = node_there st.pages p.block p u.found

  pub p_lives : (nodes_of st.pages p.block).state ≡ Live
  p_lives = ap (λ (n : Node). n.state) p_here ∙ incomplete_lives p (stored_page st.format p.block st.pages p has.stored u.found).storable.admitted u.incomplete

  -- ... and when its split is finished
  pub p_stays : (after : Page) → IsClear p after → after.state ≢ Deleted
  p_stays after clear = live_in_use after.state (ap (λ (a : Page). a.state) clear.only ∙ sym (ap (λ (n : Node). n.state) p_here) ∙ p_lives)

  pub p_on : StandsOnChain st has.tree level (is_fit (bound_aim s) true) p.block
  p_on = stands st has.tree start level (bound_aim s) true p.block u.place p_lives

module _ (st : State) (start level : ℕ) (s : Bound) (p q p_after q_after : Page) (new : ℕ) (has : HasTree st) (h : SplitIsFinished st start level s p q p_after q_after new) where
  pub finish_p : StandsOnChain st has.tree level (is_fit (bound_aim s) true) p.block
  finish_p = p_on st start level s p new has h.unfinished

  pub finish_q : (suc level ≤ has.tree.meta.level) × IsIn q.block (has.tree.chain (suc level)) × ((nodes_of st.pages q.block).state ≡ Live)
  finish_q = covered st has.tree (suc level) (bound_aim s) q.block h.covers

  q_here : nodes_of st.pages q.block ≡ node_of q
  q_here = node_there st.pages q.block q h.found

  finish_apart : (c : ℕ) → c ≢ p.block → c ≢ q.block → IsApartFrom c (q_after ∷ p_after ∷ [])
  finish_apart c not_p not_q = ((λ same. not_q (sym same ∙ h.block_is)), ((λ same. not_p (sym same ∙ h.clear.block_is)), tt))

  q_level : (nodes_of st.pages q.block).level ≡ suc level
  q_level = (on_level st has.tree (suc level) q.block finish_q.0 finish_q.1)

  pub finish_edit : IsFinish (nodes_of st.pages) (nodes_of (with_pages st.pages (q_after ∷ p_after ∷ []))) p.block q.block
  finish_edit = record {
    incomplete = ap (λ (n : Node). n.split) (p_here st start level s p new has h.unfinished) ∙ h.unfinished.incomplete;
    separator = s;
    high_is = ap (λ (n : Node). n.high) (p_here st start level s p new has h.unfinished) ∙ h.unfinished.high_is;
    new = new;
    right_is = ap (λ (n : Node). n.right) (p_here st start level s p new has h.unfinished) ∙ h.unfinished.right_is;
    parent_level = q_level ∙ ap suc (sym finish_p.level_is);
    added = links_of q_after.items;
    put = rw q_here h.added;
    parent_is = subst (λ (b : ℕ). nodes_of (with_pages st.pages (q_after ∷ p_after ∷ [])) b ≡ node_of q_after) h.block_is
        (node_there (with_pages st.pages (q_after ∷ p_after ∷ [])) q_after.block q_after (pages_first st.format (length st.pages) st.pages q_after (p_after ∷ []) h.may (omega arith)))
        ∙ h.after_is ∙ ap (λ (n : Node). with_links n (links_of q_after.items)) (sym q_here);
    cleared_is = subst (λ (b : ℕ). nodes_of (with_pages st.pages (q_after ∷ p_after ∷ [])) b ≡ node_of p_after) h.clear.block_is
        (node_there (with_pages st.pages (q_after ∷ p_after ∷ [])) p_after.block p_after (pages_second st.format (length st.pages) st.pages q_after p_after [] h.may (omega arith)))
        ∙ h.clear.after_is ∙ ap (λ (n : Node). cleared n) (sym (p_here st start level s p new has h.unfinished));
    others = λ c not_p not_q. node_same st.pages (with_pages st.pages (q_after ∷ p_after ∷ [])) c
        (pages_other st.format (length st.pages) st.pages (q_after ∷ p_after ∷ []) c h.may (omega arith) (finish_apart c not_p not_q));
  }

  pub finish_used : length (with_pages st.pages (q_after ∷ p_after ∷ [])) ≡ length st.pages
  finish_used = pages_length st.format (length st.pages) st.pages (q_after ∷ p_after ∷ []) h.may (omega arith)
      ∙ (let a = slice_get_within st.pages q.block q h.found in let b = finish_p.inside in let c = h.block_is in let d = h.clear.block_is in omega arith)

  finish_in_use : NoneIsDeleted (q_after ∷ p_after ∷ [])
  finish_in_use = (
    live_in_use q_after.state (ap (λ (n : Node). n.state) h.after_is ∙ ap (λ (n : Node). n.state) (sym q_here) ∙ finish_q.2),
    (p_stays st start level s p new has h.unfinished p_after h.clear, tt),
  )

  finish_meta : MetaIs (with_pages st.pages (q_after ∷ p_after ∷ [])) has.tree.root has.tree.meta.level
  finish_meta = record {
    meta = has.tree.meta;
    at = pages_other st.format (length st.pages) st.pages (q_after ∷ p_after ∷ []) 0 h.may (omega arith)
        (finish_apart 0 (λ same. (let a = finish_p.above in omega arith)) (λ same. (let a = (has.tree.is.in_use (suc level) q.block finish_q.0 finish_q.1).0 in omega arith)))
        ∙ has.tree.meta_at;
    names = has.tree.names_root;
    level_is = refl;
  }

  finish_goes : (least : ℕ)
      → IsTreeAgain (nodes_of st.pages) (nodes_of (with_pages st.pages (q_after ∷ p_after ∷ []))) (slice_index st.counted) (slice_index (after_act (q_after ∷ p_after ∷ []) st).counted)
      (length (with_pages st.pages (q_after ∷ p_after ∷ []))) has.tree.root has.tree.meta.level has.tree.meta.level has.tree.chain least
  unfolding finish_edit
  finish_goes least = rw finish_used (finish_keeps (nodes_of st.pages) (nodes_of (with_pages st.pages (q_after ∷ p_after ∷ []))) (slice_index st.counted)
      (slice_index (after_act (q_after ∷ p_after ∷ []) st).counted) (length st.pages) has.tree.root has.tree.meta.level has.tree.chain least level p.block q.block s has.tree.is finish_q.0
      finish_edit refl finish_p.fits finish_q.1
      (λ c not_p not_q. counts_other st.format (length st.pages) st.counted st.pages (q_after ∷ p_after ∷ []) c has.counted h.may (omega arith) (finish_apart c not_p not_q)))

  pub finishing : TreeLasts st (after_act (q_after ∷ p_after ∷ []) st) × ContentsStay st (after_act (q_after ∷ p_after ∷ []) st)
  finishing = (
    lasts st (q_after ∷ p_after ∷ []) has h.may (finish_unique st start level s p q p_after q_after new has h) finish_in_use (λ n. Unit {0}) 0 tt
        (λ n is. tt) has.tree.root has.tree.meta.level (omega arith) finish_meta (λ least ok. finish_goes least),
    λ x. contents_same st.pages (with_pages st.pages (q_after ∷ p_after ∷ [])) x
        (subst (λ (n : ℕ). IsHeld (nodes_of (with_pages st.pages (q_after ∷ p_after ∷ []))) n x ↔ IsHeld (nodes_of st.pages) (length st.pages) x) (sym finish_used)
        (finish_holds (nodes_of st.pages) (nodes_of (with_pages st.pages (q_after ∷ p_after ∷ []))) (length st.pages) p.block q.block finish_edit x)),
  )

pub finish_lasts : FinishLasts
finish_lasts st start level s p q p_after q_after new has h = finishing st start level s p q p_after q_after new has h

module _ (st : State) (start level : ℕ) (s : Bound) (p q p_after left right : Page) (mended : List Page) (new : ℕ) (has : HasTree st)
    (h : ParentIsSplit st start level s p q p_after left right mended new) where
  pub parent_p : StandsOnChain st has.tree level (is_fit (bound_aim s) true) p.block
  parent_p = p_on st start level s p new has h.unfinished

  parent_here : nodes_of st.pages q.block ≡ node_of q
  parent_here = node_there st.pages q.block q h.found

  pub parent_q : StandsOnChain st has.tree (suc level) (is_fit (bound_aim s) true) q.block
  parent_q = stands st has.tree start (suc level) (bound_aim s) true q.block h.place (ap (λ (n : Node). n.state) parent_here ∙ h.alive)

  parent_apart : (c : ℕ) → c ≢ p.block → c ≢ q.block → c ≢ right.block → (nodes_of st.pages q.block).right ≢ Some c → IsApartFrom c (left ∷ right ∷ mended ++ p_after ∷ [])
  parent_apart c not_p not_q not_new not_right = (
    (λ same. not_q (sym same ∙ h.left_block)),
    (
      (λ same. not_new (sym same)),
      apart_last c mended p_after
          (mended_apart st right.block q.right mended c h.mends (λ same. not_right (ap (λ (n : Node). n.right) parent_here ∙ same))) (λ same. not_p (sym same ∙ h.clear.block_is)),
    ),
  )

  parent_left : nodes_of (with_pages st.pages (left ∷ right ∷ mended ++ p_after ∷ [])) q.block ≡ node_of left
  parent_left = subst (λ (b : ℕ). nodes_of (with_pages st.pages (left ∷ right ∷ mended ++ p_after ∷ [])) b ≡ node_of left) h.left_block
      (node_there (with_pages st.pages (left ∷ right ∷ mended ++ p_after ∷ [])) left.block left
      (pages_first st.format (length st.pages) st.pages left (right ∷ mended ++ p_after ∷ []) h.may (omega arith)))

  parent_right : nodes_of (with_pages st.pages (left ∷ right ∷ mended ++ p_after ∷ [])) right.block ≡ node_of right
  parent_right = node_there (with_pages st.pages (left ∷ right ∷ mended ++ p_after ∷ [])) right.block right
      (pages_second st.format (length st.pages) st.pages left right (mended ++ p_after ∷ []) h.may (omega arith))

  pub parent_edit : IsParentSplit (nodes_of st.pages) (nodes_of (with_pages st.pages (left ∷ right ∷ mended ++ p_after ∷ []))) p.block q.block right.block
  parent_edit = record {
    incomplete = ap (λ (n : Node). n.split) (p_here st start level s p new has h.unfinished) ∙ h.unfinished.incomplete;
    separator = s;
    high_is = ap (λ (n : Node). n.high) (p_here st start level s p new has h.unfinished) ∙ h.unfinished.high_is;
    new = new;
    right_is = ap (λ (n : Node). n.right) (p_here st start level s p new has h.unfinished) ∙ h.unfinished.right_is;
    parent_level = parent_q.level_is ∙ ap suc (sym parent_p.level_is);
    whole = ap (λ (n : Node). n.split) parent_here ∙ h.whole;
    added = h.links;
    put = rw parent_here h.added;
    halves = rw (parent_here, parent_left, parent_right) h.halves;
    neighbour_is = λ r is. mended_first st right.block q.right left right p_after mended h.mends h.may r (sym (ap (λ (n : Node). n.right) parent_here) ∙ is);
    cleared_is = subst (λ (b : ℕ). nodes_of (with_pages st.pages (left ∷ right ∷ mended ++ p_after ∷ [])) b ≡ node_of p_after) h.clear.block_is
        (node_there (with_pages st.pages (left ∷ right ∷ mended ++ p_after ∷ [])) p_after.block p_after (last_there st right.block q.right left right p_after mended h.mends h.may))
        ∙ h.clear.after_is ∙ ap (λ (n : Node). cleared n) (sym (p_here st start level s p new has h.unfinished));
    others = λ c not_p not_q not_new not_right. node_same st.pages (with_pages st.pages (left ∷ right ∷ mended ++ p_after ∷ [])) c
        (pages_other st.format (length st.pages) st.pages (left ∷ right ∷ mended ++ p_after ∷ []) c h.may (omega arith) (parent_apart c not_p not_q not_new not_right));
  }

  pub parent_used : length (with_pages st.pages (left ∷ right ∷ mended ++ p_after ∷ [])) ≡ max (length st.pages) (suc right.block)
  parent_used =
      pages_length st.format (length st.pages) st.pages (left ∷ right ∷ mended ++ p_after ∷ []) h.may (omega arith)
      ∙ used_last (max (max (length st.pages) (suc left.block)) (suc right.block)) mended p_after
      ∙ ap (λ (n : ℕ). max n (suc p_after.block)) (mended_used st right.block q.right mended h.mends (max (max (length st.pages) (suc left.block)) (suc right.block)) (omega arith))
      ∙ (let lt = slice_get_within st.pages q.block q h.found in let b = h.left_block in let c = parent_p.inside in let d = h.clear.block_is in omega arith)

  pub parent_free : IsFree (nodes_of st.pages) (length st.pages) right.block
  parent_free = fresh_free st right.block has h.fresh

  parent_meta : MetaIs (with_pages st.pages (left ∷ right ∷ mended ++ p_after ∷ [])) has.tree.root has.tree.meta.level
  parent_meta = record {
    meta = has.tree.meta;
    at = pages_other st.format (length st.pages) st.pages (left ∷ right ∷ mended ++ p_after ∷ []) 0 h.may (omega arith)
        (parent_apart 0 (λ same. (let a = parent_p.above in omega arith)) (λ same. (let a = parent_q.above in omega arith)) (λ same. (let a = parent_free.past_meta in omega arith)) no_right_meta)
        ∙ has.tree.meta_at;
    names = has.tree.names_root;
    level_is = refl;
  }
    where
      no_right_meta : (nodes_of st.pages q.block).right ≢ Some 0
      no_right_meta same =
          let r = right_on_chain st has.tree (suc level) q.block 0 parent_q.in_tree parent_q.on_chain same in
          (let a = (has.tree.is.in_use (suc level) 0 parent_q.in_tree r).0 in omega arith)

  parent_in_use : NoneIsDeleted (left ∷ right ∷ mended ++ p_after ∷ [])
  parent_in_use = (
    live_in_use left.state (ap (λ (n : Node). n.state) h.halves.left_is),
    (
      live_in_use right.state (ap (λ (n : Node). n.state) h.halves.right_is),
      in_use_append mended (p_after ∷ [])
          (mended_in_use st right.block q.right mended h.mends
          (λ r is. right_in_use st has.tree (suc level) q.block r parent_q.in_tree parent_q.on_chain (ap (λ (n : Node). n.right) parent_here ∙ is)))
          (p_stays st start level s p new has h.unfinished p_after h.clear, tt),
    ),
  )

  parent_goes : (least : ℕ) → IsReusable (nodes_of st.pages) (slice_index st.counted) least right.block
      → IsTreeAgain (nodes_of st.pages) (nodes_of (with_pages st.pages (left ∷ right ∷ mended ++ p_after ∷ []))) (slice_index st.counted)
      (slice_index (after_act (left ∷ right ∷ mended ++ p_after ∷ []) st).counted)
      (length (with_pages st.pages (left ∷ right ∷ mended ++ p_after ∷ []))) has.tree.root has.tree.meta.level has.tree.meta.level has.tree.chain least
  unfolding parent_edit
  parent_goes least reusable = rw parent_used (parent_split_keeps (nodes_of st.pages) (nodes_of (with_pages st.pages (left ∷ right ∷ mended ++ p_after ∷ []))) (slice_index st.counted)
      (slice_index (after_act (left ∷ right ∷ mended ++ p_after ∷ []) st).counted) (length st.pages) has.tree.root has.tree.meta.level has.tree.chain
      least level p.block q.block right.block s has.tree.is
      parent_q.in_tree parent_edit refl parent_free reusable parent_p.fits parent_q.fits
      (λ c not_p not_q not_new not_right. counts_other st.format (length st.pages) st.counted st.pages (left ∷ right ∷ mended ++ p_after ∷ []) c has.counted h.may (omega arith)
      (parent_apart c not_p not_q not_new not_right)))

  pub parent_splitting : TreeLasts st (after_act (left ∷ right ∷ mended ++ p_after ∷ []) st) × ContentsStay st (after_act (left ∷ right ∷ mended ++ p_after ∷ []) st)
  parent_splitting = (
    lasts st (left ∷ right ∷ mended ++ p_after ∷ []) has h.may (parent_split_unique st start level s p q p_after left right mended new has h)
        parent_in_use (λ n. IsReusable (nodes_of st.pages) (slice_index st.counted) n right.block) (slice_index st.counted right.block) (λ gone. omega arith)
        (λ n is. fresh_reusable st right.block n h.fresh is) has.tree.root has.tree.meta.level (omega arith) parent_meta parent_goes,
    λ x. contents_same st.pages (with_pages st.pages (left ∷ right ∷ mended ++ p_after ∷ [])) x
        (subst (λ (n : ℕ). IsHeld (nodes_of (with_pages st.pages (left ∷ right ∷ mended ++ p_after ∷ []))) n x ↔ IsHeld (nodes_of st.pages) (length st.pages) x) (sym parent_used)
        (parent_split_holds (nodes_of st.pages) (nodes_of (with_pages st.pages (left ∷ right ∷ mended ++ p_after ∷ []))) (length st.pages) p.block q.block right.block parent_edit parent_free
        (ap (λ (n : Node). n.state) parent_here ∙ h.alive)
        (ap (λ (n : Node). n.entries) parent_here
        ∙ upper_empty q level (stored_page st.format q.block st.pages q has.stored h.found).storable.admitted (sym (ap (λ (n : Node). n.level) parent_here) ∙ parent_q.level_is)) x)),
  )

pub parent_split_lasts : ParentSplitLasts
parent_split_lasts st start level s p q p_after left right mended new has h = parent_splitting st start level s p q p_after left right mended new has h

module _ (st : State) (start : ℕ) (s : Bound) (meta meta_after p p_after root : Page) (new : ℕ) (has : HasTree st) (h : RootIsSplit st start s meta meta_after p p_after root new) where
  meta_same : meta ≡ has.tree.meta
  meta_same = (let k : Some meta ≡ Some has.tree.meta = sym h.meta_found ∙ has.tree.meta_at in cc)

  pub top_is : meta.level ≡ has.tree.meta.level
  top_is = ap (λ (x : Page). x.level) meta_same

  pub root_p : StandsOnChain st has.tree meta.level (is_fit (bound_aim s) true) p.block
  root_p = p_on st start meta.level s p new has h.unfinished

  p_is_root : p.block ≡ has.tree.root
  p_is_root = only_the_root_is_clear (nodes_of st.pages) (length st.pages) has.tree.root has.tree.meta.level has.tree.chain (bound_aim s) p.block has.tree.is
      (subst (λ (k : ℕ). IsFitOn (nodes_of st.pages) first_context (has.tree.chain k) (is_fit (bound_aim s) true) p.block) top_is root_p.fits)

  pub root_free : IsFree (nodes_of st.pages) (length st.pages) root.block
  root_free = fresh_free st root.block has h.fresh

  root_apart : (c : ℕ) → 0 < c → c ≢ p.block → c ≢ root.block → IsApartFrom c (root ∷ meta_after ∷ p_after ∷ [])
  root_apart c above not_p not_new = (
    (λ same. not_new (sym same)),
    ((λ same. (let z : meta_after.block ≡ 0 = h.meta_block in omega arith)), ((λ same. not_p (sym same ∙ h.clear.block_is)), tt)),
  )

  pub root_edit : IsRootSplit (nodes_of st.pages) (nodes_of (with_pages st.pages (root ∷ meta_after ∷ p_after ∷ []))) p.block has.tree.meta.level root.block
  root_edit = record {
    incomplete = ap (λ (n : Node). n.split) (p_here st start meta.level s p new has h.unfinished) ∙ h.unfinished.incomplete;
    separator = s;
    high_is = ap (λ (n : Node). n.high) (p_here st start meta.level s p new has h.unfinished) ∙ h.unfinished.high_is;
    new = new;
    right_is = ap (λ (n : Node). n.right) (p_here st start meta.level s p new has h.unfinished) ∙ h.unfinished.right_is;
    root_is = node_there (with_pages st.pages (root ∷ meta_after ∷ p_after ∷ [])) root.block root
        (pages_first st.format (length st.pages) st.pages root (meta_after ∷ p_after ∷ []) h.may (omega arith))
        ∙ subst (λ (k : ℕ). node_of root ≡ new_root (suc k) p.block s new) top_is h.root_is;
    cleared_is = subst (λ (b : ℕ). nodes_of (with_pages st.pages (root ∷ meta_after ∷ p_after ∷ [])) b ≡ node_of p_after) h.clear.block_is
        (node_there (with_pages st.pages (root ∷ meta_after ∷ p_after ∷ [])) p_after.block p_after (pages_third st.format (length st.pages) st.pages root meta_after p_after [] h.may (omega arith)))
        ∙ h.clear.after_is ∙ ap (λ (n : Node). cleared n) (sym (p_here st start meta.level s p new has h.unfinished));
    others = λ c above not_p not_new. node_same st.pages (with_pages st.pages (root ∷ meta_after ∷ p_after ∷ [])) c
        (pages_other st.format (length st.pages) st.pages (root ∷ meta_after ∷ p_after ∷ []) c h.may (omega arith) (root_apart c above not_p not_new));
  }

  pub meta_there : slice_get (with_pages st.pages (root ∷ meta_after ∷ p_after ∷ [])) 0 ≡ Some meta_after
  meta_there = subst (λ (b : ℕ). slice_get (with_pages st.pages (root ∷ meta_after ∷ p_after ∷ [])) b ≡ Some meta_after) h.meta_block
      (pages_second st.format (length st.pages) st.pages root meta_after (p_after ∷ []) h.may (omega arith))

  pub root_used : length (with_pages st.pages (root ∷ meta_after ∷ p_after ∷ [])) ≡ max (length st.pages) (suc root.block)
  root_used =
      pages_length st.format (length st.pages) st.pages (root ∷ meta_after ∷ p_after ∷ []) h.may (omega arith)
      ∙ (let a = root_p.inside in let b = h.meta_block in let d = h.clear.block_is in omega arith)

  root_meta : MetaIs (with_pages st.pages (root ∷ meta_after ∷ p_after ∷ [])) root.block (suc has.tree.meta.level)
  root_meta = record {
    meta = meta_after;
    at = meta_there;
    names = record { kind = h.meta_is.kind; root_is = h.meta_is.root_is; level_is = refl };
    level_is = h.meta_is.level_is ∙ ap suc top_is;
  }

  clash : Live ≡ Deleted → ⊥
  clash e = cc

  root_in_use : NoneIsDeleted (root ∷ meta_after ∷ p_after ∷ [])
  root_in_use = (
    live_in_use root.state (ap (λ (n : Node). n.state) h.root_is),
    (
      live_in_use meta_after.state (let kind : IsMeta meta_after = subst (IsOfKind meta_after) h.meta_is.kind h.may.3.0.storable.admitted.kind in kind.state),
      (p_stays st start meta.level s p new has h.unfinished p_after h.clear, tt),
    ),
  )

  root_goes : (least : ℕ) → IsReusable (nodes_of st.pages) (slice_index st.counted) least root.block
      → IsTreeAgain (nodes_of st.pages) (nodes_of (with_pages st.pages (root ∷ meta_after ∷ p_after ∷ []))) (slice_index st.counted)
      (slice_index (after_act (root ∷ meta_after ∷ p_after ∷ []) st).counted)
      (length (with_pages st.pages (root ∷ meta_after ∷ p_after ∷ []))) root.block has.tree.meta.level (suc has.tree.meta.level) has.tree.chain least
  root_goes least reusable = rw root_used (root_split_keeps (nodes_of st.pages) (nodes_of (with_pages st.pages (root ∷ meta_after ∷ p_after ∷ []))) (slice_index st.counted)
      (slice_index (after_act (root ∷ meta_after ∷ p_after ∷ []) st).counted) (length st.pages) p.block has.tree.meta.level root.block has.tree.chain least
      (subst (λ (r : ℕ). IsTreeOf (nodes_of st.pages) (length st.pages) r has.tree.meta.level has.tree.chain) (sym p_is_root) has.tree.is)
      root_edit root_free reusable (λ gone. clash (sym (meta_lives st has) ∙ ap (λ (o : Option Page). (node_from o).state) (sym has.tree.meta_at) ∙ gone))
      (λ c above not_p not_new. counts_other st.format (length st.pages) st.counted st.pages (root ∷ meta_after ∷ p_after ∷ []) c has.counted h.may (omega arith) (root_apart c above not_p not_new)))

  pub root_splitting : TreeLasts st (after_act (root ∷ meta_after ∷ p_after ∷ []) st) × ContentsStay st (after_act (root ∷ meta_after ∷ p_after ∷ []) st)
  root_splitting = (
    lasts st (root ∷ meta_after ∷ p_after ∷ []) has h.may (root_split_unique st start s meta meta_after p p_after root new has h) root_in_use
        (λ n. IsReusable (nodes_of st.pages) (slice_index st.counted) n root.block) (slice_index st.counted root.block) (λ gone. omega arith)
        (λ n is. fresh_reusable st root.block n h.fresh is) root.block (suc has.tree.meta.level) (omega arith) root_meta root_goes,
    λ x. contents_same st.pages (with_pages st.pages (root ∷ meta_after ∷ p_after ∷ [])) x
        (subst (λ (n : ℕ). IsHeld (nodes_of (with_pages st.pages (root ∷ meta_after ∷ p_after ∷ []))) n x ↔ IsHeld (nodes_of st.pages) (length st.pages) x) (sym root_used)
        (root_split_holds (nodes_of st.pages) (nodes_of (with_pages st.pages (root ∷ meta_after ∷ p_after ∷ []))) (length st.pages) p.block has.tree.meta.level root.block root_edit root_free
        (ap (λ (o : Option Page). (node_from o).entries) has.tree.meta_at ∙ ap entries_of has.tree.names_root.kind)
        (ap (λ (o : Option Page). (node_from o).entries) meta_there ∙ ap entries_of h.meta_is.kind) x)),
  )

pub root_split_lasts : RootSplitLasts
root_split_lasts st start s meta meta_after p p_after root new has h = root_splitting st start s meta meta_after p p_after root new has h
