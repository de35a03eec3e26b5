-- A new root: what the act is, and what it leaves.
use Rattle.std.proofs.Common.{◌≡◌, ℕ, suc, ◌<◌, ◌≤◌, Bool, true, false, Some, None, Ok, List, [], ◌∷◌, length, slice_get, refl, sym, ap, subst, ◌∙◌, arith}
use Rattle.split_finish.proofs.Standing.{incomplete_has, incomplete_block, right_block, high_bound, fresh_not_live}
use Rattle.split_finish.proofs.Doing.{clears}
use Rattle.split_finish.proofs.Imports.{is_held_by_another, Exclusive, IsBlock, count_of, Items, Page, Live, IsFresh, State, Backing, after_act, writable, IsMetaOf, IsIncompleteSplit, MayActWith}
use Rattle.split_finish.proofs.Imports.{RootIsSplit, FlagsMove, HasTree, root_split_leaves, root_split_lasts, root_split_flags, root_split_weighs, node_there, IsInOrder, does_finish, slice_get_within}
use Rattle.split_finish.proofs.Imports.{FinishInvariant, IsReadyToGrow, Popped, FinishStepped, AreGrown, IsReadToChange, FinishOp, FinishStep, Node}

module _ (st : State) (op : FinishOp) (honest : Bool) (meta page : Page) (new fresh : ℕ) (pages : List Page) (order : IsInOrder st) (fits : FinishInvariant st op) (sound : honest ≡ true)
    (read_meta : IsReadToChange st honest op.session 0 meta) (read : IsReadToChange st honest op.session op.target.block page) (ready : IsReadyToGrow meta page op op) (right : page.right ≡ Some new)
    (free_block : IsFresh st fresh) (block : IsBlock fresh) (free : is_held_by_another st.table op.session fresh Exclusive ≡ false)
    (few : length st.pages ≤ st.format.pages) (items : 2 ≤ st.format.items) (grown : AreGrown meta page op.target.separator new fresh pages) where
  has : HasTree st
  has = order.tree

  found : slice_get st.pages page.block ≡ Some page
  found = subst (λ (b : ℕ). slice_get st.pages b ≡ Some page) (sym read.stored.block_is) (read.found sound)

  alive : page.state ≡ Live
  alive = (incomplete_has page read.stored.storable.admitted ready.incomplete).1

  apart_page : page.block ≡ fresh → ⊥
  apart_page same = fresh_not_live st fresh page.block page has free_block found alive same

  count_same : (limits : ℕ) (a b : Items) → a ≡ b → count_of b ≤ limits → count_of a ≤ limits
  count_same limits a b is h = subst (λ (i : Items). count_of i ≤ limits) (sym is) h

  pub may_grow : MayActWith st (grown.root ∷ grown.meta_after ∷ grown.page_after ∷ [])
  may_grow =
      let blocked = incomplete_block page read.stored.storable.admitted ready.incomplete in
      let meta_at : grown.meta_after.block ≡ 0 = grown.meta_block ∙ read_meta.stored.block_is in
      let meta_in = slice_get_within st.pages 0 meta (read_meta.found sound) in
      let page_in = slice_get_within st.pages page.block page found in
      let page_at = grown.clear.block_is in
      let root_at = grown.root_block in (
        writable st.format grown.root grown.root_layout
            (grown.root_admitted block blocked (high_bound page op.target.separator read.stored.storable.admitted ready.high_is) (right_block page new read.stored.storable.admitted right))
            (subst (λ (n : ℕ). n ≤ st.format.items) (sym grown.root_items) items),
        (subst (λ (b : ℕ). b ≤ length st.pages) (sym root_at) free_block.within, subst (λ (b : ℕ). b < st.format.pages) (sym root_at) free_block.inside),
        ((λ same. (let above = block.0 in omega arith)), ((λ same. apart_page (sym page_at ∙ same ∙ root_at)), tt)),
        (
          writable st.format grown.meta_after grown.meta_layout
              (grown.meta_admitted read_meta.stored.storable.admitted ready.meta_is block)
              (count_same st.format.items grown.meta_after.items meta.items grown.meta_items read_meta.stored.storable.few),
          (omega arith, omega arith),
          ((λ same. (let above = blocked.0 in omega arith)), tt),
          (
            writable st.format grown.page_after (ap (λ (p : Page). p.layout) grown.clear.only)
                (grown.page_admitted read.stored.storable.admitted)
                (count_same st.format.items grown.page_after.items page.items grown.page_items read.stored.storable.few),
            (omega arith, omega arith),
            tt,
            tt,
          ),
        ),
      )

  unfinished : IsIncompleteSplit st fits.start meta.level op.target.separator page new
  unfinished = record {
    found = found;
    place = rw (ready.root_level_is, read.stored.block_is) fits.newest.place;
    incomplete = ready.incomplete;
    high_is = ready.high_is;
    right_is = right;
  }

  pub root_splits : RootIsSplit st fits.start op.target.separator meta grown.meta_after page grown.page_after grown.root new
  root_splits = record {
    meta_found = read_meta.found sound;
    unfinished = unfinished;
    meta_is = subst (λ (b : ℕ). IsMetaOf grown.meta_after b (suc meta.level)) (sym grown.root_block) (grown.meta_is ready.meta_is);
    meta_block = grown.meta_block ∙ read_meta.stored.block_is;
    root_is = grown.root_is;
    fresh = subst (IsFresh st) (sym grown.root_block) free_block;
    clear = grown.clear;
    may = may_grow;
  }

  pub may_grow_all : MayActWith st pages
  may_grow_all = subst (MayActWith st) (sym grown.pages_are) may_grow

  pub grows : (old_backing new_backing : Backing) (after : FinishOp) (step : FinishStep) → Popped op after step
      → FinishStepped st old_backing (after_act pages st) new_backing op after (Ok step)
  grows old_backing new_backing after step popped =
      subst (λ (ps : List Page). FinishStepped st old_backing (after_act ps st) new_backing op after (Ok step)) (sym grown.pages_are)
      (let changed : List Page = grown.root ∷ grown.meta_after ∷ grown.page_after ∷ [] in
      let lasts = root_split_lasts st fits.start op.target.separator meta grown.meta_after page grown.page_after grown.root new has root_splits in
      let moves = root_split_flags st fits.start op.target.separator meta grown.meta_after page grown.page_after grown.root new has root_splits in
      let less = root_split_weighs st fits.start op.target.separator meta grown.meta_after page grown.page_after grown.root new has root_splits in
      let at_page : page.block ≡ op.target.block = read.stored.block_is in
      clears st (after_act changed st) old_backing new_backing op after step fits
      (does_finish st op.session changed order may_grow lasts.0 lasts.1
      (root_split_leaves st fits.start op.target.separator meta grown.meta_after page grown.page_after grown.root new has root_splits) (record {
        cleared = page.block;
        was = ap (λ (n : Node). n.split) (node_there st.pages page.block page found) ∙ ready.incomplete;
        raised = None;
        higher = tt;
        moves = moves;
        less = less;
      }) (
        subst (λ (b : ℕ). is_held_by_another st.table op.session b Exclusive ≡ false) (sym grown.root_block) free,
        (
          subst (λ (b : ℕ). is_held_by_another st.table op.session b Exclusive ≡ false) (sym (grown.meta_block ∙ read_meta.stored.block_is)) read_meta.free,
          (
            subst (λ (b : ℕ). is_held_by_another st.table op.session b Exclusive ≡ false) (sym (grown.clear.block_is ∙ at_page)) read.free,
            tt,
          ),
        ),
      ))
      refl refl lasts.0 (subst (λ (b : ℕ). FlagsMove None (Some b) st (after_act changed st)) at_page moves) popped)
