-- A half-dead page is unlinked.
use Rattle.std.proofs.Common.{◌≡◌, ◌≢◌, ℕ, ◌<◌, ◌≤◌, inr, Bool, true, false, List, [], ◌∷◌, ◌++◌, length, Option, Some, None, IsSome, IsNone, IfSome, refl, sym, ap, subst, ◌∙◌, arith}
use Rattle.std.specs.Prelude.{◌^◌}
use Rattle.index_model.specs.declared.entry.Entry.{Entry}
use Rattle.latch_table.specs.Holdings.{is_held_by_another}
use Rattle.latch_table.specs.declared.mode.Mode.TheVariants.{Exclusive}
use Rattle.index_model.specs.declared.layout.Layout.TheVariants.{Two}
use Rattle.page_codec.specs.Edits.{renewed}
use Rattle.page_codec.specs.Grammar.{IsBlock, IsPage, IsOfKind, IsLeafIn}
use Rattle.page_codec.proofs.Renewed.{renewed_is_page}
use Rattle.page_codec.specs.declared.page.Items.{Items}
use Rattle.page_codec.specs.declared.page.Items.TheVariants.{Meta, Entries, Downlinks}
use Rattle.page_codec.specs.declared.page.Page.{Page}
use Rattle.page_codec.specs.declared.page.PageState.{PageState}
use Rattle.page_codec.specs.declared.page.PageState.TheVariants.{Live, HalfDead, Deleted}
use Rattle.page_action.specs.States.{State, after_act, with_page, with_pages}
use Rattle.page_action.specs.Stored.{IsWritable, AreActable}
use Rattle.page_action.proofs.Writable.{writable}
use Rattle.tree_shape.specs.Deletion.{as_deleted}
use Rattle.tree_shape.proofs.Deleting.{is_dead}
use Rattle.tree_acts.specs.Deletions.{PageIsUnlinked, IsLinkedTo, leftmost, neighbour, StartsAreBelow}
use Rattle.tree_acts.proofs.Unlinking.{edit as unlink_edit, unlink_lasts, unlink_flags, unlink_deletes, unlink_links}
use Rattle.tree_acts.proofs.Overlays.{page_length}
use Rattle.tree_acts.specs.StepEffects.{IsInOrder}
use Rattle.descent.proofs.Acting.{AreFree, numbers_stay, does_delete}
use Rattle.page_delete.specs.Parts.{IsTakenToChange, IsTakenLeft, IsTakenRight, DeletesOn, SiblingsLink, unlinked}
use Rattle.page_delete.specs.Spares.{goes as goes_edit}
use Rattle.page_delete.proofs.Siblings.{left_apart, right_apart, sides_apart, siblings}

-- pages with other links are pages
mended_right : (page : Page) (r : ℕ) → IsPage page → IsSome page.right → IsBlock r → IsPage (record page { right = Some r })
mended_right page r h right block = record { cycle = h.cycle; deletion = h.deletion; left = h.left; right = block; high = h.high; kind = by page.items h.kind }
  where
    leaf : (es : List Entry) (st : PageState) → IsLeafIn st page es → IsLeafIn st (record page { right = Some r }) es
    leaf es Live k = record { deletion = k.deletion; high = ((λ s. refl), (λ s. k.high.1 right)); split = λ s. refl; entries = k.entries }
    leaf es HalfDead k = record { deletion = k.deletion; high = k.high; right = refl; split = k.split; entries = k.entries }
    leaf es Deleted k = record { left = k.left; right = refl; high = k.high; split = k.split; cycle = k.cycle; entries = k.entries }

    by : (items : Items) → IsOfKind page items → IsOfKind (record page { right = Some r }) items
    by Meta k = record { block = k.block; level = k.level; state = k.state; split = k.split; cycle = k.cycle; deletion = k.deletion; left = k.left; right = refl; high = k.high }
    by (Entries v) k = record { block = k.block; level = k.level; count = k.count; rest = leaf v.items page.state k.rest }
    by (Downlinks v) k = record {
      block = k.block;
      level = k.level;
      state = k.state;
      high = ((λ s. refl), (λ s. k.high.1 right));
      split = λ s. refl;
      cycle = k.cycle;
      deletion = k.deletion;
      count = k.count;
      first = k.first;
      links = k.links;
    }

none_some : {b : ℕ} → (o : Option ℕ) → o ≡ Some b → o ≡ None → ⊥
none_some o a c = cc

-- a page with a left link may have another
mended_left : (page : Page) (l : Option ℕ) (b : ℕ) → IsPage page → page.left ≡ Some b → IfSome l IsBlock → IsPage (record page { left = l })
mended_left page l b h left blocks = record { cycle = h.cycle; deletion = h.deletion; left = blocks; right = h.right; high = h.high; kind = by page.items h.kind }
  where
    leaf : (es : List Entry) (st : PageState) → IsLeafIn st page es → IsLeafIn st (record page { left = l }) es
    leaf es Live k = record { deletion = k.deletion; high = k.high; split = k.split; entries = k.entries }
    leaf es HalfDead k = record { deletion = k.deletion; high = k.high; right = k.right; split = k.split; entries = k.entries }
    leaf es Deleted k = absurd (has_left page.left left k.left)
      where
        has_left : (o : Option ℕ) → o ≡ Some b → IsNone o → ⊥
        has_left None e i = cc
        has_left (Some c) e i = cc

    by : (items : Items) → IsOfKind page items → IsOfKind (record page { left = l }) items
    by Meta k = absurd (has_left page.left left k.left)
      where
        has_left : (o : Option ℕ) → o ≡ Some b → IsNone o → ⊥
        has_left None e i = cc
        has_left (Some c) e i = cc
    by (Entries v) k = record { block = k.block; level = k.level; count = k.count; rest = leaf v.items page.state k.rest }
    by (Downlinks v) k = record {
      block = k.block;
      level = k.level;
      state = k.state;
      high = k.high;
      split = k.split;
      cycle = k.cycle;
      deletion = k.deletion;
      count = k.count;
      first = k.first;
      links = k.links;
    }

deleted_is_page : (page : Page) (number : ℕ) → IsPage page → page.state ≡ HalfDead → number < 2 ^ 64 → IsPage (as_deleted page number)
deleted_is_page page number h dead low =
    let d = is_dead page h dead in
    record {
      cycle = omega arith;
      deletion = low;
      left = tt;
      right = h.right;
      high = tt;
      kind = record {
        block = d.block;
        level = refl;
        count = omega arith;
        rest = record { left = refl; right = d.right; high = refl; split = refl; cycle = refl; entries = refl };
      };
    }

-- the pages of the act
module _ (st : State) (session : ℕ) (page right : Page) (order : IsInOrder st) (taken : IsTakenToChange st true session page.block page)
    (dead : page.state ≡ HalfDead) (right_is : page.right ≡ Some right.block)
    (right_taken : IsTakenRight st true session page right.block right) where
  admitted : IsPage page
  admitted = taken.stored.storable.admitted

  above : 0 < page.block
  above = (is_dead page admitted dead).block.0

  not_gone : page.state ≢ Deleted
  not_gone gone = clash (sym dead ∙ gone)
    where
      clash : HalfDead ≡ Deleted → ⊥
      clash e = cc

  right_apart_here : page.block ≢ right.block
  right_apart_here = right_apart st order.tree page (taken.found refl) not_gone above right.block right_is

  right_page : IsPage (record right { layout = Two; left = page.left })
  right_page = mended_left (renewed right) page.left page.block (renewed_is_page right right_taken.taken.stored.storable.admitted) right_taken.links admitted.left

  module _ (inside : length st.pages ≤ st.format.pages) (number : ℕ) (low : number < 2 ^ 64) where
    gone_writable : IsWritable st.format (as_deleted page number)
    gone_writable = writable st.format (as_deleted page number) refl (deleted_is_page page number admitted dead low) (omega arith)

    two_may : AreActable st.format (length st.pages) (as_deleted page number ∷ record right { layout = Two; left = page.left } ∷ [])
    two_may =
        let u = taken.used in
        let v = right_taken.taken.used in (
          gone_writable,
          (omega arith, omega arith),
          ((λ same. right_apart_here (sym same)), tt),
          (writable st.format (record right { layout = Two; left = page.left }) refl right_page right_taken.taken.stored.storable.few, (omega arith, omega arith), tt, tt),
        )

    pub may_unlink : (left : Option Page) → IsTakenLeft st true session page page.left left → AreActable st.format (length st.pages) (unlinked left page right number)
    may_unlink left taken_left = by page.left refl left taken_left
      where
        by : (link : Option ℕ) → page.left ≡ link → (left : Option Page) → IsTakenLeft st true session page link left → AreActable st.format (length st.pages) (unlinked left page right number)
        by None is None t = two_may
        by None is (Some l) t = absurd t
        by (Some b) is None t = absurd t
        by (Some b) is (Some l) t =
            let u = t.0.used in
            let block_is : l.block ≡ b = t.0.stored.block_is in
            let link : page.left ≡ Some l.block = is ∙ ap Some (sym block_is) in (
              writable st.format (record l { layout = Two; right = Some right.block }) refl
                  (mended_right (renewed l) right.block (renewed_is_page l t.0.stored.storable.admitted)
                  (subst (λ (o : Option ℕ). IsSome o) (sym t.1) refl) (subst (λ (o : Option ℕ). IfSome o IsBlock) right_is admitted.right))
                  t.0.stored.storable.few,
              (omega arith, omega arith),
              (
                (λ same. left_apart st order.tree page (taken.found refl) not_gone above l.block link (sym same)),
                ((λ same. sides_apart st order.tree page (taken.found refl) not_gone above l.block right.block link right_is (sym same)), tt),
              ),
              two_may,
            )

  -- what the act does
  module _ (below : StartsAreBelow st) where
    unlinks : (mended : List Page) → PageIsUnlinked st page right (as_deleted page st.begun) (record right { layout = Two; left = page.left }) mended
        → AreFree st session (mended ++ as_deleted page st.begun ∷ record right { layout = Two; left = page.left } ∷ [])
        → DeletesOn session st (after_act (mended ++ as_deleted page st.begun ∷ record right { layout = Two; left = page.left } ∷ []) st)
    unlinks mended is free =
        let lasts = unlink_lasts st page right (as_deleted page st.begun) (record right { layout = Two; left = page.left }) mended order.tree below is in
        record {
          own = λ start runs. numbers_stay st
              (after_act (mended ++ as_deleted page st.begun ∷ record right { layout = Two; left = page.left } ∷ []) st) session start runs lasts.0.places lasts.0.trails;
          does = does_delete st session (mended ++ as_deleted page st.begun ∷ record right { layout = Two; left = page.left } ∷ []) order is.may lasts.0 lasts.1
              (record {
                leaf = inr (unlink_deletes st page right (as_deleted page st.begun) (record right { layout = Two; left = page.left }) mended order.tree is);
                flags = unlink_flags st page right (as_deleted page st.begun) (record right { layout = Two; left = page.left }) mended order.tree is;
                links = λ within. unlink_links st page right (as_deleted page st.begun) (record right { layout = Two; left = page.left }) mended order.tree within is;
              }) free;
          edit = goes_edit page.block above taken.used (unlink_edit st page right (as_deleted page st.begun) (record right { layout = Two; left = page.left }) mended order.tree is);
        }

    pub does_unlink : (left : Option Page) → IsTakenLeft st true session page page.left left → AreActable st.format (length st.pages) (unlinked left page right st.begun)
        → DeletesOn session st (after_act (unlinked left page right st.begun) st)
    does_unlink left taken_left may = by page.left refl left taken_left may
      where
        by : (link : Option ℕ) → page.left ≡ link → (left : Option Page) → IsTakenLeft st true session page link left → AreActable st.format (length st.pages) (unlinked left page right st.begun)
            → DeletesOn session st (after_act (unlinked left page right st.begun) st)
        by None is None t may = unlinks [] (record {
          found = taken.found refl;
          dead = dead;
          right_is = right_is;
          right_found = right_taken.taken.found refl;
          mends = subst (λ (o : Option ℕ). IsLinkedTo st right.block o []) (sym is) leftmost;
          after_is = refl;
          right_after_is = refl;
          may = may;
        }) (taken.free, (right_taken.taken.free, tt))
        by None is (Some l) t may = absurd t
        by (Some b) is None t may = absurd t
        by (Some b) is (Some l) t may = unlinks (record l { layout = Two; right = Some right.block } ∷ []) (record {
          found = taken.found refl;
          dead = dead;
          right_is = right_is;
          right_found = right_taken.taken.found refl;
          mends = subst (λ (o : Option ℕ). IsLinkedTo st right.block o (record l { layout = Two; right = Some right.block } ∷ [])) (sym is)
              (neighbour l (record l { layout = Two; right = Some right.block }) (t.0.found refl) t.0.stored.block_is refl);
          after_is = refl;
          right_after_is = refl;
          may = may;
        }) (subst (λ (k : ℕ). is_held_by_another st.table session k Exclusive ≡ false) (sym t.0.stored.block_is) t.0.free, (taken.free, (right_taken.taken.free, tt)))

-- as many blocks are in use after it
pub used_unlinking : (st : State) (session : ℕ) (honest : Bool) (page right : Page) (number : ℕ) (left : Option Page) → page.block < length st.pages → right.block < length st.pages
    → IsTakenLeft st honest session page page.left left → length (after_act (unlinked left page right number) st).pages ≡ length st.pages
used_unlinking st session honest page right number left in_page in_right taken = by page.left left taken
  where
    two : (pages : List Page) (a b : Page) → a.block < length pages → b.block < length pages → length (with_pages pages (a ∷ b ∷ [])) ≡ length pages
    two pages a b in_a in_b =
        let one = page_length pages a (omega (arith, in_a)) in
        page_length (with_page pages a) b (omega (arith, in_b, one, in_a)) ∙ (omega (arith, one, in_a, in_b))

    by : (link : Option ℕ) (left : Option Page) → IsTakenLeft st honest session page link left → length (after_act (unlinked left page right number) st).pages ≡ length st.pages
    by None None t = two st.pages (as_deleted page number) (record right { layout = Two; left = page.left }) in_page in_right
    by None (Some l) t = absurd t
    by (Some b) None t = absurd t
    by (Some b) (Some l) t =
        let u : l.block < length st.pages = subst (λ (k : ℕ). k < length st.pages) (sym t.0.stored.block_is) t.0.used in
        let one = page_length st.pages (record l { layout = Two; right = Some right.block }) (omega (arith, u)) in
        two (with_page st.pages (record l { layout = Two; right = Some right.block })) (as_deleted page number)
        (record right { layout = Two; left = page.left }) (omega (arith, one, u, in_page)) (omega (arith, one, u, in_right))
        ∙ (omega (arith, one, u))

-- the siblings of a half-dead page link to it
pub dead_links : (st : State) (session : ℕ) (page : Page) → IsInOrder st → IsTakenToChange st true session page.block page → page.state ≡ HalfDead → SiblingsLink st.pages page
dead_links st session page order taken dead =
    siblings st order.tree page (taken.found refl) (λ gone. clash (sym dead ∙ gone)) (is_dead page taken.stored.storable.admitted dead).block.0
  where
    clash : HalfDead ≡ Deleted → ⊥
    clash e = cc
