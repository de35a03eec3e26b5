use Rattle.std.proofs.Common.{length, ◌≡◌, ◌++◌, true, false, Some, List, take, drop, refl, ap, ap₂, sym, subst, ◌∙◌}
use Rattle.std.specs.Prelude.{insert}
use Rattle.tree_shape.proofs.Puts.{may_still}
use Rattle.tree_shape.proofs.Imports.{IsAscending, Entry, IsPage, Page, entries_of, renewed, renewed_is_page, AreUpTo, left_count, LiesBefore}
use Rattle.tree_shape.proofs.LeafHalves.{left_leaf, right_leaf, left_page, right_page, leaf_halves, ascends, back_count}
use Rattle.tree_shape.proofs.leaf_edits.split_leaf.Goals as goal
use Rattle.tree_shape.proofs.leaf_edits.split_leaf.Goals.{After-end_at, After-entries_on-2}

module _ (c : After-end_at) where
  abbrev front : List Entry
  front = take (left_count (length (entries_of c.args.page.now.items))) (insert (entries_of c.args.page.now.items) c.args.at c.args.entry)

  abbrev back : List Entry
  back = drop (left_count (length (entries_of c.args.page.now.items))) (insert (entries_of c.args.page.now.items) c.args.at c.args.entry)

  left_is : c.end_at.new.page ≡ left_leaf (renewed c.args.page.now) c.args.new c.args.cycle c.separator-cut.result front
  left_is =
      c.end_at.ensures
      ∙ ap (λ (p : Page). record p { split = true; right = Some c.args.new; high = Some c.separator-cut.result; cycle = c.args.cycle }) c.part_entries.ensures.kept

  right_is : c.stand_right.new.half ≡ right_leaf (renewed c.args.page.now) c.args.new c.args.cycle back
  right_is =
      c.stand_right.ensures
      ∙ ap (λ (h : Page). record c.part_entries.new.page
      { block = c.args.new; split = false; left = Some c.part_entries.new.page.block; cycle = c.args.cycle; items = h.items }) c.part_entries.ensures.right_part
      ∙ ap (λ (p : Page). right_leaf p c.args.new c.args.cycle back) c.part_entries.ensures.kept

  back_seen : c.entries_on-2.result.now ≡ back
  back_seen = c.entries_on-2.ensures ∙ ap (λ (h : Page). entries_of h.items) c.part_entries.ensures.right_part

  front_seen : c.entries_on.result.now ≡ front
  front_seen = c.entries_on.ensures ∙ ap (λ (p : Page). entries_of p.items) c.part_entries.ensures.kept

  up : AreUpTo c.separator-cut.result front
  up = subst (AreUpTo c.separator-cut.result) front_seen c.separator-cut.ensures.up_to

  beyond : LiesBefore c.separator-cut.result back
  beyond = subst (LiesBefore c.separator-cut.result) back_seen c.separator-cut.ensures.beyond

pub returns-clause-left_page : goal.returns-clause-left_page
returns-clause-left_page c =
    subst IsPage (sym (left_is c))
    (left_page (renewed c.args.page.now) c.args.at c.args.entry c.seen.ensures (renewed_is_page c.args.page.now c.requires.page)
    (may_still c.args.page.now c.args.entry c.requires.may) c.requires.place c.requires.some (front c) (back c) refl refl
    c.args.new c.args.cycle c.requires.block c.ranges.cycle.fits refl c.separator-cut.result (up c) (beyond c) c.separator-cut.ensures.bound)

pub returns-clause-right_page : goal.returns-clause-right_page
returns-clause-right_page c =
    subst IsPage (sym (right_is c))
    (right_page (renewed c.args.page.now) c.args.at c.args.entry c.seen.ensures (renewed_is_page c.args.page.now c.requires.page)
    (may_still c.args.page.now c.args.entry c.requires.may) c.requires.place c.requires.some (front c) (back c) refl refl
    c.args.new c.args.cycle c.requires.block c.ranges.cycle.fits refl c.separator-cut.result (up c) (beyond c) c.separator-cut.ensures.bound)

pub returns-clause-halves : goal.returns-clause-halves
returns-clause-halves c =
    rw (left_is c, right_is c)
    (leaf_halves (renewed c.args.page.now) c.args.at c.args.entry c.seen.ensures (renewed_is_page c.args.page.now c.requires.page)
    (may_still c.args.page.now c.args.entry c.requires.may) c.requires.place c.requires.some (front c) (back c) refl refl
    c.args.new c.args.cycle c.requires.block c.ranges.cycle.fits refl c.separator-cut.result (up c) (beyond c) c.separator-cut.ensures.bound)

pub returns-clause-moved : goal.returns-clause-moved
returns-clause-moved c =
    rw (left_is c, right_is c)
    (back_count (renewed c.args.page.now) c.args.at c.args.entry c.seen.ensures (renewed_is_page c.args.page.now c.requires.page)
    (may_still c.args.page.now c.args.entry c.requires.may) c.requires.place c.requires.some (front c) (back c) refl refl)

module _ (c : After-entries_on-2) where
  halves_ascend : IsAscending (c.entries_on.result.now ++ c.entries_on-2.result.now)
  halves_ascend =
      let es = entries_of c.args.page.now.items in
      let put = insert es c.args.at c.args.entry in
      let front_read : c.entries_on.result.now ≡ take (left_count (length es)) put = c.entries_on.ensures ∙ ap (λ (p : Page). entries_of p.items) c.part_entries.ensures.kept in
      let back_read : c.entries_on-2.result.now ≡ drop (left_count (length es)) put = c.entries_on-2.ensures ∙ ap (λ (p : Page). entries_of p.items) c.part_entries.ensures.right_part in
      subst IsAscending (sym (ap₂ (λ l r. l ++ r) front_read back_read))
      (ascends (renewed c.args.page.now) c.args.at c.args.entry c.seen.ensures (renewed_is_page c.args.page.now c.requires.page)
      (may_still c.args.page.now c.args.entry c.requires.may) c.requires.place c.requires.some (take (left_count (length es)) put) (drop (left_count (length es)) put) refl refl)

pub separator-cut-requires-clause-ascending : goal.separator-cut-requires-clause-ascending
separator-cut-requires-clause-ascending c = halves_ascend c
