use Rattle.std.proofs.Common.{◌≡◌, ℕ, true, Some, None, suc, ◌+◌, List, length, take, drop, unwrap_or, ap, ap₂, sym, subst, ◌∙◌, add-one}
use Rattle.std.specs.Prelude.{insert}
use Rattle.tree_shape.proofs.Imports.{Bound, renewed, renewed_is_page, IsPage, Downlink, Page, links_of, from_low, left_count, with_downlinks, bound_at}
use Rattle.tree_shape.proofs.LinkHalves.{link_to, left_inner, right_inner, back_count, left_page, right_page, link_split}
use Rattle.tree_shape.proofs.link_edits.split_links.Goals as goal
use Rattle.tree_shape.proofs.link_edits.split_links.Goals.{After-end_at}

module _ (c : After-end_at) where
  abbrev those : List Downlink
  those = insert (links_of c.args.page.now.items) (suc c.args.at) (link_to c.args.separator c.args.child)

  abbrev count : ℕ
  count = left_count (length (links_of c.args.page.now.items))

  those_are : insert (links_of c.args.page.now.items) (c.args.at + 1) (link_to c.args.separator c.args.child) ≡ those
  those_are = ap (λ at. insert (links_of c.args.page.now.items) at (link_to c.args.separator c.args.child)) (add-one c.args.at)

  right_part : c.part_links-right_part.result.items ≡ drop count those
  right_part = c.part_links-right_part.ensures.right_part ∙ ap (λ l. drop count l) those_are

  kept : c.part_links-right_part.new.page ≡ with_downlinks (renewed c.args.page.now) (take count those)
  kept = c.part_links-right_part.ensures.kept ∙ ap (λ l. with_downlinks (renewed c.args.page.now) (take count l)) those_are

  cut_is : c.begin_low-cut.result ≡ unwrap_or (bound_at (drop count those) 0) c.args.separator
  cut_is = c.begin_low-cut.ensures.cut ∙ ap (λ l. unwrap_or (bound_at l 0) c.args.separator) right_part

  lows : c.begin_low-cut.new.links.items ≡ from_low None (drop count those)
  lows = c.begin_low-cut.ensures.low ∙ ap (λ l. from_low None l) right_part

  left_is : c.end_at.new.page ≡ left_inner (renewed c.args.page.now) c.args.new (unwrap_or (bound_at (drop count those) 0) c.args.separator) (take count those)
  left_is =
      c.end_at.ensures
      ∙ ap₂ (λ (p : Page) (b : Bound). record p { split = true; right = Some c.args.new; high = Some b }) kept cut_is

  right_is : c.right_half-right.result ≡ right_inner (renewed c.args.page.now) c.args.new (from_low None (drop count those))
  right_is =
      c.right_half-right.ensures
      ∙ ap₂ (λ (p : Page) (l : List Downlink). right_inner p c.args.new l) kept lows

pub returns-clause-left_page : goal.returns-clause-left_page
returns-clause-left_page c =
    subst IsPage (sym (left_is c))
    (left_page (renewed c.args.page.now) c.args.at c.args.separator c.args.child (renewed_is_page c.args.page.now c.requires.page) c.requires.internal
    c.requires.some c.requires.place c.requires.fits c.requires.bound c.requires.child
    c.args.new c.requires.block)

pub returns-clause-right_page : goal.returns-clause-right_page
returns-clause-right_page c =
    subst IsPage (sym (right_is c))
    (right_page (renewed c.args.page.now) c.args.at c.args.separator c.args.child (renewed_is_page c.args.page.now c.requires.page)
    c.requires.internal c.requires.some c.requires.place c.requires.fits c.requires.bound c.requires.child
    c.args.new c.requires.block)

pub returns-clause-split : goal.returns-clause-split
returns-clause-split c =
    rw (left_is c, right_is c)
    (link_split (renewed c.args.page.now) c.args.at c.args.separator c.args.child (renewed_is_page c.args.page.now c.requires.page)
    c.requires.internal c.requires.some c.requires.place c.requires.fits c.requires.bound c.requires.child
    c.args.new c.requires.block)

pub returns-clause-moved : goal.returns-clause-moved
returns-clause-moved c =
    rw (left_is c, right_is c)
    (back_count (renewed c.args.page.now) c.args.at c.args.separator c.args.child (renewed_is_page c.args.page.now c.requires.page)
    c.requires.internal c.requires.some c.requires.place c.requires.fits c.requires.bound c.requires.child)
