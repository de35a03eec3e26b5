-- What a report counts.
use Rattle.std.specs.Prelude.{◌≡◌, ℕ, suc, ◌+◌, Bool, true, false, Some, List, [], ◌∷◌, length, slice_get}
use Rattle.page_codec.specs.declared.page.Page.{Page}
use Rattle.page_codec.specs.declared.page.PageState.{PageState}
use Rattle.page_codec.specs.declared.page.PageState.TheVariants.{Live, HalfDead, Deleted}
use Rattle.page_action.specs.Contents.{live_entries}
use Rattle.amcheck.specs.declared.report.Report.{Report}

-- the sum of this number over the pages
abbrev pub sum_of_all : (Page → ℕ) → List Page → ℕ
sum_of_all number [] = 0
sum_of_all number (page ∷ pages) = number page + sum_of_all number pages

-- how many entries stand on the page, if it is a live leaf
abbrev pub count_entries_on : Page → ℕ
count_entries_on page = length (live_entries page.state page.items)

abbrev pub one_if_half_dead : PageState → ℕ
one_if_half_dead Live = 0
one_if_half_dead HalfDead = 1
one_if_half_dead Deleted = 0

abbrev pub one_if_deleted : PageState → ℕ
one_if_deleted Live = 0
one_if_deleted HalfDead = 0
one_if_deleted Deleted = 1

abbrev pub one_if_incomplete : Bool → ℕ
one_if_incomplete true = 1
one_if_incomplete false = 0

-- The report on pages in `levels` levels, from the root's to the leaves: the blocks in use, block 0 included;
-- the entries on live leaves; the pages that are half-dead, deleted and with an incomplete split.
abbrev pub report_of : ℕ → List Page → Report
report_of levels pages = record {
  levels = levels;
  pages = length pages;
  entries = sum_of_all count_entries_on pages;
  half_dead = sum_of_all (λ p. one_if_half_dead p.state) pages;
  deleted = sum_of_all (λ p. one_if_deleted p.state) pages;
  unfinished = sum_of_all (λ p. one_if_incomplete p.split) pages;
}

-- the numbers of a report are those of the pages, whose levels the metapage tells
pub record IsReport (pages : List Page) (report : Report) : Type 0 where
  pub meta : Page
  pub meta_at : slice_get pages 0 ≡ Some meta
  pub is : report ≡ report_of (suc meta.level) pages
