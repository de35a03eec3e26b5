-- How much is left to do for a scan, while the pages are as they are.
use Rattle.std.specs.Prelude.{ℕ, suc, ◌+◌, ◌*◌, ◌&&◌, if◌then◌else◌, Bool, List, [], ◌∷◌, length}
use Rattle.index_model.specs.declared.bound.Bound.{Bound}
use Rattle.page_codec.specs.declared.page.Page.{Page}
use Rattle.tree_shape.specs.Nodes.{is_live}
use Rattle.tree_shape.specs.Walks.{frontier_aim, is_within}
use Rattle.descent.specs.NextPage.{way_left, walk_length}
use Rattle.scan.specs.Ready.{waiting}
use Rattle.scan.specs.declared.steps.ScanAt.{ScanAt}
use Rattle.scan.specs.declared.steps.ScanAt.TheVariants.{Start, At, Last}
use Rattle.scan.specs.declared.steps.ScanOp.{ScanOp}

-- a live page that isn't all after the frontier: it has no high key, or one beyond that
abbrev pub is_ahead : Bound → Page → Bool
is_ahead frontier page = is_live page.state && is_within (frontier_aim frontier) page.high

-- how many of these pages are
abbrev pub count_ahead : Bound → List Page → ℕ
count_ahead frontier [] = 0
count_ahead frontier (page ∷ pages) =
    if is_ahead frontier page then suc (count_ahead frontier pages) else count_ahead frontier pages

-- how many leaves a scan reads still, at most
abbrev pub leaves_left : Bound → List Page → ScanAt → ℕ
leaves_left frontier pages Start = count_ahead frontier pages
leaves_left frontier pages (At position) = count_ahead frontier pages
leaves_left frontier pages Last = 0

-- how many more pages it reads until it has read a leaf, at most
abbrev pub scan_walk_left : ℕ → ScanAt → ℕ
scan_walk_left most Start = walk_length most
scan_walk_left most (At position) = way_left most position
scan_walk_left most Last = 0

-- what is left to do for a scan, while the pages are as they are and there are `most` at most: a leaf brings
-- a walk and 50 entries at most
abbrev pub scan_left : ℕ → List Page → ScanOp → ℕ
scan_left most pages op =
    leaves_left op.frontier pages op.at * (walk_length most + 52) + scan_walk_left most op.at
    + length (waiting op)
