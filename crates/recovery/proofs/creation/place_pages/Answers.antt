use Rattle.std.proofs.Common.{ℕ, ◌-◌, ◌*◌, ◌<◌, ◌≤◌, arith}
use Rattle.recovery.proofs.Imports.{Trace, AtEachMoment, ChangesOnly, place, Format}
use Rattle.recovery.proofs.Creating.{on_ok, only_now, wider_goes, more_goes, pages_made}
use Rattle.recovery.proofs.creation.place_pages.Given.{Over}
use Rattle.recovery.proofs.creation.place_pages.Goals.{After-place_zeros, After-place_page}
use Rattle.recovery.proofs.creation.place_pages.Goals as goal

-- nothing but the places of the blocks changes
abbrev PagesGo : Format → Trace → Trace → Type 0
PagesGo format t u = AtEachMoment (ChangesOnly (place format 0) (4096 * format.pages) t.now) t u

zeros_go : (g : Over) (c : After-place_zeros g) → PagesGo c.args.format.now (g.D.Device.trace c.args.device.now) (g.D.Device.trace c.place_zeros.new.device)
zeros_go g c =
    let format = c.args.format.now in
    wider_goes (place format 2) (4096 * (format.pages - 2)) (place format 0) (4096 * format.pages) _ _ (omega arith) (omega (arith, c.requires.allowed.pages_from)) c.place_zeros.ensures.moments

-- also if one page more is written, at a block of the first two
page_goes : (format : Format) (block : ℕ) (t u v : Trace) → block < 2 → 2 ≤ format.pages → PagesGo format t u → AtEachMoment (ChangesOnly (place format block) 4096 u.now) u v → PagesGo format t v
page_goes format block t u v below few = more_goes (place format block) 4096 (place format 0) (4096 * format.pages) t u v (omega arith) (omega arith)

meta_goes : (g : Over) (c : After-place_page g) → PagesGo c.args.format.now (g.D.Device.trace c.args.device.now) (g.D.Device.trace c.place_page.new.device)
meta_goes g c =
    page_goes c.args.format.now c.first_meta.result.block _ _ _ (omega (arith, c.first_meta.ensures.block))
    (omega (arith, c.requires.allowed.pages_from)) (zeros_go g (goal.at.After-place_page g c).After-place_zeros) c.place_page.ensures.moments

pub returns-in_err-place_zeros-clause-moments : goal.returns-in_err-place_zeros-clause-moments
returns-in_err-place_zeros-clause-moments g c = zeros_go g (goal.at.returns-in_err-place_zeros-clause-moments g c).After-place_zeros

pub returns-in_err-place_page-clause-moments : goal.returns-in_err-place_page-clause-moments
returns-in_err-place_page-clause-moments g c = meta_goes g (goal.at.returns-in_err-place_page-clause-moments g c).After-place_page

pub returns-clause-there : goal.returns-clause-there
returns-clause-there g c = on_ok _ _ c.place_page-2.result
    (λ there. pages_made c.args.format.now c.first_meta.result c.first_leaf.result _ _ _ c.first_meta.ensures c.first_leaf.ensures c.place_page.ensures.long c.in_ok-place_zeros.ensures.there
    c.in_ok-place_page.ensures.there (only_now _ 4096 _ _ c.place_page.ensures.moments) there (only_now _ 4096 _ _ c.place_page-2.ensures.moments))
    c.place_page-2.ensures.there

pub returns-clause-moments : goal.returns-clause-moments
returns-clause-moments g c =
    page_goes c.args.format.now c.first_leaf.result.block _ _ _ (omega (arith, c.first_leaf.ensures.block))
    (omega (arith, c.requires.allowed.pages_from)) (meta_goes g (goal.at.returns-clause-moments g c).After-place_page)
    c.place_page-2.ensures.moments
