use Rattle.std.proofs.Common.{◌≡◌, ◌+◌, Some, take, suc, slice_get, ap, subst, ◌∙◌, arith}
use Rattle.buffer_pool.specs.Pools.{frame_of}
use Rattle.page_store.proofs.Imports.{is_some, IsSome, Page, slice_get_at, AreActed}
use Rattle.page_store.proofs.Acts.{acted_next}
use Rattle.page_store.proofs.Frames.{all_at}
use Rattle.page_store.proofs.changing.change_all.Goals.{After-page-item}
use Rattle.page_store.proofs.changing.change_all.Goals as goal

at : (c : After-page-item) → slice_get c.args.pages.now c.loop-page.page-index ≡ Some c.page-item.result
at c = slice_get_at c.args.pages.now c.loop-page.page-index c.page-item.result c.loop-page-test.true c.page-item.is

pub change-requires-clause-held : goal.change-requires-clause-held
change-requires-clause-held c =
    let here = (goal.at.change-requires-clause-held c).After-page-item in
    ap is_some (c.loop-page.invariant.places c.page-item.result.block)
    ∙ all_at (λ (p : Page). IsSome (frame_of c.args.pool.now p.block)) c.args.pages.now c.loop-page.page-index c.page-item.result c.requires.held (at here)

pub loop-page-preserved : goal.loop-page-preserved
loop-page-preserved c =
    let here = (goal.at.loop-page-preserved c).After-page-item in
    let k = c.loop-page.page-index in
    let next : suc k ≡ k + 1 = omega arith in
    subst (λ n. AreActed c.args.pool.now c.change.new.self (take n c.args.pages.now) c.args.act) next
    (acted_next c.args.pool.now c.loop-page.pool c.change.new.self c.args.pages.now k c.page-item.result c.args.act (at here) c.loop-page.invariant c.change.ensures)
