use Rattle.std.proofs.Common.{◌++◌, ◌∷◌, [], ◌+◌, List, map, drop, sym, ap, ◌∙◌, append_assoc, arith}
use Rattle.page_store.proofs.Imports.{Page, drop_at_item}
use Rattle.page_store.proofs.store.with_blocks.Goals as goal

pub loop-page-preserved : goal.loop-page-preserved
loop-page-preserved c =
    let pages = c.args.pages.now in
    let i = c.loop-page.page-index in
    let page = c.page-item.result in
    let rest = map (λ (p : Page). p.block) (drop (i + 1) pages) in
    let first = drop_at_item pages i page c.loop-page-test.true c.page-item.is in
    record {
      items = ap (λ xs. xs ++ rest) c.push.ensures.items ∙ (append_assoc c.loop-page.blocks.items (page.block ∷ []) rest
          ∙ (ap (λ (ps : List Page). c.loop-page.blocks.items ++ map (λ (p : Page). p.block) ps) (sym first) ∙ c.loop-page.invariant.items));
      many = omega (arith, c.push.ensures.len, c.loop-page.invariant.many);
    }
