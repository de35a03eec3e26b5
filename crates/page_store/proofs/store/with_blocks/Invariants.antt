use Rattle.std.proofs.Common.{◌≡◌, ◌++◌, map, drop}
use Rattle.arrayvec.specs.ArrayVec.{array_vec_len}
use Rattle.page_store.proofs.store.with_blocks.Given as goal

abbrev pub invariant-loop-page : goal.invariant-loop-page
invariant-loop-page l = record {
  items : l.blocks.items ++ map (λ page. page.block) (drop l.page-index l.pages) ≡ map (λ page. page.block) l.pages;
  many : array_vec_len l.blocks ≡ l.page-index;
}
