-- What is known of the pages that are judged.
use Rattle.std.proofs.Common.{◌≤◌, inl, inr, List, length, arith}
use Rattle.tree_acts.proofs.Sizes.{block_low}
use Rattle.amcheck.proofs.Imports.{cases_lt, Format, Page, AreStored, stored_page, page_there, StandAtTheirBlocks}

-- pages as the format demands stand at their blocks
pub they_stand : (format : Format) (pages : List Page) → AreStored format 0 pages → StandAtTheirBlocks pages
they_stand format pages stored block page found = (let s = stored_page format block pages page stored found in (s.storable.admitted, s.block_is))

-- so there are no more of them than the format has blocks
pub they_are_few : (pages : List Page) → StandAtTheirBlocks pages → length pages ≤ 65536
they_are_few pages stand = elim (cases_lt 65536 (length pages)) [
  | inl lt ↦
      let p = page_there pages 65536 lt in
      let own = stand 65536 p.0 p.1 in
      let low = block_low p.0 own.0 in
      absurd (omega (arith, low, own.1))
  | inr ge ↦ ge
]
