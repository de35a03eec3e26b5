use Rattle.std.proofs.Common.{◌≡◌, ◌≤◌, ◌*◌, ◌++◌, drop}
use Rattle.arrayvec.specs.ArrayVec.{array_vec_len}
use Rattle.latch_table.specs.Holdings.{pinned_blocks}
use Rattle.latch_table.specs.Holders.{holder_count}
use Rattle.latch_table.proofs.table.LatchTable.pinned.Given as goal

abbrev pub invariant-loop-held : goal.invariant-loop-held
invariant-loop-held l = record {
  blocks : l.blocks.items ++ pinned_blocks (drop l.held-index l.self) ≡ pinned_blocks l.self;
  -- so many of the rest hold something
  left : l.left ≡ holder_count (drop l.held-index l.self);
  few : array_vec_len l.blocks ≤ 2 * l.held-index;
}
