use Rattle.std.proofs.Common.{◌≡◌, length, vec_capacity}
use Rattle.redo_log.proofs.Imports.{with_blocks, AreInside}
use Rattle.redo_log.proofs.waiting.Waiting.take_all.Given as goal

abbrev pub invariant-loop-rest : goal.invariant-loop-rest
invariant-loop-rest l = record {
  blocks : with_blocks l.self.blocks.items l.rest ≡ with_blocks l.fn.self.blocks.items l.images;
  places : length l.self.places.items ≡ length l.fn.self.places.items;
  capacity : vec_capacity l.self.blocks ≡ vec_capacity l.fn.self.blocks;
  inside : AreInside (length l.self.places.items) l.rest;
}

abbrev pub decreases-loop-rest : goal.decreases-loop-rest
decreases-loop-rest l = length l.rest
