use Rattle.std.proofs.Common.{◌≡◌, ◌≤◌, ◌+◌, length}
use Rattle.redo_log.specs.Blocks.{new_count, AreInside}
use Rattle.redo_log.proofs.waiting.Waiting.count_new.Given as goal

abbrev pub invariant-loop-rest : goal.invariant-loop-rest
invariant-loop-rest l = record {
  counted : l.count + new_count l.self.blocks.items l.rest ≡ new_count l.self.blocks.items l.images;
  few : l.count + length l.rest ≤ length l.images;
  inside : AreInside (length l.self.places.items) l.rest;
}

abbrev pub decreases-loop-rest : goal.decreases-loop-rest
decreases-loop-rest l = length l.rest
