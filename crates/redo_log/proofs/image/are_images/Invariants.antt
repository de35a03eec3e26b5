use Rattle.std.proofs.Common.{length}
use Rattle.redo_log.specs.Groups.{AreImages}
use Rattle.redo_log.proofs.image.are_images.Given as goal

abbrev pub invariant-loop-rest : goal.invariant-loop-rest
invariant-loop-rest l = record {
  back : AreImages l.format l.rest → AreImages l.format l.pages;
  forth : AreImages l.format l.pages → AreImages l.format l.rest;
}

abbrev pub decreases-loop-rest : goal.decreases-loop-rest
decreases-loop-rest l = length l.rest
