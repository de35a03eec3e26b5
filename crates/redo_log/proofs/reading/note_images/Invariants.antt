use Rattle.redo_log.proofs.Noting.{NotedSoFar}
use Rattle.redo_log.proofs.reading.note_images.Given as goal

abbrev pub invariant-loop-k : goal.invariant-loop-k
invariant-loop-k l = NotedSoFar l.format l.log l.at l.count l.k l.fn.lasts l.lasts
