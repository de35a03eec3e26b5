use Rattle.std.proofs.Common.{◌≡◌, IsTrue, length}
use Rattle.device.specs.Record.{are_inside, written_over}
use Rattle.device.specs.Past.{writes_of}
use Rattle.device.proofs.record.write_over.Given as goal

abbrev pub invariant-loop-rest : goal.invariant-loop-rest
invariant-loop-rest l = record {
  same : written_over l.bytes (writes_of l.rest) ≡ written_over l.fn.bytes (writes_of l.pieces);
  inside : IsTrue (are_inside (length l.bytes) (writes_of l.rest));
}

abbrev pub decreases-loop-rest : goal.decreases-loop-rest
decreases-loop-rest l = length l.rest
