use Rattle.std.proofs.Common.{◌≡◌, length}
use Rattle.recovery.proofs.Imports.{AtEachMoment, ChangesNamed}
use Rattle.recovery.proofs.Named.{HomedBelow}
use Rattle.recovery.proofs.homing.write_images.Given as goal

abbrev pub invariant-loop-block : goal.invariant-loop-block
invariant-loop-block g l =
    let trace = g.D.Device.trace in
    record {
      moments : AtEachMoment (ChangesNamed l.format l.found (trace l.fn.device).now) (trace l.fn.device) (trace l.device);
      now : ChangesNamed l.format l.found (trace l.fn.device).now (trace l.device).now;
      written : HomedBelow l.format l.found l.block (trace l.device).now.seen;
      len : length (trace l.device).now.seen ≡ length (trace l.fn.device).now.seen;
      honest : g.D.Device.is_honest l.device ≡ g.D.Device.is_honest l.fn.device;
      failures : g.D.Device.failures l.device ≡ g.D.Device.failures l.fn.device;
    }
