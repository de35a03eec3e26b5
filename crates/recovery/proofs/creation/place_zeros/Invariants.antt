use Rattle.std.proofs.Common.{◌≡◌, ◌≤◌, ◌-◌, ◌*◌, length}
use Rattle.recovery.proofs.Imports.{AtEachMoment, ChangesOnly, place, AreZero}
use Rattle.recovery.proofs.creation.place_zeros.Given as goal

abbrev pub invariant-loop-block : goal.invariant-loop-block
invariant-loop-block g l = record {
  from : 2 ≤ l.block;
  few : l.block ≤ l.format.pages;
  there : AreZero l.format 2 l.block (g.D.Device.trace l.device).now.seen;
  moments : AtEachMoment (ChangesOnly (place l.format 2) (4096 * (l.format.pages - 2)) (g.D.Device.trace l.fn.device).now) (g.D.Device.trace l.fn.device) (g.D.Device.trace l.device);
  len : length (g.D.Device.trace l.device).now.seen ≡ length (g.D.Device.trace l.fn.device).now.seen;
  honest : g.D.Device.is_honest l.device ≡ g.D.Device.is_honest l.fn.device;
  failures : g.D.Device.failures l.device ≡ g.D.Device.failures l.fn.device;
}

abbrev pub decreases-loop-block : goal.decreases-loop-block
decreases-loop-block g l = l.format.pages - l.block
