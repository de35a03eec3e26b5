use Rattle.std.proofs.Common.{◌≡◌, ◌≤◌, ◌-◌, IsTrue, length}
use Rattle.recovery.proofs.Imports.{frames_of_room, pages_of_room, HasReadPages}
use Rattle.recovery.proofs.reading.add_pages.Given as goal

abbrev pub invariant-loop-used : goal.invariant-loop-used
invariant-loop-used g l =
    let trace = g.D.Device.trace in
    record {
      read : HasReadPages l.format (g.D.Device.is_honest l.device) (trace l.fn.device).now.seen l.found;
      count : length (pages_of_room l.found.room) ≡ l.used;
      few : l.used ≤ l.format.pages;
      batch : length l.batch ≡ 65536;
      frames : frames_of_room l.found.room ≡ frames_of_room l.fn.found.room;
      trace : trace l.device ≡ trace l.fn.device;
      honest : IsTrue (g.D.Device.is_honest l.device) → IsTrue (g.D.Device.is_honest l.fn.device);
      failures : g.D.Device.failures l.device ≡ g.D.Device.failures l.fn.device;
    }

abbrev pub decreases-loop-used : goal.decreases-loop-used
decreases-loop-used g l = l.format.pages - l.used
