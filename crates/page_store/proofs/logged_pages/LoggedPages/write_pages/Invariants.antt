use Rattle.std.proofs.Common.{◌≡◌, ◌≤◌, ◌-◌, length}
use Rattle.buffer_pool.specs.Pools.{changed_of}
use Rattle.page_store.proofs.Imports.{Follows, held_of, SameButDevice, AreWrittenUpTo}
use Rattle.page_store.proofs.logged_pages.LoggedPages.write_pages.Given as goal

abbrev pub invariant-loop-written : goal.invariant-loop-written
invariant-loop-written g l = record {
  steps : Follows (held_of g.D.Device l.fn.self) (held_of g.D.Device l.self);
  same : SameButDevice g.D.Device l.fn.self l.self;
  few : l.written ≤ length (changed_of l.fn.self.pool);
  home : AreWrittenUpTo l.fn.self.format l.fn.self.pool l.written (g.D.Device.trace l.self.device).now;
  failures : g.D.Device.failures l.self.device ≡ g.D.Device.failures l.fn.self.device;
}

abbrev pub decreases-loop-written : goal.decreases-loop-written
decreases-loop-written g l = l.count - l.written
