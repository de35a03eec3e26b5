use Rattle.std.proofs.Common.{◌≡◌, ◌≤◌, ◌-◌, ◌/◌}
use Rattle.buffer_pool.specs.Pools.{most_of, HasSamePages}
use Rattle.page_store.specs.Quiet.{IsSameButWritten}
use Rattle.page_store.proofs.Evicting.{AreWrittenInTurn}
use Rattle.page_store.proofs.logged_pages.LoggedPages.write_ahead.Given as goal

abbrev pub invariant-loop-count : goal.invariant-loop-count
invariant-loop-count g l = record {
  quiet : IsSameButWritten g.D.Device l.fn.self l.self;
  same : HasSamePages l.fn.self.pool l.self.pool;
  goes : AreWrittenInTurn l.pinned l.fn.self.durable l.place l.count l.fn.self.pool l.self.pool;
  few : l.count ≤ most_of l.fn.self.pool / 4;
  durable : l.self.durable ≡ l.fn.self.durable;
  log : l.self.log ≡ l.fn.self.log;
  room : l.self.room ≡ l.fn.self.room;
  failures : g.D.Device.failures l.self.device ≡ g.D.Device.failures l.fn.self.device;
}

abbrev pub decreases-loop-count : goal.decreases-loop-count
decreases-loop-count g l = l.most - l.count
