use Rattle.std.proofs.Common.{ap}
use Rattle.buffer_pool.specs.Pools.{changed_of}
use Rattle.page_store.specs.Quiet.{IsSameButWritten}
use Rattle.page_store.proofs.Ordering.{part_is}
use Rattle.page_store.proofs.Quieting.{quiet_same}
use Rattle.page_store.proofs.logged_pages.LoggedPages.make_durable.Given.{Over}
use Rattle.page_store.proofs.logged_pages.LoggedPages.make_durable.Goals.{After-force}
use Rattle.page_store.proofs.logged_pages.LoggedPages.make_durable.Goals as goal

forced : (g : Over) (c : After-force g) → IsSameButWritten g.D.Device c.args.self.now c.force.new.self
forced g c = record {
  follows = c.force.ensures.steps;
  pages = c.force.ensures.pages;
  promised = c.force.ensures.promised;
  idle = c.force.ensures.idle;
  order = part_is (changed_of c.force.new.self.pool) (changed_of c.args.self.now.pool) (ap changed_of c.force.ensures.pool);
  waits = c.force.ensures.waits;
}

pub returns-then-is_stopped-clause-quiet : goal.returns-then-is_stopped-clause-quiet
returns-then-is_stopped-clause-quiet g c = quiet_same g.D.Device c.args.self.now

pub returns-then-act-self-clause-quiet : goal.returns-then-act-self-clause-quiet
returns-then-act-self-clause-quiet g c = quiet_same g.D.Device c.args.self.now

pub returns-in-Ok-clause-quiet : goal.returns-in-Ok-clause-quiet
returns-in-Ok-clause-quiet g c = forced g (goal.at.returns-in-Ok-clause-quiet g c).After-force

pub returns-in-Err-clause-quiet : goal.returns-in-Err-clause-quiet
returns-in-Err-clause-quiet g c = forced g (goal.at.returns-in-Err-clause-quiet g c).After-force
