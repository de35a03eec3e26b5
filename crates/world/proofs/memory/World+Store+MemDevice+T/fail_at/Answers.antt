use Rattle.world.specs.Worlds.{snapshot_in}
use Rattle.schedule.proofs.Events.{fits_still}
use Rattle.world.proofs.memory.World+Store+MemDevice+T.fail_at.Goals as goal

pub returns-clause-fits : goal.returns-clause-fits
returns-clause-fits g c start history calls fits = fits_still _ start (snapshot_in g.T.DeadRows c.args.self.now history calls) c.fail_at.new.self c.fail_at.ensures.state fits
