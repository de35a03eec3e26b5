use Rattle.page_store.specs.Crashing.{left_now}
use Rattle.page_store.specs.Following.{follows_same}
use Rattle.page_store.specs.Stores.{held_by}
use Rattle.world.proofs.Leaving.{left_index}
use Rattle.world.proofs.over_device.World+Store+D+T.crash_law.Goals as goal

pub returns-clause-index : goal.returns-clause-index
returns-clause-index g c first own follows start history calls fits keeps image left =
    left_index g.D.Device first c.args.self.now.store own follows start history fits.explains.count keeps.parts image left

pub returns-clause-now : goal.returns-clause-now
returns-clause-now g c start history calls image fits keeps may =
    let store = c.args.self.now.store in
    left_index g.D.Device store store keeps.own (follows_same (held_by g.D.Device store)) start history fits.explains.count keeps.parts image (left_now (held_by g.D.Device store) image may)
