use Rattle.world.proofs.Leaving.{left_index}
use Rattle.access_method.proofs.index.Index+Store+D.crash_law.Goals as goal

pub returns : goal.returns
returns g c first own follows start history calls fits keeps image left =
    left_index g.D.Device first c.args.self.now.store own follows start history fits.explains.count keeps.parts image left
