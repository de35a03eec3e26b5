use Rattle.buffer_pool.proofs.Sound.{pool_is}
use Rattle.buffer_pool.proofs.pool.Pool.law.Goals as goal

pub returns : goal.returns
returns c = pool_is c.args.self.now
