use Rattle.std.proofs.Common.{arith}
use Rattle.buffer_pool.proofs.Sound.{none_clean}
use Rattle.buffer_pool.proofs.pool.Pool.free_frame.Goals as goal

pub returns-then-len-clause-none : goal.returns-then-len-clause-none
returns-then-len-clause-none c = none_clean c.args.self.now c.args.pinned.now (omega arith)
