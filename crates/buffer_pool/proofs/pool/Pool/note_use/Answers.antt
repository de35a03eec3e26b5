use Rattle.std.proofs.Common.{refl, arith}
use Rattle.buffer_pool.specs.Pools.{pool_count}
use Rattle.buffer_pool.proofs.Putting.{same_changes}
use Rattle.buffer_pool.proofs.Noting.{same_pages}
use Rattle.buffer_pool.proofs.pool.Pool.note_use.Goals as goal

pub index_mut-requires : goal.index_mut-requires
unfolding pool_count
index_mut-requires c = omega (arith, c.in-Some.ensures.within, c.args.self.now.many_looked)

pub returns-in-Some-clause-pages : goal.returns-in-Some-clause-pages
returns-in-Some-clause-pages c = same_pages c.args.self.now _ refl refl refl

pub returns-in-Some-clause-changes : goal.returns-in-Some-clause-changes
returns-in-Some-clause-changes c = same_changes c.args.self.now _ refl (λ b. refl)
