use Rattle.std.proofs.Common.{arith}
use Rattle.world.proofs.world.World.room.Goals as goal

pub returns-clause-promised : goal.returns-clause-promised
returns-clause-promised g c = (let most = (g.met.S.PageStore.laws.room_is_promised c.args.self.now.store).most in omega (arith, most, c.room.ensures))
