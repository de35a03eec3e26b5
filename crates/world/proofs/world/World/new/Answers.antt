use Rattle.std.specs.Prelude.{map}
use Rattle.schedule.proofs.Unused.{unused_fits, unused_keeps}
use Rattle.world.proofs.world.World.new.Goals as goal

pub returns-in-Ok-clause-fits : goal.returns-in-Ok-clause-fits
returns-in-Ok-clause-fits g c unused = unused_fits g.S.PageStore c.args.store c.in-Ok.calls.slots.items (map g.T.DeadRows.is_in c.args.sets.items) c.args.sessions c.in-Ok.ensures.slots unused

pub returns-in-Ok-clause-keeps : goal.returns-in-Ok-clause-keeps
returns-in-Ok-clause-keeps g c unused own =
    unused_keeps g.S.PageStore g.met.S.PageStore.laws c.args.store c.in-Ok.calls.slots.items (map g.T.DeadRows.is_in c.args.sets.items) unused own
