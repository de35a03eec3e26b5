use Rattle.std.specs.Prelude.{map, nat_lt}
use Rattle.std.proofs.Common.{◌≡◌, ℕ, ap, arith}
use Rattle.std.specs.Vec.{with_item}
use Rattle.schedule.proofs.Unused.{fits_with}
use Rattle.world.specs.Worlds.{snapshot_in}
use Rattle.world.proofs.NoDeletes.{none_deletes}
use Rattle.world.proofs.world.World.put_set.Goals as goal

pub returns-clause-fits : goal.returns-clause-fits
returns-clause-fits g c start history calls fits =
    let self = c.args.self.now in
    let none : (g.S.PageStore.state self.store).cycle ≡ 0 = omega (arith, c.cycle.ensures, c.if-cycle-gt0.false) in
    fits_with g.S.PageStore start (snapshot_in g.T.DeadRows self history calls) (map g.T.DeadRows.is_in (with_item self.sets c.args.at c.replace.new.dest).items)
    (none_deletes (g.S.PageStore.state self.store) self.calls.slots.items fits.invariant.vacuums (ap (λ (n : ℕ). nat_lt 0 n) none)) fits
