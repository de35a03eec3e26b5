use Rattle.std.proofs.Common.{List, subst}
use Rattle.schedule.specs.Making.{EventEffect}
use Rattle.schedule.specs.Sessions.{here}
use Rattle.schedule.specs.TheoremKinds.{kind_of}
use Rattle.schedule.proofs.Running.{makes_follow}
use Rattle.world.specs.Worlds.{inside}
use Rattle.world.proofs.world.World.one.Goals as goal

pub returns-clause-goes : goal.returns-clause-goes
returns-clause-goes g c =
    let rows = g.T.DeadRows in
    makes_follow g.S.PageStore g.met.S.PageStore.laws c.args.event c.one.result (inside rows c.args.self.now) _
    (subst (λ (ts : List g.row.T.Denot).
    EventEffect g.S.PageStore (kind_of c.args.event) c.one.result (here rows c.args.self.now.store c.args.self.now.calls ts) (here rows c.one.new.store c.one.new.calls ts))
    c.deref.ensures.value c.one.ensures.makes)
