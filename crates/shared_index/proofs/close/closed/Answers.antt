use Rattle.session_seats.specs.Seats.{view_of}
use Rattle.shared_index.specs.Told.{all_told}
use Rattle.shared_index.proofs.Closing.{served}
use Rattle.shared_index.proofs.close.closed.Goals as goal

pub returns-clause-done : goal.returns-clause-done
returns-clause-done g c =
    let live = c.args.live in
    let registry = view_of live.desk.registry in
    served g.S.PageStore g.T.DeadRows g.J.Origin.stood g.J.Origin.kept_then g.J.OriginOn.followed g.J.Origin.handed live.world live.start registry.pending registry.log live.kept live.acted live.matches
    live.comes live.steps (all_told c.args.sessions.items) c.check_all.ensures.own c.is_idle-idle.result c.is_idle-idle.ensures.yes
