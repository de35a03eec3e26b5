use Rattle.std.proofs.Common.{List, ap, subst}
use Rattle.index_model.specs.Row.{Row}
use Rattle.session_seats.specs.Seats.{view_of}
use Rattle.session_seats.specs.declared.job.Job.TheVariants.{Bulk}
use Rattle.shared_world.specs.Rows.{rows_in}
use Rattle.shared_index.specs.Sessions.{HoldBegins}
use Rattle.shared_index.proofs.Putting.{not_put_for, put_is_named}
use Rattle.shared_index.proofs.locked.LockedIndex.put_and_begin.Goals as goal

pub returns-in-Ok-clause-told : goal.returns-in-Ok-clause-told
returns-in-Ok-clause-told g c =
    let live = c.args.self.now.live in
    let put = c.put_set.new.self in
    subst (λ (l : List Row). HoldBegins (Bulk 0) l c.begin.result.answer (view_of c.args.seat.pass) (view_of c.begin.result.seat.pass))
    (ap rows_in (put_is_named g.T.DeadRows.is_in live.world.sets.items put.world.sets.items 0 c.in-Ok.was c.args.set c.in-Ok.ensures.was c.in-Ok.ensures.put))
    c.begin.ensures.told

pub returns-in-Err-clause-cause : goal.returns-in-Err-clause-cause
returns-in-Err-clause-cause g c =
    let self = c.args.self.now in
    not_put_for g.S.PageStore g.T.DeadRows g.J.Origin.handed self.live.start self.live.world c.in-Err.not_put.fault self.spare self.live.comes c.in-Err.ensures.cause
