use Rattle.world.specs.Worlds.{inside}
use Rattle.shared_world.proofs.Words.{rows_asked}
use Rattle.shared_index.proofs.Putting.{begins_over}
use Rattle.shared_index.proofs.hold.begin_and_go_on.Goals as goal

pub returns-then-is_over-clause-told : goal.returns-then-is_over-clause-told
returns-then-is_over-clause-told g c =
    rw (c.over.ensures.answer, c.over.ensures.seat)
    (begins_over c.args.asked (rows_asked (inside g.T.DeadRows c.args.live.now.world).sets c.args.asked) c.begin-seat.result.over c.begin-seat.ensures.told c.if-is_over.true)
