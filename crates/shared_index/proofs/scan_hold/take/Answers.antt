use Rattle.session_seats.specs.Seats.{view_of}
use Rattle.shared_index.proofs.Batches.{taken_twice}
use Rattle.shared_index.proofs.scan_hold.take.Goals as goal

pub returns-then-is_some-clause-taken : goal.returns-then-is_some-clause-taken
returns-then-is_some-clause-taken g c =
    let turn = c.advance-turn.result in
    taken_twice turn.over c.args.given.now.items c.loop-turns.given.items c.advance-turn.new.given.items (view_of c.args.seat.pass) (view_of c.loop-turns.mine.pass) (view_of turn.seat.pass) c.loop-turns.invariant.3 c.advance-turn.ensures.taken
