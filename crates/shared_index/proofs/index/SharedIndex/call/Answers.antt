use Rattle.std.proofs.Common.{◌∙◌}
use Rattle.session_seats.specs.Seats.{view_of}
use Rattle.shared_index.proofs.Holding.{may_go_on}
use Rattle.shared_index.proofs.index.SharedIndex.call.Goals as goal

pub returns-clause-told : goal.returns-clause-told
returns-clause-told g c =
    let b = c.begin-begun.ensures.told in
    let e = (c.finish.ensures.told b.call (view_of c.args.seat.pass) b.leaves).1 in
    record { place = e.place; call = e.call; calls_are = e.calls_are; asked_is = e.asked_is ∙ b.asked_is; answer_is = e.answer_is }
