use Rattle.std.proofs.Common.{◌≡◌}
use Rattle.session_seats.specs.Seats.{view_of}
use Rattle.session_seats.specs.declared.call.PendingCall.{PendingCall}
use Rattle.session_seats.specs.declared.seating.SessionView.{SessionView}
use Rattle.shared_index.specs.Sessions.{HoldLeaves, HoldMayGoOn}
use Rattle.shared_index.proofs.index.SharedIndex.finish.Given as goal

abbrev pub invariant-loop : goal.invariant-loop
invariant-loop g l =
    (l.end.seat.session ≡ l.fn.begun.seat.session)
    × HoldMayGoOn l.end.answer (view_of l.end.seat.pass)
    × ((p : PendingCall) (old : SessionView) → HoldLeaves p l.fn.begun.answer old (view_of l.fn.begun.seat.pass) → HoldLeaves p l.end.answer old (view_of l.end.seat.pass))
