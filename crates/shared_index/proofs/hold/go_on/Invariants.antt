use Rattle.std.proofs.Common.{◌≡◌}
use Rattle.session_seats.specs.Seats.{view_of}
use Rattle.shared_world.specs.Leaving.{call_in}
use Rattle.shared_index.specs.Sessions.{RunsThisCall}
use Rattle.shared_index.proofs.hold.go_on.Given as goal

abbrev pub invariant-loop-step : goal.invariant-loop-step
invariant-loop-step g l =
    (l.mine.session ≡ l.initial.mine.session)
    × RunsThisCall (call_in (view_of l.initial.mine.pass)) (view_of l.mine.pass)
    × ((view_of l.mine.pass).calls ≡ (view_of l.initial.mine.pass).calls)
