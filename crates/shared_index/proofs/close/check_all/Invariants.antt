use Rattle.std.proofs.Common.{◌≡◌}
use Rattle.session_seats.specs.Seats.{view_of}
use Rattle.shared_index.specs.Told.{AreOfLog, all_told}
use Rattle.shared_index.proofs.close.check_all.Given as goal

abbrev pub invariant-loop-session : goal.invariant-loop-session
invariant-loop-session g l =
    (view_of l.desk.registry ≡ view_of l.initial.desk.registry)
    × AreOfLog (view_of l.initial.desk.registry).log (all_told l.yielded)
