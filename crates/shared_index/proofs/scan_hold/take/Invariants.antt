use Rattle.std.proofs.Common.{◌≡◌, None, vec_capacity}
use Rattle.session_seats.specs.Seats.{view_of}
use Rattle.shared_index.specs.Scanning.{HasTakenMore, RunsScan}
use Rattle.shared_index.proofs.scan_hold.take.Given as goal

abbrev pub invariant-loop-turns : goal.invariant-loop-turns
invariant-loop-turns g l =
    (l.mine.session ≡ l.initial.mine.session)
    × (vec_capacity l.given ≡ vec_capacity l.initial.given)
    × RunsScan l.taken (view_of l.mine.pass)
    × HasTakenMore None l.initial.given.items l.given.items (view_of l.initial.mine.pass) (view_of l.mine.pass)
