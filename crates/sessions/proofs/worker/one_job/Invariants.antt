use Rattle.std.proofs.Common.{◌≡◌}
use Rattle.sessions.proofs.Imports.{known_by, SeatMeans}
use Rattle.sessions.proofs.worker.one_job.Given as goal

abbrev pub invariant-loop : goal.invariant-loop
invariant-loop g l = (l.mine.worker ≡ l.fn.seat.worker) × SeatMeans l.job l.at (known_by l.fn.seat.pass) (known_by l.mine.pass)
