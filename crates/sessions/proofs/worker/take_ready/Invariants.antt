use Rattle.std.proofs.Common.{◌≡◌}
use Rattle.sessions.proofs.Imports.{known_by, SitsOn}
use Rattle.sessions.proofs.worker.take_ready.Given as goal

abbrev pub invariant-loop : goal.invariant-loop
invariant-loop g l = (l.mine.worker ≡ l.fn.seat.worker) × SitsOn l.job (known_by l.fn.seat.pass) (known_by l.mine.pass)
