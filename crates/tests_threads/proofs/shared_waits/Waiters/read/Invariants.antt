use Rattle.std.proofs.Common.{◌≡◌}
use Rattle.tests_threads.proofs.shared_waits.Waiters.read.Given as goal

abbrev pub invariant-loop-number : goal.invariant-loop-number
invariant-loop-number g l = g.K.PlainSession.number l.session ≡ g.K.PlainSession.number l.initial.session
