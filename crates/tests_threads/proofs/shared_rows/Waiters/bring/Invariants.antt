use Rattle.std.proofs.Common.{◌≡◌}
use Rattle.tests_threads.proofs.shared_rows.Waiters.bring.Given as goal

abbrev pub invariant-loop : goal.invariant-loop
invariant-loop g l = g.K.PlainSession.number l.session ≡ g.K.PlainSession.number l.initial.session
