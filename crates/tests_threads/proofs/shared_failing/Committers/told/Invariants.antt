use Rattle.std.proofs.Common.{◌≡◌}
use Rattle.tests_threads.proofs.shared_failing.Committers.told.Given as goal

abbrev pub invariant-loop-place : goal.invariant-loop-place
invariant-loop-place g l = g.K.PlainSession.number l.session ≡ g.K.PlainSession.number l.initial.session
