use Rattle.std.proofs.Common.{◌≡◌}
use Rattle.tests_threads.proofs.shared_mixed.Mixers.scan.Given as goal

abbrev pub invariant-loop-batches : goal.invariant-loop-batches
invariant-loop-batches g l = g.K.PlainSession.number l.session ≡ g.K.PlainSession.number l.initial.session
