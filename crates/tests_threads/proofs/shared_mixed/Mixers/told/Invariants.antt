use Rattle.std.proofs.Common.{◌≡◌}
use Rattle.tests_threads.proofs.shared_mixed.Mixers.told.Given as goal

abbrev pub invariant-loop-turn : goal.invariant-loop-turn
invariant-loop-turn g l = g.K.PlainSession.number l.session ≡ g.K.PlainSession.number l.initial.session
