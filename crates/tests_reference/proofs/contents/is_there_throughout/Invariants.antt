use Rattle.std.proofs.Common.{true}
use Rattle.tests_reference.proofs.Imports.{is_among, is_there_after, history_of}
use Rattle.tests_reference.proofs.Moments.{IsSoFar}
use Rattle.tests_reference.proofs.contents.is_there_throughout.Given as goal

abbrev pub invariant-loop-k : goal.invariant-loop-k
invariant-loop-k l = IsSoFar (λ j. is_there_after (is_among l.start) (history_of l.history) j l.entry) true l.began l.k
