use Rattle.amcheck.proofs.WaysLeft.{IsGoneSoFar}
use Rattle.amcheck.proofs.ways.find_leftmost.Given as goal

abbrev pub invariant-loop : goal.invariant-loop
invariant-loop l = IsGoneSoFar l.pages l.depth l.fn.seen l.seen l.block l.counter
