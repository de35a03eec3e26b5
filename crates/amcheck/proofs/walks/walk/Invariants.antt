use Rattle.std.proofs.Common.{◌≡◌, vec_capacity}
use Rattle.amcheck.proofs.Walked.{HasWalked}
use Rattle.amcheck.proofs.walks.walk.Given as goal

abbrev pub invariant-loop : goal.invariant-loop
invariant-loop l = record {
  walked : HasWalked l.pages l.depth l.fn.met.blocks.items l.met l.stops.items l.stop l.counter;
  room : vec_capacity l.stops ≡ vec_capacity l.fn.stops;
}
