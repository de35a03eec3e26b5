use Rattle.std.proofs.Common.{◌≡◌, ◌++◌, take, vec_capacity}
use Rattle.amcheck.proofs.chain_damages.keep.Given as goal

abbrev pub invariant-loop-stop : goal.invariant-loop-stop
invariant-loop-stop l = record {
  kept : l.chains.items ≡ l.fn.chains.items ++ take l.stop-index l.stops;
  room : vec_capacity l.chains ≡ vec_capacity l.fn.chains;
}
