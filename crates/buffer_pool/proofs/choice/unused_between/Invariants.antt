use Rattle.std.proofs.Common.{◌≡◌, length}
use Rattle.buffer_pool.proofs.choice.unused_between.Given as goal

abbrev pub invariant-loop-at : goal.invariant-loop-at
invariant-loop-at l = length l.looked ≡ length l.fn.looked
