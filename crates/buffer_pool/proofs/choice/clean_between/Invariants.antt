use Rattle.std.proofs.Common.{◌≡◌, ◌<◌, ◌≤◌, ℕ, true, get_or}
use Rattle.buffer_pool.specs.Frames.{has_block, blocks_in}
use Rattle.buffer_pool.proofs.choice.clean_between.Given as goal

abbrev pub invariant-loop-at : goal.invariant-loop-at
invariant-loop-at l = (k : ℕ) → l.from ≤ k → k < l.at → get_or l.acts k 0 ≡ 0 → has_block l.pinned (get_or (blocks_in l.pages) k 0) ≡ true
