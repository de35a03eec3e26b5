use Rattle.std.proofs.Common.{◌≡◌, ◌+◌, ◌≤◌, ◌++◌, drop, length}
use Rattle.std.specs.List.{filter}
use Rattle.vacuum.specs.Ops.{lives}
use Rattle.vacuum.proofs.leaf.live_ones.Given as goal

abbrev pub invariant-loop-entry : goal.invariant-loop-entry
invariant-loop-entry g l = record {
  kept : l.kept.items ++ filter (lives (g.T.DeadRows.is_in l.dead)) (drop l.entry-index l.entries) ≡ filter (lives (g.T.DeadRows.is_in l.dead)) l.entries;
  few : length l.kept.items + length (drop l.entry-index l.entries) ≤ length l.entries;
}
