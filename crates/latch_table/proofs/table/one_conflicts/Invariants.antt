use Rattle.std.proofs.Common.{◌≡◌, drop}
use Rattle.latch_table.specs.Holdings.{others_exclude, is_held_by_another}
use Rattle.latch_table.proofs.table.one_conflicts.Given as goal

abbrev pub invariant-loop-number : goal.invariant-loop-number
invariant-loop-number l = is_held_by_another l.holdings l.session l.block l.mode ≡ others_exclude l.number (drop l.number l.holdings) l.session l.block l.mode
