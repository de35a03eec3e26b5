use Rattle.std.proofs.Common.{◌≡◌, ◌≤◌}
use Rattle.vacuum.specs.Counts.{deleted_count, free_count}
use Rattle.vacuum.proofs.counts.count_deleted.Given as goal

abbrev pub invariant-loop-block : goal.invariant-loop-block
invariant-loop-block g l = record {
  deleted : l.deleted ≡ deleted_count (g.S.PageStore.state l.store) l.block;
  free : l.free ≡ free_count (g.S.PageStore.state l.store) l.session l.block;
  few : l.deleted ≤ l.block;
  fewer : l.free ≤ l.block;
}
