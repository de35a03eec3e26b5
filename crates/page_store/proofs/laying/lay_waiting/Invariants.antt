use Rattle.std.proofs.Common.{◌-◌, ◌≡◌, ◌<◌}
use Rattle.std.specs.Prelude.{IfSome, IfNone, slice_index}
use Rattle.redo_log.specs.Kept.{IsLaid, WaitsAlike, laid_count, waiting_blocks, waiting_count}
use Rattle.page_store.proofs.laying.lay_waiting.Given as goal

abbrev pub invariant-loop-next : goal.invariant-loop-next
invariant-loop-next l = record {
  waits : WaitsAlike l.fn.log l.log;
  some : IfSome l.next (λ block. (laid_count l.log < waiting_count l.log) × (slice_index (waiting_blocks l.log) (laid_count l.log) ≡ block));
  none : IfNone l.next (IsLaid l.log);
}

abbrev pub decreases-loop-next : goal.decreases-loop-next
decreases-loop-next l = waiting_count l.log - laid_count l.log
