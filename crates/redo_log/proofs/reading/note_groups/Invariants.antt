use Rattle.std.proofs.Common.{◌-◌, length}
use Rattle.redo_log.proofs.Noting.{GroupsNoted}
use Rattle.redo_log.proofs.reading.note_groups.Given as goal

abbrev pub invariant-loop-at : goal.invariant-loop-at
invariant-loop-at l = GroupsNoted l.format l.log l.at l.lasts

abbrev pub decreases-loop-at : goal.decreases-loop-at
decreases-loop-at l = length l.log - l.at
