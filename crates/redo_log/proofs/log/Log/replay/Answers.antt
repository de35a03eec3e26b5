use Rattle.std.proofs.Common.{sym, subst}
use Rattle.device.specs.Disk.{Trace}
use Rattle.redo_log.proofs.Imports.{SpellsGroups, log_range}
use Rattle.redo_log.proofs.log.Log.replay.Goals as goal

pub returns-then-branch-clause-damaged : goal.returns-then-branch-clause-damaged
returns-then-branch-clause-damaged g c = λ damaged honest groups spells.
    c.replay_range.ensures.damaged damaged honest groups
    (subst (λ (t : Trace). SpellsGroups c.args.format (log_range c.args.format t.now.seen) groups) (sym c.in_ok-is_gate_open.ensures.trace) spells)
