use Rattle.std.proofs.Common.{◌≡◌, length}
use Rattle.command_line.proofs.play.run.Given as goal

abbrev pub decreases-loop-rest : goal.decreases-loop-rest
decreases-loop-rest g l = length l.rest

abbrev pub invariant-loop-rest : goal.invariant-loop-rest
invariant-loop-rest g l = l.engine.setting ≡ l.fn.engine.setting
