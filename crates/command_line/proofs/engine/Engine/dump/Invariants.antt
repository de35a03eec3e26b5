use Rattle.std.proofs.Common.{◌≡◌}
use Rattle.command_line.proofs.engine.Engine.dump.Given as goal

abbrev pub invariant-loop-block : goal.invariant-loop-block
invariant-loop-block g l = l.self.setting ≡ l.fn.self.setting
