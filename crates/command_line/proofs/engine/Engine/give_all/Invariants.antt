use Rattle.std.proofs.Common.{◌≡◌}
use Rattle.command_line.proofs.engine.Engine.give_all.Given as goal

abbrev pub invariant-loop : goal.invariant-loop
invariant-loop g l = l.self.setting ≡ l.fn.self.setting
