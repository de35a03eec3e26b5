use Rattle.std.proofs.Common.{ℕ, ◌<◌}
use Rattle.amcheck.specs.Levels.{IsNotMet}
use Rattle.amcheck.proofs.strays.find_stray.Given as goal

abbrev pub invariant-loop-block : goal.invariant-loop-block
invariant-loop-block l = (b : ℕ) → b < l.block → IsNotMet l.pages l.met.blocks.items b → ⊥
