use Rattle.std.proofs.Common.{refl, ◌==◌}
use Rattle.latch_table.proofs.Scans.{without_latch-without, without-none}
use Rattle.latch_table.proofs.held.Held.release.Goals as goal

pub returns-in_default : goal.returns-in_default
returns-in_default c =
    rw (
      ← c.self.view_is,
      without_latch-without c.self.inside.latches.items c.args.block,
      without-none (λ held. held.block == c.args.block) c.self.inside.latches.items (rw (← c.as_slice.ensures.value, ← c.latch_of.ensures) c.in_default.is),
    ) refl
