use Rattle.std.proofs.Common.{◌≡◌, Bool, refl, sym, ◌∙◌}
use Rattle.latch_table.specs.Holdings.{latches_exclude}
use Rattle.latch_table.proofs.Scans.{latches_exclude-list_any, has_pin-list_any, pins_exclude-other}
use Rattle.latch_table.proofs.held.Held.excludes.Goals.{After-latch_excludes}
use Rattle.latch_table.proofs.held.Held.excludes.Goals as goal

-- what was answered of the latches
latches_tested : (c : After-latch_excludes) (test : Bool) → c.latch_excludes.result ≡ test
    → latches_exclude c.self.inside.latches.items c.args.block c.args.asked ≡ test
latches_tested c test is =
    rw (latches_exclude-list_any c.self.inside.latches.items c.args.block c.args.asked, ← c.as_slice.ensures.value) (sym c.latch_excludes.ensures ∙ is)

pub returns-then-latch_excludes : goal.returns-then-latch_excludes
returns-then-latch_excludes c =
    rw (← c.self.view_is, latches_tested (goal.at.returns-then-latch_excludes c).After-latch_excludes _ c.if-latch_excludes.true) refl

pub returns-in-Cleanup : goal.returns-in-Cleanup
returns-in-Cleanup c =
    rw (
      ← c.self.view_is,
      latches_tested (goal.at.returns-in-Cleanup c).After-latch_excludes _ c.if-latch_excludes.false,
      c.in-Cleanup.is,
      has_pin-list_any c.self.inside.pins.items c.args.block,
      ← c.as_slice-in-Cleanup.ensures.value,
    ) c.has_pin.ensures

pub returns-in_default : goal.returns-in_default
returns-in_default c =
    rw (
      ← c.self.view_is,
      latches_tested (goal.at.returns-in_default c).After-latch_excludes _ c.if-latch_excludes.false,
      pins_exclude-other c.self.inside.pins.items c.args.block c.args.asked c.in_default.not-Cleanup,
    ) refl
