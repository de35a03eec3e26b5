use Rattle.std.specs.Prelude.{length}
use Rattle.std.proofs.Common.{ap, sym, subst, ◌∙◌}
use Rattle.device.specs.Disk.{Trace}
use Rattle.recovery.specs.Index.{HasIndex}
use Rattle.nardsill.proofs.checking.opened.Goals as goal

-- the file is as long as it was, so what it held when it was opened is what the device began with
pub returns-in-Ok-open : goal.returns-in-Ok-open
returns-in-Ok-open g c =
    let seen = ap (λ (t : Trace). t.now.seen) c.in-Ok.ensures.held in
    let same = ap g.S.Start.bytes (c.in-Ok-open.ensures.len ∙ ap length seen ∙ g.S.Start.sized _) ∙ sym seen in
    λ honest format pages index.
    c.in-Ok-open.ensures.same honest c.in-Ok-open.ensures.frames format pages (subst (HasIndex format pages) same index)
