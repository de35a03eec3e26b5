use Rattle.std.proofs.Common.{subst}
use Rattle.recovery.proofs.Imports.{OnOk, Format, CrashesToEmpty}
use Rattle.recovery.proofs.Creating.{on_ok}
use Rattle.recovery.proofs.Emptying.{fresh_leaves}
use Rattle.recovery.proofs.creation.create.Goals as goal

pub returns-clause-own : goal.returns-clause-own
returns-clause-own g c =
    let device = (g.D.Device.trace c.write_index.new.device).now in
    let leaves = on_ok _ _ c.write_index.result (fresh_leaves c.new-format.result (c.are_valid.ensures.0 c.if-not-are_valid.false) device) c.write_index.ensures.made in
    subst (λ (format : Format). OnOk c.write_index.result (CrashesToEmpty format device)) c.new-format.ensures leaves
