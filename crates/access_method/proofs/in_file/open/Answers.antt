use Rattle.std.specs.Prelude.{length}
use Rattle.std.proofs.Common.{ap, sym, subst, ◌∙◌}
use Rattle.access_method.proofs.Imports.{Trace, HasIndex}
use Rattle.access_method.proofs.Opened.{not_opened_is, told_not_opened}
use Rattle.access_method.proofs.in_file.open.Goals as goal

-- the file is as long as it was, so what it held when it was opened is what the device began with
pub returns-in-Ok-open-clause-begins : goal.returns-in-Ok-open-clause-begins
returns-in-Ok-open-clause-begins g c =
    let seen = ap (λ (t : Trace). t.now.seen) c.in-Ok.ensures.held in
    let same = ap g.S.Start.bytes (c.in-Ok-open.ensures.len ∙ ap length seen ∙ g.S.Start.sized _) ∙ sym seen in
    λ honest format pages index tree.
    c.in-Ok-open.ensures.begins honest c.in-Ok-open.ensures.range format pages (subst (HasIndex format pages) same index) tree

pub returns-in-Err-open-clause-cause : goal.returns-in-Err-open-clause-cause
returns-in-Err-open-clause-cause g c =
    told_not_opened _ _ g.S.Start.bytes _ c.in-Err-open.refused.device c.in-Err-open.refused.fault _ _ c.not_opened.ensures.fault c.not_opened.ensures.device
    (not_opened_is _ _ g.S.Start.bytes g.S.Start.sized _ _ c.in-Ok.device _ _ c.in-Ok.ensures.held c.in-Ok.ensures.failures
    c.in-Err-open.ensures.len c.in-Err-open.ensures.cause c.in-Err-open.ensures.begins)
