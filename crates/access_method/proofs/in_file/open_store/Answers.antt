use Rattle.std.specs.Prelude.{length}
use Rattle.std.proofs.Common.{ap, sym, subst, ◌∙◌}
use Rattle.access_method.proofs.Imports.{Trace, HasIndex}
use Rattle.access_method.proofs.Opened.{open_fault, not_opened_is, told_not_opened}
use Rattle.access_method.specs.Files.{IsOpenFault}
use Rattle.access_method.proofs.in_file.open_store.Goals as goal

-- the file is as long as it was, so what it held when it was opened is what the device began with
pub returns-in-Ok-open-clause-same : goal.returns-in-Ok-open-clause-same
returns-in-Ok-open-clause-same g c =
    let seen = ap (λ (t : Trace). t.now.seen) c.in-Ok.ensures.held in
    let same = ap g.S.Start.bytes (c.in-Ok-open.ensures.len ∙ ap length seen ∙ g.S.Start.sized _) ∙ sym seen in
    λ honest format pages index.
    c.in-Ok-open.ensures.same honest c.in-Ok-open.ensures.frames format pages (subst (HasIndex format pages) same index)

pub returns-in-Err-open-clause-cause : goal.returns-in-Err-open-clause-cause
returns-in-Err-open-clause-cause g c =
    told_not_opened _ _ g.S.Start.bytes _ c.in-Err-open.refused.device c.in-Err-open.refused.fault _ _ c.not_opened.ensures.fault c.not_opened.ensures.device
    (not_opened_is _ _ g.S.Start.bytes g.S.Start.sized _ _ c.in-Ok.device _ _ c.in-Ok.ensures.held c.in-Ok.ensures.failures
    c.in-Err-open.ensures.len c.in-Err-open.ensures.cause
    (λ honest allowed format pages index any. c.in-Err-open.ensures.same honest allowed format pages index))

pub returns-in-Err-open-clause-fault : goal.returns-in-Err-open-clause-fault
returns-in-Err-open-clause-fault g c =
    subst IsOpenFault (sym c.not_opened.ensures.fault) (open_fault _ _ _ _ _ _ _ c.in-Err-open.ensures.cause)
