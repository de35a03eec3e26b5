use Rattle.std.proofs.Common.{◌∙◌, ap}
use Rattle.page_store.specs.Following.{follows_same}
use Rattle.command_line.specs.Copying.{limits_of_copy}
use Rattle.command_line.proofs.CopiedFiles.{copy_from_file}
use Rattle.command_line.proofs.Imports.{Limits}
use Rattle.command_line.proofs.Looked.{opening_refused}
use Rattle.command_line.proofs.copying.copy.Goals as goal

pub returns-in-Ok-clause-copied : goal.returns-in-Ok-clause-copied
returns-in-Ok-clause-copied g c =
    let copy = c.copy_to_file-copied in
    let first = c.in-Ok.index in
    let followed = copy.ensures.from_steps first.store (follows_same _) in
    copy_from_file _ _ _ _ c.args.asked.now.sizes c.limits-limits.result first copy.new.from c.in-Ok.ensures.begins (λ honest. followed.later.honest honest)
    (c.limits-limits.ensures ∙ ap (λ (l : Limits). limits_of_copy c.args.asked.now.sizes l) c.info.ensures.limits) followed copy.result copy.ensures.allowed copy.ensures.holds copy.ensures.refused

pub returns-in-Err-clause-refused : goal.returns-in-Err-clause-refused
returns-in-Err-clause-refused g c fault is =
    opening_refused _ _ _ _ c.in-Err.field-0.fault fault c.in-Err.field-0.device (let h = is in cc) c.in-Err.ensures.cause c.in-Err.ensures.untaken
