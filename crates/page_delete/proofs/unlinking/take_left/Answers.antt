use Rattle.std.proofs.Common.{false, ap, ◌∙◌}
use Rattle.page_delete.proofs.Imports.{Page, frames_for, frames_some, same_page, slice_get_within}
use Rattle.page_delete.proofs.Trying.{same_link}
use Rattle.page_delete.proofs.unlinking.take_left.Goals as goal

pub returns-in-Ok-2-clause-cause : goal.returns-in-Ok-2-clause-cause
returns-in-Ok-2-clause-cause g c honest room links written =
    let l = links c.in-Some.block c.in-Some.is in
    let same = same_page _ c.in-Some.block c.in-Ok.left l.page (c.in-Ok.ensures.page honest) l.found in
    c.if-eq.ensures ∙ same_link c.in-Ok.left.right c.args.page.now.block (ap (λ (p : Page). p.right) same ∙ l.links)

pub returns-in-Err-clause-cause : goal.returns-in-Err-clause-cause
returns-in-Err-clause-cause g c honest room links written =
    let l = links c.in-Some.block c.in-Some.is in
    c.in-Err.ensures.cause honest room (slice_get_within _ c.in-Some.block l.page l.found) written (frames_for written) false false (frames_some written)
