use Rattle.std.proofs.Common.{ap, ◌∙◌}
use Rattle.page_delete.proofs.Imports.{Page, same_page, slice_get_within}
use Rattle.page_delete.proofs.Trying.{same_link}
use Rattle.page_delete.proofs.judging.left_is_whole.Goals as goal

pub returns-in-Ok-2-clause-cause : goal.returns-in-Ok-2-clause-cause
returns-in-Ok-2-clause-cause g c honest room links one other =
    let l = links c.in-Some.left c.in-Some.is in
    let s = c.in-Ok.ensures.seen honest in
    let same = same_page _ c.in-Some.left s.page l.page s.found l.found in
    c.if-eq.ensures ∙ same_link c.in-Ok.seen.right c.args.leaf.now.block (s.right_is ∙ ap (λ (p : Page). p.right) same ∙ l.links)

pub returns-in-Err-clause-cause : goal.returns-in-Err-clause-cause
returns-in-Err-clause-cause g c honest room links one other =
    let l = links c.in-Some.left c.in-Some.is in
    c.in-Err.ensures.cause honest room (slice_get_within _ c.in-Some.left l.page l.found) one other
