use Rattle.page_delete.proofs.judging.right_is_live.Goals as goal
use Rattle.page_delete.proofs.Imports.{slice_get_within}

pub returns-in-Err-clause-cause : goal.returns-in-Err-clause-cause
returns-in-Err-clause-cause g c honest room links one other = c.in-Err.ensures.cause honest room (slice_get_within _ c.args.right links.page links.found) one other
