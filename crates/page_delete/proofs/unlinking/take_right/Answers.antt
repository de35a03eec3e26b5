use Rattle.std.proofs.Common.{false}
use Rattle.page_delete.proofs.Imports.{frames_for, frames_some, slice_get_within}
use Rattle.page_delete.proofs.unlinking.take_right.Goals as goal

pub returns-in-Err-clause-cause : goal.returns-in-Err-clause-cause
returns-in-Err-clause-cause g c honest room l written = c.in-Err.ensures.cause honest room (slice_get_within _ c.args.block l.page l.found) written (frames_for written) false false (frames_some written)
