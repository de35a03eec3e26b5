use Rattle.session_calls.proofs.Vacuuming.{deletions_undisturbed}
use Rattle.session_calls.proofs.stable.deletions_are_undisturbed.Goals as goal

pub returns : goal.returns
returns c = deletions_undisturbed
