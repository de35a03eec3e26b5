use Rattle.session_calls.proofs.Bounds.{calls_bounded}
use Rattle.session_calls.proofs.bounded.calls_are_bounded.Goals as goal

pub returns : goal.returns
returns c = calls_bounded
