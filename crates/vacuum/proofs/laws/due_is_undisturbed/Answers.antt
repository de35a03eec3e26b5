use Rattle.vacuum.proofs.Lasting.{due_undisturbed}
use Rattle.vacuum.proofs.laws.due_is_undisturbed.Goals as goal

pub returns : goal.returns
returns c = due_undisturbed
