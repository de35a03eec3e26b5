use Rattle.page_delete.proofs.Lasting.{undisturbed}
use Rattle.page_delete.proofs.laws.cleanups_are_undisturbed.Goals as goal

pub returns : goal.returns
returns c = undisturbed
