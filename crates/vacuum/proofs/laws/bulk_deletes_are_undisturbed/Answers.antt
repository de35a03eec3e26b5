use Rattle.vacuum.proofs.Lasting.{undisturbed}
use Rattle.vacuum.proofs.laws.bulk_deletes_are_undisturbed.Goals as goal

pub returns : goal.returns
returns c = undisturbed
