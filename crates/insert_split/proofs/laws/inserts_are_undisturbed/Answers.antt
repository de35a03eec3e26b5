use Rattle.insert_split.proofs.Lasting.{undisturbed}
use Rattle.insert_split.proofs.laws.inserts_are_undisturbed.Goals as goal

pub returns : goal.returns
returns c = undisturbed
