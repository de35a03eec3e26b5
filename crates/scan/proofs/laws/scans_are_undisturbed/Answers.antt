use Rattle.scan.proofs.Lasting.{undisturbed}
use Rattle.scan.proofs.laws.scans_are_undisturbed.Goals as goal

pub returns : goal.returns
returns c = undisturbed
