use Rattle.scan.proofs.Lasting.{bounded}
use Rattle.scan.proofs.laws.fresh_scans_are_bounded.Goals as goal

pub returns : goal.returns
returns c = bounded
