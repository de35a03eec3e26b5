use Rattle.scan.proofs.Lasting.{bounded_at_each_moment}
use Rattle.scan.proofs.laws.scans_are_bounded.Goals as goal

pub returns : goal.returns
returns c = bounded_at_each_moment
