use Rattle.schedule.proofs.Standing.{scans_stand}
use Rattle.schedule.proofs.laws.scans_stand_on_leaves.Goals as goal

pub returns : goal.returns
returns g c = scans_stand g.S.PageStore
