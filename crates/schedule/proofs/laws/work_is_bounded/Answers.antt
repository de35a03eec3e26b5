use Rattle.schedule.proofs.Bounds.{work_bounded}
use Rattle.schedule.proofs.laws.work_is_bounded.Goals as goal

pub returns : goal.returns
returns g c = work_bounded g.S.PageStore
