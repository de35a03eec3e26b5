use Rattle.schedule.proofs.Spent.{work_is_spent}
use Rattle.schedule.proofs.laws.work_is_spent.Goals as goal

pub returns : goal.returns
returns g c = work_is_spent g.S.PageStore
