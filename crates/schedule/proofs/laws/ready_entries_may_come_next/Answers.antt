use Rattle.schedule.proofs.Ready.{ready_may_come_next}
use Rattle.schedule.proofs.laws.ready_entries_may_come_next.Goals as goal

pub returns : goal.returns
returns g c = ready_may_come_next g.S.PageStore
