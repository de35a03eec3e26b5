use Rattle.schedule.proofs.Spans.{calls_come_in_time}
use Rattle.schedule.proofs.laws.calls_come_in_time.Goals as goal

pub returns : goal.returns
returns g c = calls_come_in_time g.S.PageStore
