use Rattle.schedule.proofs.Spans.{lows_stay}
use Rattle.schedule.proofs.laws.lows_stay.Goals as goal

pub returns : goal.returns
returns g c = lows_stay g.S.PageStore
