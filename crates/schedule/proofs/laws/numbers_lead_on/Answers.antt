use Rattle.schedule.proofs.Numbers.{numbers_lead_on}
use Rattle.schedule.proofs.laws.numbers_lead_on.Goals as goal

pub returns : goal.returns
returns g c = numbers_lead_on g.S.PageStore
