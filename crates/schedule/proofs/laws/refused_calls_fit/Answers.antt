use Rattle.schedule.proofs.CallLists.{refused_calls_fit}
use Rattle.schedule.proofs.laws.refused_calls_fit.Goals as goal

pub returns : goal.returns
returns g c = refused_calls_fit g.S.PageStore
