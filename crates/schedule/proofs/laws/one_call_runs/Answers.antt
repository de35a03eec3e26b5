use Rattle.schedule.proofs.CallLists.{one_call_runs}
use Rattle.schedule.proofs.laws.one_call_runs.Goals as goal

pub returns : goal.returns
returns g c = one_call_runs g.S.PageStore
