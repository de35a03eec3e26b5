use Rattle.schedule.proofs.Staying.{same_state_fits}
use Rattle.schedule.proofs.laws.same_state_fits.Goals as goal

pub returns : goal.returns
returns g c = same_state_fits g.S.PageStore g.met.S.PageStore.laws
