use Rattle.schedule.proofs.Flags.{splits_are_finished}
use Rattle.schedule.proofs.laws.splits_are_finished.Goals as goal

pub returns : goal.returns
returns g c = splits_are_finished g.S.PageStore
