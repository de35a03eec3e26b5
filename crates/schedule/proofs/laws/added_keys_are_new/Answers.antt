use Rattle.schedule.proofs.AddedKeys.{added_keys_are_new}
use Rattle.schedule.proofs.laws.added_keys_are_new.Goals as goal

pub returns : goal.returns
returns g c = added_keys_are_new g.S.PageStore
