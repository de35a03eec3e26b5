use Rattle.insert_split.proofs.Lasting.{bounded}
use Rattle.insert_split.proofs.laws.fresh_inserts_are_bounded.Goals as goal

pub returns : goal.returns
returns c = bounded
