use Rattle.insert_split.proofs.Lasting.{bounded_at_each_moment}
use Rattle.insert_split.proofs.laws.inserts_are_bounded.Goals as goal

pub returns : goal.returns
returns c = bounded_at_each_moment
