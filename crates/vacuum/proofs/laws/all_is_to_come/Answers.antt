use Rattle.vacuum.proofs.Lasting.{all_to_come}
use Rattle.vacuum.proofs.laws.all_is_to_come.Goals as goal

pub returns : goal.returns
returns c = all_to_come
