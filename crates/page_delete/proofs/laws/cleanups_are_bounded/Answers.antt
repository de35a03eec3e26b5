use Rattle.page_delete.proofs.Lasting.{cleanups_bounded}
use Rattle.page_delete.proofs.laws.cleanups_are_bounded.Goals as goal

pub returns : goal.returns
returns c = cleanups_bounded
