use Rattle.page_delete.proofs.Cleaning.{nothing_cleaned}
use Rattle.page_delete.proofs.Sparing.{nothing_spared}
use Rattle.page_delete.proofs.laws.nothing_is_cleaned.Goals as goal

pub returns-clause-counts : goal.returns-clause-counts
returns-clause-counts c = nothing_cleaned

pub returns-clause-spares : goal.returns-clause-spares
returns-clause-spares c = nothing_spared
