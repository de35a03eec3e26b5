use Rattle.tree_acts.proofs.Uniques.{key_shows, free_key_shows, unique_shows}
use Rattle.tree_acts.proofs.Keyed.{keyed_shows}
use Rattle.tree_acts.proofs.laws.unique_indexes_tell.Goals as goal

pub returns-clause-leaf : goal.returns-clause-leaf
returns-clause-leaf c = key_shows

pub returns-clause-free : goal.returns-clause-free
returns-clause-free c = free_key_shows

pub returns-clause-keys : goal.returns-clause-keys
returns-clause-keys c = unique_shows

pub returns-clause-keyed : goal.returns-clause-keyed
returns-clause-keyed c = keyed_shows
