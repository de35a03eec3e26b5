use Rattle.std.proofs.Common.{ℕ, ◌<◌}
use Rattle.amcheck.proofs.Imports.{nodes_of, IsBad}
use Rattle.amcheck.proofs.bad_places.find_bad_one.Given as goal

abbrev pub invariant-loop-place : goal.invariant-loop-place
invariant-loop-place l = (j : ℕ) → j < l.place → IsBad (nodes_of l.pages) l.keys l.root l.stops j → ⊥
