use Rattle.std.proofs.Common.{◌≡◌, ◌*◌, drop}
use Rattle.index_model.proofs.Imports.{slice_cmp, nat_cmp}
use Rattle.index_model.proofs.key.order_of_cells.Given as goal

abbrev pub invariant-loop-at : goal.invariant-loop-at
invariant-loop-at l = record {
  rest : slice_cmp nat_cmp l.cells l.others ≡ slice_cmp nat_cmp (drop (8 * l.at) l.cells) (drop (8 * l.at) l.others);
}
