use Rattle.std.proofs.Common.{◌≡◌, ◌+◌, IsTrue}
use Rattle.std.specs.BTreeSet.{btree_set_len, contains}
use Rattle.index_model.specs.Order.{row_cmp}
use Rattle.index_model.specs.Row.{Row}
use Rattle.access_method.proofs.rows.RowSet.forget.Given as goal

abbrev pub invariant-loop : goal.invariant-loop
invariant-loop l =
    (btree_set_len l.rows + l.counter ≡ btree_set_len l.initial.rows)
    × ((row : Row) → IsTrue (contains row_cmp l.rows row) → IsTrue (contains row_cmp l.initial.rows row))
