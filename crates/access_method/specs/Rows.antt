-- Rows that are named one by one.
use Rattle.std.specs.Prelude.{ℕ, Bool, false, Option, Some, None}
use Rattle.std.specs.Ordering.{is_eq}
use Rattle.std.specs.BTreeSet.{BTreeSet, btree_set_len, contains}
use Rattle.index_model.specs.Order.{row_cmp}
use Rattle.index_model.specs.Row.{Row}
use Rattle.access_method.specs.declared.rows.RowSet.{RowSet}

-- the two are one row
abbrev pub same_row : Row → Row → Bool
same_row a b = is_eq (row_cmp a b)

abbrev pub is_in_set : Option (BTreeSet Row) → Row → Bool
is_in_set None row = false
is_in_set (Some rows) row = contains row_cmp rows row

-- the row is one of those that were named
abbrev pub is_row_in : RowSet → Row → Bool
is_row_in set row = is_in_set set.rows row

abbrev pub count_in_set : Option (BTreeSet Row) → ℕ
count_in_set None = 0
count_in_set (Some rows) = btree_set_len rows

-- how many rows were named
abbrev pub row_count : RowSet → ℕ
row_count set = count_in_set set.rows
