-- Which rows a call is to remove: a set, and the list of its rows, which the log keeps.
use Rattle.std.specs.Prelude.{◌≡◌, Bool, false, unwrap_or, List, map, filter, flat_map, slice_get}
use Rattle.std.specs.List.{range_with_len}
use Rattle.index_model.specs.Calls.{Ask, AskInsert, AskScan, AskBulkDelete, AskCleanup}
use Rattle.index_model.specs.Row.{Row, IsRow}
use Rattle.session_calls.specs.TheoremCalls.{DeadSets}
use Rattle.session_calls.specs.declared.request.Request.{Request}
use Rattle.session_calls.specs.declared.request.Request.TheVariants.{Insert as ToInsert, Scan as ToScan, Bulk as ToBulk, Cleanup as ToCleanup}
use Rattle.session_seats.specs.declared.job.Job.{Job}
use Rattle.session_seats.specs.declared.job.Job.TheVariants.{Bulk}

-- all addresses of rows, in order: blocks 0 to 4294967294, with offsets 1 to 65535 each
unfoldable pub all_rows : List Row
all_rows = flat_map (λ block. map (λ offset. record { block = block; offset = offset }) (range_with_len 1 65535)) (range_with_len 0 4294967295)

-- the rows of a set, in order
unfoldable pub rows_in : (Row → Bool) → List Row
rows_in set = filter set all_rows

-- two sets with the same rows agree on the address of each row
abbrev pub RowsTellSets : Type 0
RowsTellSets = (a b : Row → Bool) → rows_in a ≡ rows_in b → (row : Row) → IsRow row → a row ≡ b row

-- the set that a job is to remove, with these sets: of a bulk delete that at its place; beyond the last one,
-- and of other jobs, one without rows
abbrev pub set_asked : DeadSets → Job → Row → Bool
set_asked sets (Bulk set) = unwrap_or (slice_get sets set) (λ row. false)
set_asked sets job = λ row. false

-- what a request asks that is to remove this set, if it removes any
abbrev pub asked_with : (Row → Bool) → Request → Ask
asked_with set (ToInsert e) = AskInsert e
asked_with set (ToScan range) = AskScan range
asked_with set (ToBulk at) = AskBulkDelete set
asked_with set ToCleanup = AskCleanup
