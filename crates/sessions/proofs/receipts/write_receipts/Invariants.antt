use Rattle.std.proofs.Common.{◌≡◌, ◌<◌, ℕ, Some, slice_get, take, vec_len}
use Rattle.std.specs.List.{sum}
use Rattle.sessions.proofs.Imports.{receipt_of, records_of, Record}
use Rattle.sessions.proofs.receipts.write_receipts.Given as goal

abbrev pub invariant-loop-place : goal.invariant-loop-place
invariant-loop-place l =
    (vec_len l.receipts ≡ vec_len l.initial.receipts) × (vec_len l.calls ≡ vec_len l.initial.calls)
    × ((p : ℕ) (r : Record) → p < l.place → slice_get l.history p ≡ Some r → slice_get l.receipts.items r.job ≡ Some (receipt_of p r))
    × ((worker : ℕ) → worker < vec_len l.initial.calls → slice_get l.calls.items worker ≡ Some (records_of worker (take l.place l.history)))
    × (sum l.calls.items ≡ l.place)
