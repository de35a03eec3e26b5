use Rattle.std.proofs.Common.{◌∙◌, List, ℕ, drop, sym, subst, Some}
use Rattle.page_codec.proofs.Imports.{same_Some, IsEntry, Entry, Begins, row_bytes}
use Rattle.page_codec.proofs.Slots.{entry_of_parts, key_of_entry, row_of_entry}
use Rattle.page_codec.proofs.reading.entry.Goals as goal

pub returns-in_err-key-clause-only : goal.returns-in_err-key-clause-only
returns-in_err-key-clause-only c = λ e h b.
    let some = c.key_at.ensures.only e.key h.key (key_of_entry e c.args.bytes.now b) in
    let none = c.in_err-key.was in
    absurd cc

pub returns-in_err-row-clause-only : goal.returns-in_err-row-clause-only
returns-in_err-row-clause-only c = λ e h b.
    let some = c.row_at.ensures.only e.row h.row (rw c.tail.ensures.value (row_of_entry e c.args.bytes.now h b)) in
    let none = c.in_err-row.was in
    absurd cc

pub returns-clause-found : goal.returns-clause-found
returns-clause-found c =
    let e : Entry = record { key = c.in_ok-key.key; row = c.in_ok-row.row } in
    let valid : IsEntry e = record { key = c.in_ok-key.ensures.found.0; row = c.in_ok-row.ensures.found.0 } in
    let row : Begins (row_bytes (Some e.row)) (drop 65 c.args.bytes.now) = subst (λ (xs : List ℕ). Begins (row_bytes (Some e.row)) xs) c.tail.ensures.value c.in_ok-row.ensures.found.1 in
    (valid, entry_of_parts e c.args.bytes.now valid c.in_ok-key.ensures.found.1 row)

pub returns-clause-only : goal.returns-clause-only
returns-clause-only c = λ e h b.
    let key = c.key_at.ensures.only e.key h.key (key_of_entry e c.args.bytes.now b) in
    let row = c.row_at.ensures.only e.row h.row (rw c.tail.ensures.value (row_of_entry e c.args.bytes.now h b)) in
    let one = same_Some c.in_ok-key.key e.key (sym c.in_ok-key.was ∙ key) in
    let other = same_Some c.in_ok-row.row e.row (sym c.in_ok-row.was ∙ row) in
    λ i. Some (let x : Entry = record { key = one i; row = other i } in x)
