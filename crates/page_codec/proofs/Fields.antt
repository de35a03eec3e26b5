-- What bytes are read as, field by field, where each field is tested as little as it can be: with it, two
-- pages of the same bytes are one.
use Rattle.std.specs.Prelude.{ℕ, zero, suc, ◌%◌, ◌==◌, if◌then◌else◌, nat_lt, Option, Some, None, List, [], ◌∷◌, take, drop, slice_index}
use Rattle.page_codec.proofs.Imports.{little_number, Entry, Bound, Layout, One, Two, PageState, Live, HalfDead, Deleted, Downlink, Items, Meta, Entries, Downlinks, Page}

infixl 10 ◌>>=◌
-- what the second reads after the first, if both read something
abbrev pub ◌>>=◌ : {A B : Type 0} → Option A → (A → Option B) → Option B
None >>= f = None
(Some x) >>= f = f x

-- no bound, if the offset and the length of the key are 0; the place before all rows of a key, if the
-- offset alone is
abbrev pub slot_from : ℕ → ℕ → ℕ → List ℕ → Option (Option Bound)
slot_from len block offset key =
    if nat_lt 64 len then None
    else if offset == 0
    then (if len == 0 then Some None else Some (Some (record { key = key; row = None })))
    else if block == 4294967295 then None
    else Some (Some (record { key = key; row = Some (record { block = block; offset = offset }) }))

-- the bound in the first 71 bytes, or none
unfoldable pub slot_at : List ℕ → Option (Option Bound)
slot_at bytes =
    slot_from
    (slice_index bytes 0)
    (little_number 4 (drop 65 bytes))
    (little_number 2 (drop 69 bytes))
    (take (slice_index bytes 0) (drop 1 bytes))

-- the entry that a bound with a row is
abbrev pub whole : Bound → Option Entry
whole b = b.row >>= λ r. Some (record { key = b.key; row = r })

-- the entry in the first 71 bytes
unfoldable pub entry_at : List ℕ → Option Entry
entry_at bytes = slot_at bytes >>= λ b. b >>= λ w. whole w

-- the downlink in the first 75 bytes
unfoldable pub downlink_at : List ℕ → Option Downlink
downlink_at bytes =
    slot_at bytes >>= λ b. Some (record { bound = b; child = little_number 4 (drop 71 bytes) })

-- a number of items, each in as many bytes as the next number says
unfoldable pub items_at : {A : Type 0} → (List ℕ → Option A) → ℕ → ℕ → List ℕ → Option (List A)
items_at item width zero bytes = Some []
items_at item width (suc n) bytes =
    item bytes >>= λ x. items_at item width n (drop width bytes) >>= λ xs. Some (x ∷ xs)

-- `count` items of the kind that this byte names
unfoldable pub items_of : ℕ → ℕ → List ℕ → Option Items
items_of kind count bytes =
    if nat_lt 50 count then None
    else if kind == 1 then Some Meta
    else if kind == 2
    then (items_at entry_at 71 count bytes >>= λ es. Some (Entries (record { items = es })))
    else if kind == 3
    then (items_at downlink_at 75 count bytes >>= λ ds. Some (Downlinks (record { items = ds })))
    else None

-- the layout that a byte names
abbrev pub layout_at : ℕ → Option Layout
layout_at byte = if byte == 49 then Some One else if byte == 50 then Some Two else None

-- the state that a byte names
abbrev pub state_at : ℕ → Option PageState
state_at byte =
    if byte == 0 then Some Live
    else if byte == 1 then Some HalfDead
    else if byte == 2 then Some Deleted
    else None

-- the link that a number is
abbrev pub link_at : ℕ → Option ℕ
link_at n = if n == 4294967295 then None else Some n

-- the page, whatever its first three bytes, its padding and its end are
unfoldable pub page_at : List ℕ → Option Page
page_at bytes =
    layout_at (slice_index bytes 3) >>= λ layout.
    state_at (slice_index bytes 10) >>= λ state.
    slot_at (drop 36 bytes) >>= λ high.
    items_of (slice_index bytes 8) (little_number 2 (drop 32 bytes)) (drop 107 bytes) >>= λ items.
    Some (record {
      layout = layout;
      block = little_number 4 (drop 4 bytes);
      level = slice_index bytes 9;
      state = state;
      split = slice_index bytes 11 % 2 == 1;
      left = link_at (little_number 4 (drop 12 bytes));
      right = link_at (little_number 4 (drop 16 bytes));
      high = high;
      cycle = little_number 4 (drop 20 bytes);
      deletion = little_number 8 (drop 24 bytes);
      items = items;
    })
