-- Entries, bounds and downlinks at the beginning of bytes.
use Rattle.std.proofs.Common.{◌≡◌, ℕ, ◌<◌, ◌≤◌, List, [], ◌∷◌, ◌++◌, Option, Some, None, length, take, drop, replicate, refl, sym, ap, ◌∙◌, arith, length-append}
use Rattle.page_codec.specs.Spelling.{row_bytes, bound_bytes, slot_bytes, entry_bytes, downlink_bytes}
use Rattle.page_codec.proofs.Imports.{IfSome, append-nil, little_bytes, little_number, little_number-reads_back, little_from-take, Row, IsRow, padded, length-padded, IsEntry, Entry, Bound, Begins}
use Rattle.page_codec.proofs.Imports.{HasSlot, Two, IsRowIn, IsBoundIn, IsDownlink, Downlink}
use Rattle.page_codec.proofs.Again.{length-slot}
use Rattle.page_codec.proofs.Pieces.{begins_front, begins_after, begins_both, begins_one}

length_key : (key : List ℕ) → length key ≤ 64 → length (length key ∷ padded key) ≡ 65
length_key key fits = omega (arith, length-padded key fits)

-- a key, and a row after it
pub entry_of_parts : (e : Entry) (bytes : List ℕ) → IsEntry e → Begins (length e.key ∷ padded e.key) bytes → Begins (row_bytes (Some e.row)) (drop 65 bytes)
    → Begins (entry_bytes e) bytes
unfolding entry_bytes bound_bytes
entry_of_parts e bytes h key row = begins_both (length e.key ∷ padded e.key) (row_bytes (Some e.row)) bytes 65 (length_key e.key h.key) key row

pub key_of_entry : (e : Entry) (bytes : List ℕ) → Begins (entry_bytes e) bytes → Begins (length e.key ∷ padded e.key) bytes
unfolding entry_bytes bound_bytes
key_of_entry e bytes h = begins_front (length e.key ∷ padded e.key) (row_bytes (Some e.row)) bytes h

pub row_of_entry : (e : Entry) (bytes : List ℕ) → IsEntry e → Begins (entry_bytes e) bytes → Begins (row_bytes (Some e.row)) (drop 65 bytes)
unfolding entry_bytes bound_bytes
row_of_entry e bytes h b = begins_after (length e.key ∷ padded e.key) (row_bytes (Some e.row)) bytes 65 (length_key e.key h.key) b

-- bytes of a row are not zeros: no row has the offset 0
row_is_no_zeros : (r : Row) (bytes : List ℕ) → IsRow r → Begins (row_bytes (Some r)) bytes → Begins (replicate 6 0) bytes → ⊥
row_is_no_zeros r bytes h b zeros =
    let tail = little_bytes 4 r.block ++ little_bytes 2 r.offset in
    let same : tail ≡ replicate 6 0 = sym b.front ∙ zeros.front in
    let none : little_bytes 2 r.offset ≡ replicate 2 0 = ap (λ (xs : List ℕ). drop 4 xs) same in
    let read : little_number 2 (little_bytes 2 r.offset ++ []) ≡ r.offset = little_number-reads_back 2 r.offset [] h.narrow in
    let zero_ : r.offset ≡ 0 = sym read ∙ ap (λ (xs : List ℕ). little_number 2 (xs ++ [])) none in
    let some : 0 < r.offset = h.offset in
    absurd (omega arith)

pub no_slot : (bytes : List ℕ) → Begins (replicate 71 0) bytes → Begins (slot_bytes None) bytes
unfolding slot_bytes
no_slot bytes h = h

pub zeros_of_none : (bytes : List ℕ) → Begins (slot_bytes None) bytes → Begins (replicate 71 0) bytes
unfolding slot_bytes
zeros_of_none bytes h = h

-- if six zeros stand there is no row, and elsewhere there is one
pub no_row_there : (key : List ℕ) (r : Option Row) (bytes : List ℕ) → IsRowIn Two key r → Begins (row_bytes r) bytes → Begins (replicate 6 0) bytes → r ≡ None
no_row_there key None bytes h b zeros = refl
no_row_there key (Some r) bytes h b zeros = absurd (row_is_no_zeros r bytes h b zeros)

pub row_there : (key : List ℕ) (r : Option Row) (bytes : List ℕ) → IsRowIn Two key r → Begins (row_bytes r) bytes → (Begins (replicate 6 0) bytes → ⊥)
    → (x : Row) × IsRow x × (r ≡ Some x) × Begins (row_bytes (Some x)) bytes
row_there key None bytes h b zeros = absurd (zeros b)
row_there key (Some r) bytes h b zeros = (r, h, refl, b)

-- a bound in its two pieces: its key, and its row or six zeros
pub record IsBoundAt (b : Bound) (bytes : List ℕ) : Type 0 where
  pub valid : IsBoundIn Two b
  pub key : Begins (length b.key ∷ padded b.key) bytes
  pub row : Begins (row_bytes b.row) (drop 65 bytes)

pub bound_of_parts : (b : Bound) (bytes : List ℕ) → IsBoundAt b bytes → Begins (slot_bytes (Some b)) bytes
unfolding slot_bytes bound_bytes
bound_of_parts b bytes h = begins_both (length b.key ∷ padded b.key) (row_bytes b.row) bytes 65 (length_key b.key h.valid.key) h.key h.row

parts_of_bound : (b : Bound) (bytes : List ℕ) → IsBoundIn Two b → Begins (slot_bytes (Some b)) bytes → IsBoundAt b bytes
unfolding slot_bytes bound_bytes
parts_of_bound b bytes h begins = record {
  valid = h;
  key = begins_front (length b.key ∷ padded b.key) (row_bytes b.row) bytes begins;
  row = begins_after (length b.key ∷ padded b.key) (row_bytes b.row) bytes 65 (length_key b.key h.key) begins;
}

-- after a key that isn't empty there are not 71 zeros
key_is_no_zeros : (key bytes : List ℕ) → 0 < length key → length key ≤ 64 → Begins (length key ∷ padded key) bytes → Begins (replicate 71 0) bytes → ⊥
key_is_no_zeros key bytes some fits b zeros =
    let long = begins_one (length key) 64 (padded key) bytes (length-padded key fits) b in
    let none = begins_one 0 70 (replicate 70 0) bytes refl zeros in
    absurd (omega (arith, long.0, none.0))

-- a key before six zeros isn't empty, unless there are 71 zeros
pub key_is_some : (key bytes : List ℕ) → Begins (length key ∷ padded key) bytes → Begins (replicate 6 0) (drop 65 bytes) → (Begins (replicate 71 0) bytes → ⊥) → 0 < length key
key_is_some [] bytes key row zeros = absurd (zeros (begins_both (0 ∷ padded []) (replicate 6 0) bytes 65 refl key row))
key_is_some (x ∷ xs) bytes key row zeros = omega arith

-- a bound or none, and a child after it
pub downlink_of_parts : (d : Downlink) (bytes : List ℕ) → HasSlot d → Begins (slot_bytes d.bound) bytes → take 4 (drop 71 bytes) ≡ little_bytes 4 d.child
    → Begins (downlink_bytes d) bytes
unfolding downlink_bytes
downlink_of_parts d bytes h slot child = begins_both (slot_bytes d.bound) (little_bytes 4 d.child) bytes 71 (length-slot d.bound h) slot (record { front = child })

pub slot_of_downlink : (d : Downlink) (bytes : List ℕ) → Begins (downlink_bytes d) bytes → Begins (slot_bytes d.bound) bytes
unfolding downlink_bytes
slot_of_downlink d bytes h = begins_front (slot_bytes d.bound) (little_bytes 4 d.child) bytes h

pub child_of_downlink : (d : Downlink) (bytes : List ℕ) → IsDownlink Two d → Begins (downlink_bytes d) bytes → little_number 4 (drop 71 bytes) ≡ d.child
unfolding downlink_bytes
child_of_downlink d bytes h b =
    let begins = begins_after (slot_bytes d.bound) (little_bytes 4 d.child) bytes 71 (length-slot d.bound h.bound) b in
    sym (little_from-take 0 4 4 (drop 71 bytes) (omega arith))
    ∙ ap (λ (xs : List ℕ). little_number 4 xs) begins.front
    ∙ ap (λ (xs : List ℕ). little_number 4 xs) (sym (append-nil (little_bytes 4 d.child)))
    ∙ little_number-reads_back 4 d.child [] (omega (arith, h.child.1))

pub length_of_downlink : (d : Downlink) → HasSlot d → length (downlink_bytes d) ≡ 75
unfolding downlink_bytes
length_of_downlink d h = omega (arith, length-slot d.bound h, length-append (slot_bytes d.bound) (little_bytes 4 d.child))

bound_is_no_zeros : (key : List ℕ) (r : Option Row) (bytes : List ℕ) → length key ≤ 64 → IsRowIn Two key r → Begins (length key ∷ padded key) bytes
    → Begins (row_bytes r) (drop 65 bytes) → Begins (replicate 71 0) bytes → ⊥
bound_is_no_zeros key None bytes fits h front row_after zeros = key_is_no_zeros key bytes h fits front zeros
bound_is_no_zeros key (Some r) bytes fits h front row_after zeros = row_is_no_zeros r (drop 65 bytes) h row_after (begins_after (replicate 65 0) (replicate 6 0) bytes 65 refl zeros)

-- if zeros stand there is no bound
pub none_there : (b : Option Bound) (bytes : List ℕ) → IfSome b (IsBoundIn Two) → Begins (slot_bytes b) bytes → Begins (replicate 71 0) bytes → None ≡ b
none_there None bytes h begins zeros = refl
none_there (Some w) bytes h begins zeros = let at = parts_of_bound w bytes h begins in absurd (bound_is_no_zeros w.key w.row bytes h.key h.row at.key at.row zeros)

-- if no zeros stand there is one
pub some_there : (b : Option Bound) (bytes : List ℕ) → IfSome b (IsBoundIn Two) → Begins (slot_bytes b) bytes → (Begins (replicate 71 0) bytes → ⊥)
    → (w : Bound) × (b ≡ Some w) × IsBoundAt w bytes
some_there None bytes h begins zeros = absurd (zeros (zeros_of_none bytes begins))
some_there (Some w) bytes h begins zeros = (w, refl, parts_of_bound w bytes h begins)
