use Rattle.std.proofs.Common.{◌≡◌, ◌∙◌, false, List, Option, None, Some, ℕ, drop, sym, ap, subst, replicate}
use Rattle.page_codec.proofs.Imports.{same_Some, Row, IsRow, Bound, Begins, row_bytes}
use Rattle.page_codec.proofs.Slots.{no_slot, IsBoundAt, bound_of_parts, none_there, some_there, no_row_there, row_there, key_is_some}
use Rattle.page_codec.proofs.reading.slot.Goals.{After-begins_with, After-tail-after_key}
use Rattle.page_codec.proofs.reading.slot.Goals as goal

pub returns-then-begins_with-clause-found : goal.returns-then-begins_with-clause-found
returns-then-begins_with-clause-found c = (tt, no_slot c.args.bytes.now (c.begins_with.ensures.0 c.if-begins_with.true))

pub returns-then-begins_with-clause-only : goal.returns-then-begins_with-clause-only
returns-then-begins_with-clause-only c = λ b h begins.
    ap (λ (o : Option Bound). Some o) (none_there b c.args.bytes.now h begins (c.begins_with.ensures.0 c.if-begins_with.true))

no_zeros_there : (c : After-begins_with) → c.begins_with.result ≡ false → Begins (replicate 71 0) c.args.bytes.now → ⊥
no_zeros_there c is zeros = let yes = c.begins_with.ensures.1 zeros in absurd cc

pub returns-in_err-key-clause-only : goal.returns-in_err-key-clause-only
returns-in_err-key-clause-only c = λ b h begins.
    let there = some_there b c.args.bytes.now h begins (no_zeros_there (goal.at.returns-in_err-key-clause-only c).After-begins_with c.if-begins_with.false) in
    let some = c.key_at.ensures.only there.0.key there.2.valid.key there.2.key in
    let none = c.in_err-key.was in
    absurd cc

-- the key that was read is that of any bound that is spelled here
key_is : (c : After-tail-after_key) → (b : Bound) → IsBoundAt b c.args.bytes.now → c.in_ok-key.key ≡ b.key
key_is c b at = same_Some c.in_ok-key.key b.key (sym c.in_ok-key.was ∙ c.key_at.ensures.only b.key at.valid.key at.key)

pub returns-then-begins_with-2-clause-found : goal.returns-then-begins_with-2-clause-found
returns-then-begins_with-2-clause-found c =
    let bytes = c.args.bytes.now in
    let b : Bound = record { key = c.in_ok-key.key; row = None } in
    let found = c.in_ok-key.ensures.found in
    let zeros : Begins (replicate 6 0) (drop 65 bytes) = subst (λ (xs : List ℕ). Begins (replicate 6 0) xs) c.tail-after_key.ensures.value (c.begins_with-2.ensures.0 c.if-begins_with-2.true) in
    let some = key_is_some b.key bytes found.1 zeros (no_zeros_there (goal.at.returns-then-begins_with-2-clause-found c).After-begins_with c.if-begins_with.false) in
    let at : IsBoundAt b bytes = record { valid = record { key = found.0; row = some }; key = found.1; row = zeros } in
    (at.valid, bound_of_parts b bytes at)

pub returns-then-begins_with-2-clause-only : goal.returns-then-begins_with-2-clause-only
returns-then-begins_with-2-clause-only c = λ b h begins.
    let bytes = c.args.bytes.now in
    let there = some_there b bytes h begins (no_zeros_there (goal.at.returns-then-begins_with-2-clause-only c).After-begins_with c.if-begins_with.false) in
    let zeros : Begins (replicate 6 0) (drop 65 bytes) = subst (λ (xs : List ℕ). Begins (replicate 6 0) xs) c.tail-after_key.ensures.value (c.begins_with-2.ensures.0 c.if-begins_with-2.true) in
    let key = key_is (goal.at.returns-then-begins_with-2-clause-only c).After-tail-after_key there.0 there.2 in
    let none = no_row_there there.0.key there.0.row (drop 65 bytes) there.2.valid.row there.2.row zeros in
    let same : Some (record { key = c.in_ok-key.key; row = None }) ≡ b = (λ i. Some (let x : Bound = record { key = key i; row = sym none i } in x)) ∙ sym there.1 in
    ap (λ (o : Option Bound). Some o) same

-- the row of any bound that is spelled here
row_is : (c : After-tail-after_key) → (b : Bound) → IsBoundAt b c.args.bytes.now → (Begins (replicate 6 0) c.tail-after_key.result.now → ⊥)
    → (x : Row) × IsRow x × (b.row ≡ Some x) × Begins (row_bytes (Some x)) c.tail-after_key.result.now
row_is c b at zeros = row_there b.key b.row c.tail-after_key.result.now at.valid.row (rw c.tail-after_key.ensures.value at.row) zeros

pub returns-in_err-row-clause-only : goal.returns-in_err-row-clause-only
returns-in_err-row-clause-only c = λ b h begins.
    let there = some_there b c.args.bytes.now h begins (no_zeros_there (goal.at.returns-in_err-row-clause-only c).After-begins_with c.if-begins_with.false) in
    let row = row_is (goal.at.returns-in_err-row-clause-only c).After-tail-after_key there.0 there.2
    (λ zeros. let yes = c.begins_with-2.ensures.1 zeros in let no_ = c.if-begins_with-2.false in absurd cc) in
    let some = c.row_at.ensures.only row.0 row.1 row.3 in
    let none = c.in_err-row.was in
    absurd cc

pub returns-clause-found : goal.returns-clause-found
returns-clause-found c =
    let bytes = c.args.bytes.now in
    let b : Bound = record { key = c.in_ok-key.key; row = Some c.in_ok-row.row } in
    let key = c.in_ok-key.ensures.found in
    let row = c.in_ok-row.ensures.found in
    let after_key : Begins (row_bytes b.row) (drop 65 bytes) = subst (λ (xs : List ℕ). Begins (row_bytes b.row) xs) c.tail-after_key.ensures.value row.1 in
    let at : IsBoundAt b bytes = record { valid = record { key = key.0; row = row.0 }; key = key.1; row = after_key } in
    (at.valid, bound_of_parts b bytes at)

pub returns-clause-only : goal.returns-clause-only
returns-clause-only c = λ b h begins.
    let there = some_there b c.args.bytes.now h begins (no_zeros_there (goal.at.returns-clause-only c).After-begins_with c.if-begins_with.false) in
    let row = row_is (goal.at.returns-clause-only c).After-tail-after_key there.0 there.2 (λ zeros. let yes = c.begins_with-2.ensures.1 zeros in let no_ = c.if-begins_with-2.false in absurd cc) in
    let key = key_is (goal.at.returns-clause-only c).After-tail-after_key there.0 there.2 in
    let read = same_Some c.in_ok-row.row row.0 (sym c.in_ok-row.was ∙ c.row_at.ensures.only row.0 row.1 row.3) in
    let same_row : Some c.in_ok-row.row ≡ there.0.row = ap (λ (x : Row). Some x) read ∙ sym row.2 in
    let same : Some (record { key = c.in_ok-key.key; row = Some c.in_ok-row.row }) ≡ b = (λ i. Some (let x : Bound = record { key = key i; row = same_row i } in x)) ∙ sym there.1 in
    ap (λ (o : Option Bound). Some o) same
