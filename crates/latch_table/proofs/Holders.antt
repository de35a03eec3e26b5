-- How many sessions hold something, and what that says of conflicts.
use Rattle.std.proofs.Common.{◌≡◌, ℕ, zero, suc, ◌+◌, ◌<◌, ◌≤◌, Bool, true, false, not, ◌||◌, ◌==◌, List, [], ◌∷◌, length, get_or, replicate, refl, ap, sym, subst, ◌∙◌, arith}
use Rattle.std.proofs.lemmas.Bool.{eq-eqb, ne_eqb}
use Rattle.std.proofs.lemmas.List.{length-set, get_or_default, get_or-set_same}
use Rattle.std.proofs.lemmas.Option.{unwrap_or-slice_get}
use Rattle.std.proofs.Math.Bool.{and-false}
use Rattle.latch_table.specs.declared.mode.Mode.{Mode}
use Rattle.latch_table.specs.declared.mode.Mode.TheVariants.{Shared, Exclusive, Cleanup}
use Rattle.latch_table.specs.declared.mode.Latch.{Latch}
use Rattle.latch_table.specs.Holdings.{Holding, Table, nothing_held, holding_of, with_holding, latches_exclude, pins_exclude, holding_excludes, others_exclude, is_held_by_another, pinned_blocks}
use Rattle.latch_table.specs.Holders.{holds_any, one_if, holder_count}

low : (b : Bool) → one_if b ≤ 1
low true = omega arith
low false = omega arith

-- no more than all sessions
pub few : (table : Table) → holder_count table ≤ length table
few [] = omega arith
few (holding ∷ table) = (let here = low (holds_any holding) in let rest = few table in omega (arith, here, rest))

-- the session is counted if it holds something
pub counted : (table : Table) (session : ℕ) → one_if (holds_any (holding_of table session)) ≤ holder_count table
counted [] session = omega arith
counted (holding ∷ table) zero = omega arith
counted (holding ∷ table) (suc session) = (let rest = counted table session in omega (arith, rest))

-- counted again with another holding of the session
pub recounted : (table : Table) (session : ℕ) (holding : Holding) → session < length table
    → holder_count (with_holding table session holding) + one_if (holds_any (holding_of table session)) ≡ holder_count table + one_if (holds_any holding)
recounted [] session holding below = absurd (omega arith)
recounted (first ∷ table) zero holding below = omega arith
recounted (first ∷ table) (suc session) holding below = (let rest = recounted table session holding (omega arith) in omega (arith, rest))

pub none_hold : (n : ℕ) → holder_count (replicate n nothing_held) ≡ 0
none_hold zero = refl
none_hold (suc n) = (let rest = none_hold n in omega (arith, rest))

-- what holds nothing excludes nothing
-- a list with an element isn't empty
long : {X : Type 0} (x : X) (xs : List X) → (length (x ∷ xs) == 0) ≡ false
long x xs = ne_eqb (length (x ∷ xs)) 0 (λ same. absurd (omega (arith, same)))

no_latch : (latches : List Latch) (pins : List ℕ) → one_if (holds_any (record { latches = latches; pins = pins })) ≡ 0 → latches ≡ []
no_latch [] pins none = refl
no_latch (latch ∷ latches) pins none = (let one : 1 ≡ 0 = rw (long latch latches) at none in absurd (omega (arith, one)))

no_pin : (pins : List ℕ) → one_if (holds_any (record { latches = []; pins = pins })) ≡ 0 → pins ≡ []
no_pin [] none = refl
no_pin (pin ∷ pins) none = (let one : 1 ≡ 0 = rw (long pin pins) at none in absurd (omega (arith, one)))

-- what holds nothing pins nothing
pinless_holding : (holding : Holding) → one_if (holds_any holding) ≡ 0 → holding.pins ≡ []
pinless_holding holding none =
    no_pin holding.pins (subst (λ (ls : List Latch). one_if (holds_any (record { latches = ls; pins = holding.pins })) ≡ 0) (no_latch holding.latches holding.pins none) none)

pinless : (block : ℕ) (asked : Mode) → pins_exclude [] block asked ≡ false
pinless block Shared = refl
pinless block Exclusive = refl
pinless block Cleanup = refl

excludes_nothing : (holding : Holding) (block : ℕ) (asked : Mode) → one_if (holds_any holding) ≡ 0 → holding_excludes holding block asked ≡ false
excludes_nothing holding block asked none =
    let latches : holding.latches ≡ [] = no_latch holding.latches holding.pins none in
    let pins = pinless_holding holding none in
    ap (λ (ls : List Latch). latches_exclude ls block asked || pins_exclude holding.pins block asked) latches
    ∙ ap (λ (ps : List ℕ). pins_exclude ps block asked) pins ∙ pinless block asked

none_exclude : (from : ℕ) (table : Table) (session block : ℕ) (asked : Mode) → holder_count table ≡ 0 → others_exclude from table session block asked ≡ false
none_exclude from [] session block asked none = refl
none_exclude from (holding ∷ table) session block asked none =
    rw (excludes_nothing holding block asked (omega (arith, none)), and-false (not (from == session))) (none_exclude (suc from) table session block asked (omega (arith, none)))

-- if none holds anything, no block is pinned
pub none_pinned : (table : Table) → holder_count table ≡ 0 → pinned_blocks table ≡ []
none_pinned [] none = refl
none_pinned (holding ∷ table) none = rw (pinless_holding holding (omega (arith, none))) (none_pinned table (omega (arith, none)))

own_alone : (from : ℕ) (table : Table) (place session block : ℕ) (asked : Mode) → place < length table → session ≡ from + place
    → holder_count table ≡ one_if (holds_any (holding_of table place)) → others_exclude from table session block asked ≡ false
own_alone from [] place session block asked below is alone = absurd (omega arith)
own_alone from (holding ∷ table) zero session block asked below is alone =
    let rest : holder_count table ≡ 0 = omega (arith, alone) in
    rw (eq-eqb from session (omega (arith, is))) (none_exclude (suc from) table session block asked rest)
own_alone from (holding ∷ table) (suc place) session block asked below is alone =
    let among = counted table place in
    let none : one_if (holds_any holding) ≡ 0 = omega (arith, alone, among) in
    let rest : holder_count table ≡ one_if (holds_any (holding_of table place)) = omega (arith, alone, among) in
    rw (excludes_nothing holding block asked none, and-false (not (from == session))) (own_alone (suc from) table place session block asked (omega arith) (omega (arith, is)) rest)

-- if the session alone may hold something, nothing is in its way
pub alone : (table : Table) (session block : ℕ) (asked : Mode) → session < length table
    → holder_count table ≡ one_if (holds_any (holding_of table session)) → is_held_by_another table session block asked ≡ false
alone table session block asked below own = own_alone 0 table session session block asked below (omega arith) own

-- what is read of a session's holding
pub same_holding : (table : Table) (session : ℕ) (any : Holding) → session < length table → get_or table session any ≡ holding_of table session
same_holding table session any below = get_or_default table session any nothing_held below ∙ sym (unwrap_or-slice_get table session nothing_held)

-- the count, as it is kept
abbrev pub AreCounted : Table → ℕ → Type 0
AreCounted table holders = (length table ≡ 64) × (holders ≡ holder_count table)

pub few_hold : (table : Table) (holders : ℕ) → AreCounted table holders → holders ≤ 64
few_hold table holders are = (let low = few table in omega (arith, low, are.0, are.1))

pub before_counted : (table : Table) (session : ℕ) (any : Holding) (holders : ℕ) (before : Bool) → session < 64 → AreCounted table holders
    → before ≡ holds_any (get_or table session any) → one_if before ≤ holders
before_counted table session any holders before low are is =
    let same : one_if before ≡ one_if (holds_any (holding_of table session)) = ap one_if (is ∙ ap holds_any (same_holding table session any (omega (arith, low, are.0)))) in
    let there = counted table session in
    omega (arith, same, there, are.1)

pub still_counted : (table : Table) (session : ℕ) (new any other : Holding) (holders result : ℕ) (before after : Bool) → session < 64 → AreCounted table holders
    → before ≡ holds_any (get_or table session any) → after ≡ holds_any (get_or (with_holding table session new) session other)
    → result + one_if before ≡ holders + one_if after → AreCounted (with_holding table session new) result
still_counted table session new any other holders result before after low are is_before is_after counts =
    let below : session < length table = omega (arith, low, are.0) in
    let again = recounted table session new below in
    let old_same : one_if before ≡ one_if (holds_any (holding_of table session)) = ap one_if (is_before ∙ ap holds_any (same_holding table session any below)) in
    let new_same : one_if after ≡ one_if (holds_any new) = ap one_if (is_after ∙ ap holds_any (get_or-set_same table session new other below)) in
    (length-set table session new ∙ are.0, omega (arith, again, old_same, new_same, counts, are.1))
