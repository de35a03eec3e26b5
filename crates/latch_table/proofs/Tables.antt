-- What a table holds after a latch, a pin or their release, and who excludes whom.
use Rattle.std.proofs.Common.{◌≡◌, ◌≢◌, ℕ, zero, suc, ◌+◌, ◌<◌, Bool, true, false, not, ◌&&◌, ◌==◌, cond, [], ◌∷◌, length, refl, ap, sym, ◌∙◌, arith, ◌⊎◌, ⊎_elim}
use Rattle.std.proofs.lemmas.Bool.{ne_eqb, eqb-false, lt-ltb, not-true, false_from_ne_true, true≢false, or_cases, or_left, or_right}
use Rattle.std.proofs.lemmas.List.{length-set, get_or-set_same, get_or-set_other, set-set, set-get_or}
use Rattle.std.proofs.lemmas.Option.{unwrap_or-slice_get}
use Rattle.latch_table.specs.declared.mode.Mode.{Mode}
use Rattle.latch_table.specs.Holdings.{Holding, Table, nothing_held, holding_of, with_holding, latched, released, pinned, unpinned, without_latch, without_pin, holding_excludes, others_exclude, is_held_by_another}

-- one session's holding put into the table

pub length-with_holding : (table : Table) (session : ℕ) (holding : Holding) → length (with_holding table session holding) ≡ length table
length-with_holding table session holding = length-set table session holding

pub holding_of-with_holding : (table : Table) (session : ℕ) (holding : Holding) → session < length table
    → holding_of (with_holding table session holding) session ≡ holding
holding_of-with_holding table session holding below =
    unwrap_or-slice_get (with_holding table session holding) session nothing_held ∙ get_or-set_same table session holding nothing_held below

pub holding_of-with_holding_other : (table : Table) (session other : ℕ) (holding : Holding) → other ≢ session
    → holding_of (with_holding table session holding) other ≡ holding_of table other
holding_of-with_holding_other table session other holding apart =
    unwrap_or-slice_get (with_holding table session holding) other nothing_held
    ∙ get_or-set_other table session other holding nothing_held apart
    ∙ sym (unwrap_or-slice_get table other nothing_held)

pub with_holding-again : (table : Table) (session : ℕ) (earlier later : Holding)
    → with_holding (with_holding table session earlier) session later ≡ with_holding table session later
with_holding-again table session earlier later = set-set table session earlier later

pub with_holding-own : (table : Table) (session : ℕ) → with_holding table session (holding_of table session) ≡ table
with_holding-own table session =
    rw (unwrap_or-slice_get table session nothing_held) (set-get_or table session nothing_held)

-- the length stays

pub length-latched : (table : Table) (session block : ℕ) (mode : Mode) → length (latched table session block mode) ≡ length table
length-latched table session block mode = length-with_holding table session _

pub length-released : (table : Table) (session block : ℕ) → length (released table session block) ≡ length table
length-released table session block = length-with_holding table session _

pub length-pinned : (table : Table) (session block : ℕ) → length (pinned table session block) ≡ length table
length-pinned table session block = length-with_holding table session _

pub length-unpinned : (table : Table) (session block : ℕ) → length (unpinned table session block) ≡ length table
length-unpinned table session block = length-with_holding table session _

-- what the session holds then

pub holding_of-latched : (table : Table) (session block : ℕ) (mode : Mode) → session < length table
    → holding_of (latched table session block mode) session
    ≡ record { latches = record { block = block; mode = mode } ∷ (holding_of table session).latches; pins = (holding_of table session).pins }
holding_of-latched table session block mode below = holding_of-with_holding table session _ below

pub holding_of-released : (table : Table) (session block : ℕ) → session < length table
    → holding_of (released table session block) session
    ≡ record { latches = without_latch (holding_of table session).latches block; pins = (holding_of table session).pins }
holding_of-released table session block below = holding_of-with_holding table session _ below

-- while the session has fewer than two pins
pub holding_of-pinned : (table : Table) (session block : ℕ) → session < length table → length (holding_of table session).pins < 2
    → holding_of (pinned table session block) session
    ≡ record { latches = (holding_of table session).latches; pins = block ∷ (holding_of table session).pins }
holding_of-pinned table session block below room =
    holding_of-with_holding table session _ below
    ∙ ap (λ test. record { latches = (holding_of table session).latches; pins = cond test (block ∷ (holding_of table session).pins) (holding_of table session).pins })
    (lt-ltb _ _ room)

pub holding_of-unpinned : (table : Table) (session block : ℕ) → session < length table
    → holding_of (unpinned table session block) session
    ≡ record { latches = (holding_of table session).latches; pins = without_pin (holding_of table session).pins block }
holding_of-unpinned table session block below = holding_of-with_holding table session _ below

-- what another session holds stays

pub holding_of-latched_other : (table : Table) (session other block : ℕ) (mode : Mode) → other ≢ session
    → holding_of (latched table session block mode) other ≡ holding_of table other
holding_of-latched_other table session other block mode apart = holding_of-with_holding_other table session other _ apart

pub holding_of-released_other : (table : Table) (session other block : ℕ) → other ≢ session
    → holding_of (released table session block) other ≡ holding_of table other
holding_of-released_other table session other block apart = holding_of-with_holding_other table session other _ apart

pub holding_of-pinned_other : (table : Table) (session other block : ℕ) → other ≢ session
    → holding_of (pinned table session block) other ≡ holding_of table other
holding_of-pinned_other table session other block apart = holding_of-with_holding_other table session other _ apart

pub holding_of-unpinned_other : (table : Table) (session other block : ℕ) → other ≢ session
    → holding_of (unpinned table session block) other ≡ holding_of table other
holding_of-unpinned_other table session other block apart = holding_of-with_holding_other table session other _ apart

-- let go at once, the table is as before

put_back : (table : Table) (session : ℕ) (between again : Holding) → again ≡ holding_of table session
    → with_holding (with_holding table session between) session again ≡ table
put_back table session between again same =
    with_holding-again table session between again ∙ ap (with_holding table session) same ∙ with_holding-own table session

-- who excludes whom

and_left : (a b : Bool) → (a && b) ≡ true → a ≡ true
and_left true b one = refl
and_left false b one = one

and_right : (a b : Bool) → (a && b) ≡ true → b ≡ true
and_right true b one = one
and_right false b one = absurd (true≢false (sym one))

-- another session's number isn't this one
other_number : (number session : ℕ) → number ≢ session → not (number == session) ≡ true
other_number number session apart = ap not (ne_eqb number session apart)

others_exclude-at : (from : ℕ) (table : Table) (session block : ℕ) (asked : Mode) (other : ℕ) → other < length table → from + other ≢ session
    → holding_excludes (holding_of table other) block asked ≡ true → others_exclude from table session block asked ≡ true
others_exclude-at from [] session block asked other below apart excluded = absurd (omega arith)
others_exclude-at from (holding ∷ table) session block asked zero below apart excluded =
    or_left (not (from == session) && holding_excludes holding block asked) (others_exclude (suc from) table session block asked)
    (rw (other_number from session (λ same. apart (omega (arith, same)))) excluded)
others_exclude-at from (holding ∷ table) session block asked (suc other) below apart excluded =
    or_right _ _ (others_exclude-at (suc from) table session block asked other (omega arith) (λ same. apart (omega (arith, same))) excluded)

-- what another session holds and excludes a latch is in its way
pub is_held_by_another-from : (table : Table) (session block : ℕ) (asked : Mode) (other : ℕ) → other < length table → other ≢ session
    → holding_excludes (holding_of table other) block asked ≡ true → is_held_by_another table session block asked ≡ true
is_held_by_another-from table session block asked other below apart excluded =
    others_exclude-at 0 table session block asked other below (λ same. apart (omega (arith, same))) excluded

-- a session other than this one, from this number on, that excludes the latch
record Excluder (from : ℕ) (table : Table) (session block : ℕ) (asked : Mode) : Type 0 where
  other : ℕ
  is_there : other < length table
  is_another : from + other ≢ session
  excludes_it : holding_excludes (holding_of table other) block asked ≡ true

others_exclude-by : (from : ℕ) (table : Table) (session block : ℕ) (asked : Mode)
    → others_exclude from table session block asked ≡ true → Excluder from table session block asked
others_exclude-by from [] session block asked excluded = absurd (true≢false (sym excluded))
others_exclude-by from (holding ∷ table) session block asked excluded =
    ⊎_elim
    (λ here. record {
      other = 0;
      is_there = omega arith;
      is_another = λ same. eqb-false from session (not-true (from == session) (and_left _ _ here)) (omega (arith, same));
      excludes_it = and_right (not (from == session)) (holding_excludes holding block asked) here;
    })
    (λ in_rest.
    let by : Excluder (suc from) table session block asked = others_exclude-by (suc from) table session block asked in_rest in
    record {
      other = suc by.other;
      is_there = omega (arith, by.is_there);
      is_another = λ same. by.is_another (omega (arith, same));
      excludes_it = by.excludes_it;
    })
    (or_cases _ _ excluded)

-- what is in a latch's way is another session's hold
pub is_held_by_another-by : (table : Table) (session block : ℕ) (asked : Mode) → is_held_by_another table session block asked ≡ true
    → (other : ℕ) × (other < length table) × (other ≢ session) × (holding_excludes (holding_of table other) block asked ≡ true)
is_held_by_another-by table session block asked excluded =
    let by : Excluder 0 table session block asked = others_exclude-by 0 table session block asked excluded in
    (by.other, by.is_there, (λ same. by.is_another (omega (arith, same))), by.excludes_it)

-- if nothing is in a latch's way, no other session's hold excludes it
pub is_held_by_another-free : (table : Table) (session block : ℕ) (asked : Mode) (other : ℕ) → other < length table → other ≢ session
    → is_held_by_another table session block asked ≡ false → holding_excludes (holding_of table other) block asked ≡ false
is_held_by_another-free table session block asked other below apart free =
    false_from_ne_true _ (λ excluded. true≢false (sym (is_held_by_another-from table session block asked other below apart excluded) ∙ free))
