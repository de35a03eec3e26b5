-- What latching, pinning and letting go leave of the holdings of all sessions.
use Rattle.std.proofs.Common.{◌≡◌, ◌≢◌, ℕ, zero, suc, ◌<◌, ◌≤◌, Bool, true, false, true≢false, ◌&&◌, ◌||◌, ◌==◌, List, [], ◌∷◌, length, refl, sym, ap, subst, inl, inr, ◌∙◌, arith}
use Rattle.latch_table.specs.declared.mode.Latch.{Latch}
use Rattle.latch_table.proofs.Tables.{holding_of-with_holding, holding_of-with_holding_other, is_held_by_another-free}
use Rattle.descent.proofs.Imports.{cases_lt, cases_eq, cases_Bool, or_cases, eqb-true, and_parts, Holding, Table, excludes, holding_of, nothing_held, with_holding, latched, latches_exclude, or_from}
use Rattle.descent.proofs.Imports.{pins_exclude, is_held_by_another, Mode, Shared, Exclusive, Cleanup, HoldsAlone, AreApart}

or_left_false : (a b : Bool) → (a || b) ≡ false → a ≡ false
or_left_false true b h = absurd cc
or_left_false false b h = refl

-- a latch that excludes a shared one, and one that any latch excludes
excludes_any : (held asked : Mode) → excludes held Shared ≡ true → excludes held asked ≡ true
excludes_any Shared asked h = absurd cc
excludes_any Exclusive asked h = refl
excludes_any Cleanup asked h = refl

excluded_by_exclusive : (held asked : Mode) → excludes asked Shared ≡ true → excludes held asked ≡ excludes held Exclusive
excluded_by_exclusive Shared Shared h = absurd cc
excluded_by_exclusive Shared Exclusive h = refl
excluded_by_exclusive Shared Cleanup h = refl
excluded_by_exclusive Exclusive asked h = refl
excluded_by_exclusive Cleanup asked h = refl

excluded_latches : (latches : List Latch) (block : ℕ) (asked : Mode) → excludes asked Shared ≡ true → latches_exclude latches block asked ≡ latches_exclude latches block Exclusive
excluded_latches [] block asked h = refl
excluded_latches (l ∷ latches) block asked h =
    ap (λ (b : Bool). ((l.block == block) && b) || latches_exclude latches block asked) (excluded_by_exclusive l.mode asked h)
    ∙ ap (λ (b : Bool). ((l.block == block) && excludes l.mode Exclusive) || b) (excluded_latches latches block asked h)

pub any_excluded : (latches : List Latch) (block : ℕ) (asked : Mode) → latches_exclude latches block Shared ≡ true → latches_exclude latches block asked ≡ true
any_excluded [] block asked h = absurd cc
any_excluded (l ∷ latches) block asked h =
    elim (or_cases ((l.block == block) && excludes l.mode Shared) (latches_exclude latches block Shared) h) [
      | inl here ↦ (let parts = and_parts (l.block == block) (excludes l.mode Shared) here in rw (parts.0, excludes_any l.mode asked parts.1) refl)
      | inr there ↦ rw (any_excluded latches block asked there) (elim ((l.block == block) && excludes l.mode asked) as (λ v. (v || true) ≡ true) [ true ↦ refl | false ↦ refl ])
    ]

-- no two sessions hold what excludes each other, if only one session's holding is another, and that keeps
-- apart from the others'
pub apart_with : (table : Table) (session : ℕ) (holding : Holding) → session < length table → AreApart table
    → ((other block : ℕ) → other ≢ session → latches_exclude holding.latches block Shared ≡ true → latches_exclude (holding_of table other).latches block Exclusive ≡ false)
    → ((other block : ℕ) → other ≢ session → HoldsAlone table other block → latches_exclude holding.latches block Exclusive ≡ false)
    → AreApart (with_holding table session holding)
apart_with table session holding below apart mine theirs one two block differ alone =
    elim (cases_eq one session) [
      | inl is_one ↦ (
          let not_two : two ≢ session = λ same. differ (is_one ∙ sym same) in
          let held : holding_of (with_holding table session holding) one ≡ holding = ap (holding_of (with_holding table session holding)) is_one
          ∙ holding_of-with_holding table session holding below in
          ap (λ (h : Holding). latches_exclude h.latches block Exclusive) (holding_of-with_holding_other table session two holding not_two)
          ∙ mine two block not_two (sym (ap (λ (h : Holding). latches_exclude h.latches block Shared) held) ∙ alone))
      | inr not_one ↦ (
          let kept : holding_of (with_holding table session holding) one ≡ holding_of table one = holding_of-with_holding_other table session one holding not_one in
          let was : HoldsAlone table one block = sym (ap (λ (h : Holding). latches_exclude h.latches block Shared) kept) ∙ alone in
          elim (cases_eq two session) [
            | inl is_two ↦ (
                ap (λ (h : Holding). latches_exclude h.latches block Exclusive) (ap (holding_of (with_holding table session holding)) is_two ∙ holding_of-with_holding table session holding below)
                ∙ theirs one block not_one was)
            | inr not_two ↦ (
                ap (λ (h : Holding). latches_exclude h.latches block Exclusive) (holding_of-with_holding_other table session two holding not_two)
                ∙ apart one two block differ was)
          ])
    ]

-- the same latches with other pins
pub apart_pins : (table : Table) (session : ℕ) (pins : List ℕ) → session < length table → AreApart table
    → AreApart (with_holding table session (record { latches = (holding_of table session).latches; pins = pins }))
apart_pins table session pins below apart =
    apart_with table session (record { latches = (holding_of table session).latches; pins = pins }) below apart
    (λ other block differ alone. apart session other block (λ same. differ (sym same)) alone)
    (λ other block differ alone. apart other session block differ alone)

-- nothing held
pub apart_nothing : (table : Table) (session : ℕ) → session < length table → AreApart table → AreApart (with_holding table session nothing_held)
apart_nothing table session below apart =
    apart_with table session nothing_held below apart (λ other block differ alone. absurd cc) (λ other block differ alone. refl)

pub out_of_table : (table : Table) (other : ℕ) → length table ≤ other → holding_of table other ≡ nothing_held
out_of_table [] other le = refl
out_of_table (h ∷ table) zero le = absurd (omega arith)
out_of_table (h ∷ table) (suc other) le = out_of_table table other (omega arith)

-- if nothing of another's excludes a latch, its latches don't
pub free_of : (table : Table) (session block : ℕ) (mode : Mode) (other : ℕ) → other ≢ session → is_held_by_another table session block mode ≡ false
    → latches_exclude (holding_of table other).latches block mode ≡ false
free_of table session block mode other differ free =
    elim (cases_lt other (length table)) [
      | inl lt ↦ or_left_false (latches_exclude (holding_of table other).latches block mode) (pins_exclude (holding_of table other).pins block mode)
          (is_held_by_another-free table session block mode other lt differ free)
      | inr ge ↦ ap (λ (h : Holding). latches_exclude h.latches block mode) (out_of_table table other ge)
    ]

-- one latch more, which nothing of the others' excludes
pub apart_latched : (table : Table) (session block : ℕ) (mode : Mode) → session < length table → AreApart table
    → is_held_by_another table session block mode ≡ false → AreApart (latched table session block mode)
apart_latched table session block mode below apart free =
    let old : List Latch = (holding_of table session).latches in
    let new : Holding = record { latches = record { block = block; mode = mode } ∷ old; pins = (holding_of table session).pins } in
    apart_with table session new below apart
    (λ other b differ alone.
    elim (or_cases ((block == b) && excludes mode Shared) (latches_exclude old b Shared) alone) [
      | inl here ↦ (
          let parts = and_parts (block == b) (excludes mode Shared) here in
          let same : block ≡ b = eqb-true block b parts.0 in
          subst (λ (n : ℕ). latches_exclude (holding_of table other).latches n Exclusive ≡ false) same
          (sym (excluded_latches (holding_of table other).latches block mode parts.1) ∙ free_of table session block mode other differ free))
      | inr there ↦ apart session other b (λ same. differ (sym same)) there
    ])
    (λ other b differ alone.
    or_from ((block == b) && excludes mode Exclusive) (latches_exclude old b Exclusive)
    (elim (cases_Bool (block == b)) [
      | inl same ↦ (
          let is : b ≡ block = sym (eqb-true block b same) in
          let there : latches_exclude (holding_of table other).latches block mode ≡ true =
          any_excluded (holding_of table other).latches block mode (subst (λ (n : ℕ). HoldsAlone table other n) is alone) in
          absurd (true≢false (sym there ∙ free_of table session block mode other differ free)))
      | inr differs ↦ rw differs refl
    ])
    (apart other session b differ alone))
