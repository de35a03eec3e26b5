-- What keeps a bulk delete from a leaf: any latch or pin of another session.
use Rattle.std.proofs.Common.{◌≡◌, ◌≢◌, ℕ, suc, inl, inr, true, false, true≢false, not, ◌&&◌, ◌==◌, List, [], ◌∷◌, length, refl, sym, ap, ◌∙◌}
use Rattle.latch_table.specs.declared.mode.Mode.{Mode}
use Rattle.vacuum.proofs.Imports.{cases_lt, cases_Bool, or_cases, and_parts, Holding, Table, excludes, has_pin, holding_of, holding_excludes, latches_exclude, pins_exclude, others_exclude, and_from, or_left, or_right}
use Rattle.vacuum.proofs.Imports.{is_held_by_another, Shared, Exclusive, Cleanup}
use Rattle.latch_table.specs.declared.mode.Latch.{Latch}
use Rattle.latch_table.proofs.Tables.{is_held_by_another-free}
use Rattle.descent.proofs.Tables.{out_of_table}

-- what excludes any latch excludes one for cleanup
excludes_cleanup : (held asked : Mode) → excludes held asked ≡ true → excludes held Cleanup ≡ true
excludes_cleanup Shared asked h = refl
excludes_cleanup Exclusive asked h = refl
excludes_cleanup Cleanup asked h = refl

latches_too : (latches : List Latch) (block : ℕ) (asked : Mode) → latches_exclude latches block asked ≡ true → latches_exclude latches block Cleanup ≡ true
latches_too [] block asked h = absurd cc
latches_too (l ∷ latches) block asked h = elim (or_cases ((l.block == block) && excludes l.mode asked) (latches_exclude latches block asked) h) [
  | inl here ↦ (let p = and_parts (l.block == block) (excludes l.mode asked) here in
      or_left ((l.block == block) && excludes l.mode Cleanup) (latches_exclude latches block Cleanup) (and_from (l.block == block) (excludes l.mode Cleanup) p.0 (excludes_cleanup l.mode asked p.1)))
  | inr there ↦ or_right ((l.block == block) && excludes l.mode Cleanup) (latches_exclude latches block Cleanup) (latches_too latches block asked there)
]

pins_too : (pins : List ℕ) (block : ℕ) (asked : Mode) → pins_exclude pins block asked ≡ true → pins_exclude pins block Cleanup ≡ true
pins_too pins block Shared h = absurd cc
pins_too pins block Exclusive h = absurd cc
pins_too pins block Cleanup h = h

holding_too : (holding : Holding) (block : ℕ) (asked : Mode) → holding_excludes holding block asked ≡ true → holding_excludes holding block Cleanup ≡ true
holding_too holding block asked h = elim (or_cases (latches_exclude holding.latches block asked) (pins_exclude holding.pins block asked) h) [
  | inl latch ↦ or_left (latches_exclude holding.latches block Cleanup) (pins_exclude holding.pins block Cleanup) (latches_too holding.latches block asked latch)
  | inr pin ↦ or_right (latches_exclude holding.latches block Cleanup) (pins_exclude holding.pins block Cleanup) (pins_too holding.pins block asked pin)
]

others_too : (from : ℕ) (table : Table) (session block : ℕ) (asked : Mode) → others_exclude from table session block asked ≡ true → others_exclude from table session block Cleanup ≡ true
others_too from [] session block asked h = absurd cc
others_too from (holding ∷ table) session block asked h =
    elim (or_cases (not (from == session) && holding_excludes holding block asked) (others_exclude (suc from) table session block asked) h) [
      | inl here ↦ (let p = and_parts (not (from == session)) (holding_excludes holding block asked) here in
          or_left (not (from == session) && holding_excludes holding block Cleanup) (others_exclude (suc from) table session block Cleanup)
          (and_from (not (from == session)) (holding_excludes holding block Cleanup) p.0 (holding_too holding block asked p.1)))
      | inr there ↦ or_right (not (from == session) && holding_excludes holding block Cleanup) (others_exclude (suc from) table session block Cleanup)
          (others_too (suc from) table session block asked there)
    ]

pub held_for_cleanup : (table : Table) (session block : ℕ) (asked : Mode) → is_held_by_another table session block asked ≡ true → is_held_by_another table session block Cleanup ≡ true
held_for_cleanup table session block asked h = others_too 0 table session block asked h

pub free_for_all : (table : Table) (session block : ℕ) (asked : Mode) → is_held_by_another table session block Cleanup ≡ false → is_held_by_another table session block asked ≡ false
free_for_all table session block asked free = elim (cases_Bool (is_held_by_another table session block asked)) [
  | inl held ↦ absurd (true≢false (sym (held_for_cleanup table session block asked held) ∙ free))
  | inr free_of ↦ free_of
]

-- a leaf that another session has pinned isn't free for cleanup
pub pinned_is_held : (table : Table) (session other block : ℕ) → other ≢ session → has_pin (holding_of table other).pins block ≡ true → is_held_by_another table session block Cleanup ≡ false → ⊥
pinned_is_held table session other block differ pin free = elim (cases_lt other (length table)) [
  | inl lt ↦ true≢false (sym (or_right (latches_exclude (holding_of table other).latches block Cleanup) (has_pin (holding_of table other).pins block) pin)
      ∙ is_held_by_another-free table session block Cleanup other lt differ free)
  | inr ge ↦ true≢false (sym pin ∙ ap (λ (h : Holding). has_pin h.pins block) (out_of_table table other ge))
]
