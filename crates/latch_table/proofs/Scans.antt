-- The tests and removals of a holding, as chains over its lists.
use Rattle.std.proofs.Common.{◌≡◌, ℕ, suc, ◌+◌, Bool, true, false, not, ◌&&◌, ◌||◌, ◌==◌, cond, nat_lt, List, [], ◌∷◌, length, drop, drop-cons, get_or, ◌<◌, Some, None, refl, ap, sym, ◌∙◌, arith, add-one, ◌≤◌, take_all, append-nil}
use Rattle.std.proofs.Math.ListN.{drop_of_length-le}
use Rattle.std.proofs.lemmas.Bool.{ltb-false, eq-eqb}
use Rattle.std.proofs.Math.Bool.{and-false}
use Rattle.std.specs.List.{list_any, position, position_or_len, remove}
use Rattle.latch_table.specs.declared.mode.Mode.{Mode}
use Rattle.latch_table.specs.declared.mode.Mode.TheVariants.{Shared, Exclusive, Cleanup}
use Rattle.latch_table.specs.declared.mode.Latch.{Latch}
use Rattle.latch_table.specs.Holdings.{excludes, latches_exclude, has_pin, without_latch, Holding, Table, holding_excludes, others_exclude, pins_exclude}

-- latches exclude if any of them does
pub latches_exclude-list_any : (latches : List Latch) (block : ℕ) (asked : Mode) → latches_exclude latches block asked ≡ list_any (λ held. (held.block == block) && excludes held.mode asked) latches
latches_exclude-list_any [] block asked = refl
latches_exclude-list_any (held ∷ latches) block asked = ap (λ rest. ((held.block == block) && excludes held.mode asked) || rest) (latches_exclude-list_any latches block asked)

pub has_pin-list_any : (pins : List ℕ) (block : ℕ) → has_pin pins block ≡ list_any (λ pinned. pinned == block) pins
has_pin-list_any [] block = refl
has_pin-list_any (pinned ∷ pins) block = ap (λ rest. (pinned == block) || rest) (has_pin-list_any pins block)

-- the list without its first element that passes; itself, if none does
unfoldable pub without : {X : Type 0} → (X → Bool) → List X → List X
without passes [] = []
without passes (x ∷ xs) = cond (passes x) xs (x ∷ without passes xs)

-- taking away the first element that passes, by its place
pub remove-position_or_len : {X : Type 0} (passes : X → Bool) (xs : List X) → remove xs (position_or_len passes xs) ≡ without passes xs
unfolding without
remove-position_or_len passes [] = refl
remove-position_or_len passes (x ∷ xs) =
    elim (passes x) as (λ b. remove (x ∷ xs) (cond (not b) (1 + position_or_len passes xs) 0) ≡ cond b xs (x ∷ without passes xs)) [
      | true ↦ refl
      | false ↦
          let n : ℕ = position_or_len passes xs in
          let up : 1 + n ≡ suc n = omega arith in
          rw up (ap (λ rest. x ∷ rest) (remove-position_or_len passes xs))
    ]

pub without_latch-without : (latches : List Latch) (block : ℕ) → without_latch latches block ≡ without (λ held. held.block == block) latches
unfolding without
without_latch-without [] block = refl
without_latch-without (held ∷ latches) block =
    ap (λ rest. cond (held.block == block) latches (held ∷ rest)) (without_latch-without latches block)

-- whether the holdings from this number on exclude, by the one there and those after it
others_exclude-drop : (table : Table) (number session block : ℕ) (asked : Mode) (any : Holding) → number < length table
    → others_exclude number (drop number table) session block asked
    ≡ ((not (number == session) && holding_excludes (get_or table number any) block asked) || others_exclude (number + 1) (drop (number + 1) table) session block asked)
others_exclude-drop table number session block asked any below =
    rw (drop-cons table number any below, add-one number) refl

-- a holding that doesn't exclude is passed
pub passes_on : (table : Table) (number session block : ℕ) (asked : Mode) (any : Holding) → number < length table
    → holding_excludes (get_or table number any) block asked ≡ false
    → others_exclude number (drop number table) session block asked ≡ others_exclude (number + 1) (drop (number + 1) table) session block asked
passes_on table number session block asked any below none =
    rw (others_exclude-drop table number session block asked any below, none, and-false (not (number == session))) refl

-- the session's own is passed
pub passes_own : (table : Table) (number session block : ℕ) (asked : Mode) (any : Holding) → number < length table → number ≡ session
    → others_exclude number (drop number table) session block asked ≡ others_exclude (number + 1) (drop (number + 1) table) session block asked
passes_own table number session block asked any below own =
    rw (others_exclude-drop table number session block asked any below, eq-eqb number session own) refl

chosen_none : {X : Type 0} (test : Bool) (x : X) → cond test (Some x) None ≡ None → test ≡ false
chosen_none true x none = absurd cc
chosen_none false x none = refl

-- if no element passes, none is taken away
pub without-none : {X : Type 0} (passes : X → Bool) (xs : List X) → position passes xs ≡ None → without passes xs ≡ xs
without-none passes xs none =
    let place : ℕ = position_or_len passes xs in
    let past : length xs ≤ place = ltb-false place (length xs) (chosen_none (nat_lt place (length xs)) place none) in
    sym (remove-position_or_len passes xs) ∙ simp (take_all place xs past, drop_of_length-le xs {i = suc place} (omega arith), append-nil)

-- a pin excludes no latch but a cleanup latch
pub pins_exclude-other : (pins : List ℕ) (block : ℕ) (asked : Mode) → (asked ≡ Cleanup → ⊥) → pins_exclude pins block asked ≡ false
pins_exclude-other pins block Shared other = refl
pins_exclude-other pins block Exclusive other = refl
pins_exclude-other pins block Cleanup other = absurd (other refl)
