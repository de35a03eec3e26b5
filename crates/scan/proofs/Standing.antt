-- What a scan holds.
use Rattle.std.proofs.Common.{◌≡◌, ◌≢◌, ℕ, ◌<◌, Bool, Option, Some, None, [], ◌∷◌, length, cond, refl, sym, ap, subst, ◌∙◌, arith}
use Rattle.latch_table.proofs.Tables.{length-pinned, length-unpinned, holding_of-pinned, holding_of-unpinned, holding_of-pinned_other, holding_of-unpinned_other}
use Rattle.tree_acts.specs.Steps.{AreApart}
use Rattle.descent.proofs.Tables.{apart_pins}
use Rattle.scan.proofs.Imports.{eq-eqb, Holding, Table, holding_of, without_pin, pinned, without_leaf, leaf_pinned}

-- the leaf is let go
pub without_many : (table : Table) (session : ℕ) (leaf : Option ℕ) → length (without_leaf table session leaf) ≡ length table
without_many table session None = refl
without_many table session (Some block) = length-unpinned table session block

pub without_apart : (table : Table) (session : ℕ) (leaf : Option ℕ) → session < length table → AreApart table → AreApart (without_leaf table session leaf)
without_apart table session None below apart = apart
without_apart table session (Some block) below apart = apart_pins table session _ below apart

pub without_other : (table : Table) (session : ℕ) (leaf : Option ℕ) (other : ℕ) → other ≢ session → holding_of (without_leaf table session leaf) other ≡ holding_of table other
without_other table session None other differ = refl
without_other table session (Some block) other differ = holding_of-unpinned_other table session other block differ

pub without_held : (table : Table) (session : ℕ) (leaf : Option ℕ) → session < length table → holding_of table session ≡ leaf_pinned leaf
    → holding_of (without_leaf table session leaf) session ≡ leaf_pinned None
without_held table session None below held = held
without_held table session (Some block) below held =
    holding_of-unpinned table session block below
    ∙ ap (λ (h : Holding). let k : Holding = record { latches = h.latches; pins = without_pin h.pins block } in k) held
    ∙ ap (λ (test : Bool). let k : Holding = record { latches = []; pins = cond test [] (block ∷ []) } in k) (eq-eqb block block refl)

-- another leaf is pinned
module _ (table : Table) (session : ℕ) (leaf : Option ℕ) (block : ℕ) (below : session < length table) where
  within : session < length (without_leaf table session leaf)
  within = (let w = without_many table session leaf in omega arith)

  pub stood_many : length (pinned (without_leaf table session leaf) session block) ≡ length table
  stood_many = length-pinned (without_leaf table session leaf) session block ∙ without_many table session leaf

  pub stood_apart : AreApart table → AreApart (pinned (without_leaf table session leaf) session block)
  stood_apart apart = apart_pins (without_leaf table session leaf) session _ within (without_apart table session leaf below apart)

  pub stood_other : (other : ℕ) → other ≢ session → holding_of (pinned (without_leaf table session leaf) session block) other ≡ holding_of table other
  stood_other other differ = holding_of-pinned_other (without_leaf table session leaf) session other block differ ∙ without_other table session leaf other differ

  pub stood_held : holding_of table session ≡ leaf_pinned leaf → holding_of (pinned (without_leaf table session leaf) session block) session ≡ leaf_pinned (Some block)
  stood_held held =
      let free = without_held table session leaf below held in
      holding_of-pinned (without_leaf table session leaf) session block within (subst (λ (h : Holding). length h.pins < 2) (sym free) (omega arith))
      ∙ ap (λ (h : Holding). let k : Holding = record { latches = h.latches; pins = block ∷ h.pins } in k) free
