use Rattle.std.specs.Prelude.{◌≡◌, ◌⊎◌}
use Rattle.std.proofs.Common.{inl, inr, refl, arith}
use Rattle.index_model.specs.Formats.{made}
use Rattle.index_model.specs.Limits.{AreLimits}
use Rattle.index_model.specs.declared.fault.Fault.{Fault}
use Rattle.index_model.specs.declared.fault.Fault.TheVariants.{BadLimits, Io}
use Rattle.ledger_lines.specs.Opening.{new_limits}
use Rattle.ledger_lines.proofs.index_file.make.Goals as goal

pub returns-in-Ok-open-clause-begins : goal.returns-in-Ok-open-clause-begins
returns-in-Ok-open-clause-begins g c =
    let tree = c.new_indexes_are_trees.ensures (made new_limits) _ c.in-Ok.ensures.own in
    λ honest. record {
      pages = tree.pages;
      empty = tree.empty;
      begins = c.in-Ok-open.ensures.begins honest c.in-Ok-open.ensures.range (made new_limits) tree.pages tree.now tree.tree;
    }

-- a new ledger's sizes are in their ranges
new_is_allowed : AreLimits (made new_limits)
new_is_allowed = record {
  items_from = omega arith;
  items_to = omega arith;
  pages_from = omega arith;
  pages_to = omega arith;
  log_from = omega arith;
  log_to = omega arith;
  log_whole = refl;
  of_layout = λ is. refl;
}

io_alone : (fault : Fault) → ((fault ≡ BadLimits) × (AreLimits (made new_limits) → ⊥)) ⊎ ((fault ≡ Io) × AreLimits (made new_limits)) → fault ≡ Io
io_alone fault (inl never) = absurd (never.1 new_is_allowed)
io_alone fault (inr io) = io.0

pub returns-in-Err-clause-cause : goal.returns-in-Err-clause-cause
returns-in-Err-clause-cause g c = io_alone c.in-Err.not_made.fault c.in-Err.ensures.cause

pub returns-in-Err-open-clause-cause : goal.returns-in-Err-open-clause-cause
returns-in-Err-open-clause-cause g c honest =
    let tree = c.new_indexes_are_trees.ensures (made new_limits) _ c.in-Ok.ensures.own in
    c.in-Err-open.ensures.begins honest (omega arith, omega arith) (made new_limits) tree.pages tree.now tree.tree
