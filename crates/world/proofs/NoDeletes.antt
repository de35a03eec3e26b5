-- A store without a cycle number has no bulk delete.
use Rattle.std.specs.Prelude.{◌≡◌, ℕ, true, false, Option, Some, None, List, slice_get, unwrap_or}
use Rattle.std.proofs.Common.{refl, sym, ap, ◌∙◌}
use Rattle.page_action.specs.States.{State}
use Rattle.session_calls.specs.Ops.{runs_bulk_delete}
use Rattle.session_calls.specs.declared.op.Op.{Op}
use Rattle.session_calls.specs.declared.op.Op.TheVariants.{Bulk}
use Rattle.schedule.specs.MomentInvariants.{OneVacuums, slot_is_bulk_delete}
use Rattle.schedule.proofs.Vacuums.{true_any}
use Rattle.schedule.proofs.Imports.{BulkDeleteOp}

pub none_deletes : (st : State) (slots : List (Option Op)) → OneVacuums st slots → runs_bulk_delete st ≡ false
    → (session set : ℕ) (op : BulkDeleteOp) → slice_get slots session ≡ Some (Some (Bulk set op)) → ⊥
none_deletes st slots vacuums idle session set op is =
    let runs = true_any slot_is_bulk_delete refl slots session (ap (λ (o : Option (Option Op)). slot_is_bulk_delete (unwrap_or o None)) is) in
    let both : true ≡ false = sym runs ∙ sym vacuums.cycle ∙ idle in cc
