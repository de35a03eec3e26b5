use Rattle.std.proofs.Common.{rules, true, ap, subst, ◌≡◌, ◌∙◌, Option, Some}
use Rattle.session_calls.proofs.Imports.{ScanOp, SlotFits, Op, Scan}
use Rattle.session_calls.proofs.Scanning.{next_goes, next_refused}
use Rattle.session_calls.proofs.Slots.{shown}
use Rattle.session_calls.proofs.moves.next.Goals as goal
use Rattle.session_calls.proofs.moves.next.Goals.{in_default-via-in-Some+in_default, in_default-via-in_default}

pub returns-in-Some-Scan-clause-goes : goal.returns-in-Some-Scan-clause-goes
returns-in-Some-Scan-clause-goes c = λ st sets start history number call fits.
    let is = shown c.slot.inside.is_running c.slot.inside.op c.args.slot.now c.slot.view_is c.if-not-slot.false ∙ c.in-Some-Scan.is ∙ ap (λ (op : Op). Some op) c.in-Some-Scan.field-0-is in
    rw c.if-not-slot.false (next_goes _ st start history number call c.in-Some-Scan.op c.next.new.self c.next.result
    (subst (λ (slot : Option Op). SlotFits st sets start history number call slot) is fits) c.next.ensures)

pub returns-in_default-clause-goes : goal.returns-in_default-clause-goes
returns-in_default-clause-goes c st sets start history number call fits = elim c.in_default.branch [
  | in_default-via-in-Some+in_default w ↦ (
      let inside = shown c.slot.inside.is_running c.slot.inside.op c.args.slot.now c.slot.view_is c.if-not-slot.false in
      let is : c.args.slot.now ≡ Some w.in_default.field-0 = inside ∙ w.in_default.is in
      let other : (scan : ScanOp) → w.in_default.field-0 ≡ Scan scan → ⊥ = (search rules) in
      let running : c.in_default.slot-inside.is_running ≡ true = search rules in
      let same : c.in_default.slot-inside.op ≡ Some w.in_default.field-0 = search rules in
      rw (running, same)
      (next_refused st start history number call w.in_default.field-0 other
      (subst (λ (slot : Option Op). SlotFits st sets start history number call slot) is fits))
      )
  | in_default-via-in_default w ↦ (
      let inside = shown c.slot.inside.is_running c.slot.inside.op c.args.slot.now c.slot.view_is c.if-not-slot.false in
      absurd (subst (λ (slot : Option Op). SlotFits st sets start history number call slot) (inside ∙ w.in_default.is) fits))
]
