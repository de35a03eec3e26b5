use Rattle.tests_reference.proofs.Adds.{is_add, adds_it}
use Rattle.tests_reference.proofs.insert.is_add_of.Goals as goal

pub returns-then-action-number : goal.returns-then-action-number
returns-then-action-number c = (
  λ yes. is_add c.args.action.now c.args.number c.in-Adds.added c.args.entry.now c.if-action-number.true c.in-Adds.is (c.is_same.ensures.0 yes),
  λ is. c.is_same.ensures.1 (adds_it c.args.action.now c.args.number c.in-Adds.added c.args.entry.now c.in-Adds.is is),
)
