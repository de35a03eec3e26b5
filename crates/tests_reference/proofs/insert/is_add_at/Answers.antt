use Rattle.tests_reference.specs.Plain.{action_of, history_of}
use Rattle.tests_reference.proofs.Moments.{no_action, action_found}
use Rattle.tests_reference.proofs.Adds.{add_by, at_place, at_no_place}
use Rattle.tests_reference.proofs.insert.is_add_at.Goals as goal

pub returns-in-None : goal.returns-in-None
returns-in-None c =
    at_no_place (history_of c.args.history.now) c.args.before (add_by c.args.number c.args.entry.now)
    (no_action c.args.before c.args.history.now c.in-None.ensures.lookup.3)

pub returns-in-Some : goal.returns-in-Some
returns-in-Some c =
    let a = c.in-Some.action.now in
    at_place (history_of c.args.history.now) c.args.before (action_of a) (add_by c.args.number c.args.entry.now) c.is_add_of.result
    (action_found c.args.before c.args.history.now a c.in-Some.ensures.lookup.3.0 c.in-Some.ensures.lookup.1) c.is_add_of.ensures
