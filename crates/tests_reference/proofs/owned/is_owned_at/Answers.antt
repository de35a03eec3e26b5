use Rattle.tests_reference.proofs.Imports.{is_among, action_of, history_of, meant_calls}
use Rattle.tests_reference.proofs.Moments.{no_action, action_found}
use Rattle.tests_reference.proofs.Owners.{of_action, of_no_action}
use Rattle.tests_reference.proofs.owned.is_owned_at.Goals as goal

pub returns-in-None : goal.returns-in-None
returns-in-None c =
    of_no_action (is_among c.args.start.now) (history_of c.args.history.now) (meant_calls c.args.calls.now) c.args.before
    (no_action c.args.before c.args.history.now c.in-None.ensures.lookup.3)

pub returns-in-Some : goal.returns-in-Some
returns-in-Some c =
    let action = c.in-Some.action.now in
    of_action (is_among c.args.start.now) (history_of c.args.history.now) (meant_calls c.args.calls.now) c.args.before (action_of action)
    c.is_owned.result (action_found c.args.before c.args.history.now action c.in-Some.ensures.lookup.3.0 c.in-Some.ensures.lookup.1) c.is_owned.ensures
