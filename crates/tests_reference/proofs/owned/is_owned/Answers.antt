use Rattle.tests_reference.proofs.Imports.{is_among, action_of, history_of, call_of, meant_calls}
use Rattle.tests_reference.proofs.Owners.{no_call, call_found, by_call, by_no_call}
use Rattle.tests_reference.proofs.owned.is_owned.Goals as goal

pub returns-in-None : goal.returns-in-None
returns-in-None c =
    by_no_call (is_among c.args.start.now) (history_of c.args.history.now) (meant_calls c.args.calls.now) c.args.before (action_of c.args.action.now)
    (no_call c.args.action.now.by c.args.calls.now c.in-None.ensures.lookup.3)

pub returns-in-Some : goal.returns-in-Some
returns-in-Some c =
    let call = c.in-Some.call.now in
    by_call (is_among c.args.start.now) (history_of c.args.history.now) (meant_calls c.args.calls.now) c.args.before (action_of c.args.action.now)
    (call_of call) c.has_right.result (call_found c.args.action.now.by c.args.calls.now call c.in-Some.ensures.lookup.3.0 c.in-Some.ensures.lookup.1) c.has_right.ensures
