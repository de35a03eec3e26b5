use Rattle.whole_calls.proofs.Inserting.{insert_goes, insert_caused, insert_comes}
use Rattle.whole_calls.proofs.Made.{made_told}
use Rattle.whole_calls.proofs.running.insert.Goals as goal

pub returns-clause-goes : goal.returns-clause-goes
returns-clause-goes g c =
    let came = c.run_call.result in
    rw c.outcome.ensures (insert_goes g.S.PageStore c.args.session c.args.least_room c.args.entry came.answer came.added c.run_call.ensures.ended c.run_call.ensures.goes)

pub returns-clause-cause : goal.returns-clause-cause
returns-clause-cause g c honest start history calls fits =
    let r = c.run_call.ensures.goes honest start history calls fits in
    rw c.outcome.ensures
    (insert_caused g.S.PageStore c.args.session c.args.least_room c.args.entry c.run_call.result.answer c.run_call.result.added c.run_call.ensures.ended r.tells)

pub returns-clause-made : goal.returns-clause-made
returns-clause-made g c =
    rw c.outcome.ensures
    (made_told c.run_call.ensures.made (λ xs. insert_comes c.args.entry c.run_call.result.answer c.run_call.result.added xs c.run_call.ensures.ended c.run_call.ensures.kind))
