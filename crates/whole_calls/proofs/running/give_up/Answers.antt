use Rattle.std.proofs.Common.{refl}
use Rattle.whole_calls.proofs.Imports.{End, MovesCall, GivesUp, EndMeans}
use Rattle.whole_calls.proofs.Composing.{goes_once, goes_told}
use Rattle.whole_calls.proofs.Made.{made_told, made_once}
use Rattle.whole_calls.proofs.Tellings.{ends_tells}
use Rattle.whole_calls.proofs.running.give_up.Goals as goal

pub returns-clause-goes : goal.returns-clause-goes
returns-clause-goes g c =
    let session = c.args.session in
    goes_told _
    (goes_once g.met.S.PageStore.laws {Tells = EndMeans session} (End session) refl c.one-answer.ensures.makes (λ start h hc k kc honest fits does. ends_tells session c.one-answer.result fits does))
    (λ start h hc k kc answers fits came told. (tt, told))

pub returns-clause-made : goal.returns-clause-made
returns-clause-made g c least_room =
    made_told (made_once (End c.args.session) (MovesCall c.args.session GivesUp) refl refl tt c.one-answer.ensures.makes) (λ answers among. tt)

pub returns-clause-ends : goal.returns-clause-ends
returns-clause-ends g c = (c.one-answer.result, c.one-answer.ensures.makes)
