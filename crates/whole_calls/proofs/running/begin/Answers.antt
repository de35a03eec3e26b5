use Rattle.std.proofs.Common.{refl}
use Rattle.whole_calls.proofs.Imports.{BeginsCall}
use Rattle.whole_calls.proofs.Beginning.{beginning, beginning_is, begun_by, goes_begun}
use Rattle.whole_calls.proofs.Made.{made_told, made_once}
use Rattle.whole_calls.proofs.running.begin.Goals as goal

pub returns-clause-goes : goal.returns-clause-goes
returns-clause-goes g c = rw c.begun.ensures (goes_begun g.met.S.PageStore.laws c.args.session c.args.request c.nothing_is_counted.ensures c.begin.ensures.makes)

pub returns-clause-others : goal.returns-clause-others
returns-clause-others g c =
    let m = c.begin.ensures.makes in
    record { sessions = m.sessions; others = m.always.others c.args.session refl }

pub returns-clause-made : goal.returns-clause-made
returns-clause-made g c least_room =
    let m = c.begin.ensures.makes in
    let is = beginning_is c.args.session c.args.request in
    rw c.begun.ensures (made_told (made_once (beginning c.args.session c.args.request) (BeginsCall c.args.session c.args.request) is refl tt m) (λ xs. begun_by c.begin.result xs m.always.answers))
