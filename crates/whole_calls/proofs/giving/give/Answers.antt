use Rattle.std.proofs.Common.{◌≡◌, false, Ok, Err, Option, None, Some, sym, ap, ◌∙◌}
use Rattle.whole_calls.proofs.Imports.{here, Entry, given_of, given_outcome}
use Rattle.whole_calls.proofs.Composing.{is_later}
use Rattle.whole_calls.proofs.Made.{made_first}
use Rattle.whole_calls.proofs.Given.{give_made, given_caused, gives_goes}
use Rattle.whole_calls.proofs.Lasting.{scan_caused, scan_gives, scan_ends}
use Rattle.whole_calls.proofs.Refusing.{gone_after}
use Rattle.whole_calls.proofs.giving.give.Given.{Over}
use Rattle.whole_calls.proofs.giving.give.Goals.{In-Ok-Some, In-Ok-None, In-Err}
use Rattle.whole_calls.proofs.giving.give.Goals as goal

-- it gives this entry, by what it came to
gives_some : (g : Over) (c : In-Ok-Some g) → given_of c.seek-came.result ≡ Ok (Some c.in-Ok-Some.entry)
gives_some g c = sym c.given.ensures ∙ c.in-Ok-Some.is ∙ ap (λ (o : Option Entry). Ok o) c.in-Ok-Some.field-0-is

-- it has given all
gives_none : (g : Over) (c : In-Ok-None g) → given_of c.seek-came.result ≡ Ok None
gives_none g c = sym c.given.ensures ∙ c.in-Ok-None.is ∙ ap (λ (o : Option Entry). Ok o) c.in-Ok-None.field-0-is

-- it is refused with this fault
refuses : (g : Over) (c : In-Err g) → given_of c.seek-came.result ≡ Err c.in-Err.fault
refuses g c = sym c.given.ensures ∙ c.in-Err.is

pub returns-in-Ok-Some-clause-goes : goal.returns-in-Ok-Some-clause-goes
returns-in-Ok-Some-clause-goes g c = scan_gives c.seek-came.result c.in-Ok-Some.entry c.seek-came.ensures.kind (gives_some g c) c.seek-came.ensures.goes

pub returns-in-Ok-None-clause-goes : goal.returns-in-Ok-None-clause-goes
returns-in-Ok-None-clause-goes g c =
    scan_ends g.met.S.PageStore.laws c.seek-came.result (Ok None) c.seek-came.ensures.kind (gives_none g ((goal.at.returns-in-Ok-None-clause-goes g c).In-Ok-None)) (λ entry is. cc)
    c.seek-came.ensures.steps c.give_up.ensures.steps c.seek-came.ensures.goes c.give_up.ensures.goes

pub returns-in-Err-clause-goes : goal.returns-in-Err-clause-goes
returns-in-Err-clause-goes g c =
    scan_ends g.met.S.PageStore.laws c.seek-came.result (Err c.in-Err.fault) c.seek-came.ensures.kind (refuses g ((goal.at.returns-in-Err-clause-goes g c).In-Err)) (λ entry is. cc)
    c.seek-came.ensures.steps c.give_up-in-Err.ensures.steps c.seek-came.ensures.goes c.give_up-in-Err.ensures.goes

pub returns-in-Err-clause-cause : goal.returns-in-Err-clause-cause
returns-in-Err-clause-cause g c honest start history calls fits number call range is ask =
    let laws = g.met.S.PageStore.laws in
    let end = c.give_up-in-Err.ensures in
    let r = c.seek-came.ensures.goes ((is_later g.S.PageStore laws end.steps).honest honest) start history calls fits in
    let old = here g.T.DeadRows c.args.store.now c.args.calls.now c.args.sets.now in
    rw (gone_after g.S.PageStore c.args.session c.args.least_room false old c.seek-came.new.store c.give_up-in-Err.new.store end.backing end.acts end.frames)
    (rw (refuses g ((goal.at.returns-in-Err-clause-cause g c).In-Err)) at (given_caused _ c.seek-came.result c.seek-came.ensures.kind (scan_caused laws r.tells number call range is ask)))

pub returns-in-Ok-Some-clause-made : goal.returns-in-Ok-Some-clause-made
returns-in-Ok-Some-clause-made g c = give_made c.seek-came.result _ c.seek-came.ensures.kind (gives_some g c) c.seek-came.ensures.made

pub returns-in-Ok-None-clause-made : goal.returns-in-Ok-None-clause-made
returns-in-Ok-None-clause-made g c =
    made_first (given_outcome (Ok None))
    (give_made c.seek-came.result (Ok None) c.seek-came.ensures.kind (gives_none g ((goal.at.returns-in-Ok-None-clause-made g c).In-Ok-None)) c.seek-came.ensures.made)
    (c.give_up.ensures.made c.args.least_room)

pub returns-in-Err-clause-made : goal.returns-in-Err-clause-made
returns-in-Err-clause-made g c =
    made_first (given_outcome (Err c.in-Err.fault))
    (give_made c.seek-came.result (Err c.in-Err.fault) c.seek-came.ensures.kind (refuses g ((goal.at.returns-in-Err-clause-made g c).In-Err)) c.seek-came.ensures.made)
    (c.give_up-in-Err.ensures.made c.args.least_room)

pub returns-in-Ok-Some-clause-lasts : goal.returns-in-Ok-Some-clause-lasts
returns-in-Ok-Some-clause-lasts g c = c.seek-came.ensures.lasts (gives_goes c.seek-came.result c.in-Ok-Some.entry c.seek-came.ensures.kind (gives_some g c))
