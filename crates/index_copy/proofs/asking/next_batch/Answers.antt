use Rattle.std.proofs.Common.{◌≡◌, ◌<◌, ◌≤◌, ◌∙◌, ap, subst, arith, Result, Ok, Err, Option, Some, None}
use Rattle.access_method.specs.Indexes.{ForEachIndexHistory}
use Rattle.access_method.specs.Refusals.{GiveHasCause}
use Rattle.access_method.specs.Scans.{NextIs}
use Rattle.index_model.specs.declared.entry.Entry.{Entry}
use Rattle.index_model.specs.declared.fault.Fault.{Fault}
use Rattle.index_copy.specs.Batches.{batch_len}
use Rattle.index_copy.proofs.Going.{steps_twice, tokens_twice}
use Rattle.index_copy.proofs.Nexts.{breaks_off, fills_more, gives_last, gives_whole, next_as, runs_on}
use Rattle.index_copy.proofs.Seats.{seat_stays, tokens_given}
use Rattle.index_copy.proofs.asking.next_batch.Goals as goal

pub loop-token-preserved : goal.loop-token-preserved
loop-token-preserved g c =
    let so_far = c.loop-token.invariant in
    let went = c.amgettuple.ensures in
    let session = c.args.token.session in
    let old = c.args.index.now in
    let now = c.loop-token.index in
    let new = c.amgettuple.new.self in
    let entry = c.in-Ok-Some.entry in
    let is : c.amgettuple.result ≡ Ok (Some entry) = cc in
    let next : NextIs g.S.PageStore session c.amgettuple.result now new = record { steps = went.steps; runs = went.runs so_far.seat so_far.runs; answers = went.answers } in
    let same = tokens_given c.args.token c.amgettuple.result (Some entry) now new is (went.tokens so_far.seat) in
    let room : batch_len c.loop-token.batch < 4900 = omega (arith, c.len.ensures.len, c.loop-token-test.true) in
    record {
      seat = seat_stays c.args.token _ now new same so_far.seat;
      runs = runs_on c.amgettuple.result entry _ _ is went.lasts so_far.runs;
      steps = steps_twice g.S.PageStore.follows old.store now.store new.store so_far.steps went.steps;
      tokens = tokens_twice old now new so_far.tokens same;
      fills = fills_more g.S.PageStore session old now c.loop-token.batch so_far.fills entry new c.push.new.self
          (next_as g.S.PageStore session c.amgettuple.result (Ok (Some entry)) now new is next) room c.push.ensures.len c.push.ensures.each;
    }

pub returns-in-Ok-None-clause-gives : goal.returns-in-Ok-None-clause-gives
returns-in-Ok-None-clause-gives g c =
    let so_far = c.loop-token.invariant in
    let went = c.amgettuple.ensures in
    let session = c.args.token.session in
    let now = c.loop-token.index in
    let new = c.amgettuple.new.self in
    let is : c.amgettuple.result ≡ Ok None = c.in-Ok-None.is ∙ ap Ok c.in-Ok-None.field-0-is in
    let next : NextIs g.S.PageStore session c.amgettuple.result now new = record { steps = went.steps; runs = went.runs so_far.seat so_far.runs; answers = went.answers } in
    let room : batch_len c.loop-token.batch < 4900 = omega (arith, c.len.ensures.len, c.loop-token-test.true) in
    gives_last g.S.PageStore session c.args.index.now now c.loop-token.batch so_far.fills new (next_as g.S.PageStore session c.amgettuple.result (Ok None) now new is next) room

pub returns-in-Err-clause-breaks : goal.returns-in-Err-clause-breaks
returns-in-Err-clause-breaks g c =
    let so_far = c.loop-token.invariant in
    let went = c.amgettuple.ensures in
    let session = c.args.token.session in
    let now = c.loop-token.index in
    let new = c.amgettuple.new.self in
    let next : NextIs g.S.PageStore session c.amgettuple.result now new = record { steps = went.steps; runs = went.runs so_far.seat so_far.runs; answers = went.answers } in
    breaks_off g.S.PageStore session c.args.index.now now c.loop-token.batch so_far.fills c.in-Err.fault new
    (next_as g.S.PageStore session c.amgettuple.result (Err c.in-Err.fault) now new c.in-Err.is next)
    (subst (λ (r : Result (Option Entry) Fault). ForEachIndexHistory g.S.PageStore now new (GiveHasCause g.S.PageStore session r now new.store)) c.in-Err.is (went.cause so_far.seat))

pub returns-clause-gives : goal.returns-clause-gives
returns-clause-gives g c =
    let full : 4900 ≤ batch_len c.loop-token.batch = omega (arith, c.len.ensures.len, c.loop-token-test.false) in
    gives_whole g.S.PageStore c.args.token.session c.args.index.now c.loop-token.index c.loop-token.batch c.loop-token.invariant.fills full
