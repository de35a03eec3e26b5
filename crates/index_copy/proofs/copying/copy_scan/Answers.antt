use Rattle.std.proofs.Common.{◌≡◌, ◌≢◌, arith}
use Rattle.index_copy.specs.Batches.{batch_len}
use Rattle.index_copy.proofs.Copied.{asked_batch, asked_refused, asked_so_far, breaks_after, copied_last, copied_more, refused_in}
use Rattle.index_copy.proofs.Going.{goes_twice, steps_twice, tokens_twice}
use Rattle.index_copy.proofs.Seats.{seat_stays}
use Rattle.index_copy.proofs.copying.copy_scan.Goals as goal

pub returns-in-Err-clause-asked : goal.returns-in-Err-clause-asked
returns-in-Err-clause-asked g c =
    let copied = c.loop-count.invariant.copied in
    asked_refused g.S.PageStore c.args.token.session copied.given c.args.from.now c.loop-count.from c.next_batch.new.index copied.gives c.in-Err.fault c.in-Err.ensures.breaks

pub returns-in-Err-clause-stopped : goal.returns-in-Err-clause-stopped
returns-in-Err-clause-stopped g c =
    let copied = c.loop-count.invariant.copied in
    breaks_after g.S.PageStore c.args.token.session copied.given c.args.from.now c.loop-count.from c.next_batch.new.index copied.gives c.in-Err.fault c.in-Err.ensures.breaks

pub returns-in-Err-put_batch-clause-asked : goal.returns-in-Err-put_batch-clause-asked
returns-in-Err-put_batch-clause-asked g c =
    let copied = c.loop-count.invariant.copied in
    asked_batch g.S.PageStore c.args.token.session copied.given c.args.from.now c.loop-count.from c.next_batch.new.index copied.gives c.in-Ok.batch c.in-Ok.ensures.gives

pub returns-in-Err-put_batch-clause-stopped : goal.returns-in-Err-put_batch-clause-stopped
returns-in-Err-put_batch-clause-stopped g c =
    let so_far = c.loop-count.invariant in
    refused_in g.S.PageStore g.T.PageStore g.met.T.PageStore.laws c.args.token.session c.loop-count.count c.args.from.now c.loop-count.from c.next_batch.new.index
    c.args.into.now c.loop-count.into c.put_batch.new.index c.put_batch.ensures.steps so_far.goes_on so_far.copied c.in-Ok.batch c.in-Ok.ensures.gives c.in-Err-put_batch.fault
    so_far.into_steps c.in-Err-put_batch.ensures.refused c.in-Err-put_batch.ensures.cause

pub returns-in-Err-put_batch-clause-goes_on : goal.returns-in-Err-put_batch-clause-goes_on
returns-in-Err-put_batch-clause-goes_on g c =
    goes_twice g.T.PageStore g.met.T.PageStore.laws c.args.into.now c.loop-count.into c.put_batch.new.index c.put_batch.ensures.steps c.loop-count.invariant.goes_on c.put_batch.ensures.goes_on

pub returns-then-len-lt-BATCH-clause-asked : goal.returns-then-len-lt-BATCH-clause-asked
returns-then-len-lt-BATCH-clause-asked g c =
    let copied = c.loop-count.invariant.copied in
    asked_batch g.S.PageStore c.args.token.session copied.given c.args.from.now c.loop-count.from c.next_batch.new.index copied.gives c.in-Ok.batch c.in-Ok.ensures.gives

pub returns-then-len-lt-BATCH-clause-copies : goal.returns-then-len-lt-BATCH-clause-copies
returns-then-len-lt-BATCH-clause-copies g c =
    let so_far = c.loop-count.invariant in
    let short : batch_len c.in-Ok.batch ≢ 4900 = λ full. omega (arith, c.len-in-loop-count.ensures.len, c.if-len-lt-BATCH.true, full) in
    copied_last g.S.PageStore g.T.PageStore g.met.T.PageStore.laws c.args.token.session c.loop-count.count c.args.from.now c.loop-count.from c.next_batch.new.index
    c.args.into.now c.loop-count.into c.put_batch.new.index c.put_batch.ensures.steps so_far.goes_on so_far.copied c.in-Ok.batch c.in-Ok.ensures.gives
    c.len.result c.len.ensures.len short c.in_default.ensures.gains

pub returns-then-len-lt-BATCH-clause-goes_on : goal.returns-then-len-lt-BATCH-clause-goes_on
returns-then-len-lt-BATCH-clause-goes_on g c =
    goes_twice g.T.PageStore g.met.T.PageStore.laws c.args.into.now c.loop-count.into c.put_batch.new.index c.put_batch.ensures.steps c.loop-count.invariant.goes_on c.put_batch.ensures.goes_on

pub loop-count-preserved : goal.loop-count-preserved
loop-count-preserved g c =
    let so_far = c.loop-count.invariant in
    let old = c.args.from.now in
    let now = c.loop-count.from in
    let new = c.next_batch.new.index in
    let into_old = c.args.into.now in
    let into_now = c.loop-count.into in
    let into_new = c.put_batch.new.index in
    let full : batch_len c.in-Ok.batch ≡ 4900 = omega (arith, c.len-in-loop-count.ensures.len, c.len-in-loop-count.ensures.few, c.if-len-lt-BATCH.false) in
    record {
      seat = seat_stays c.args.token _ now new c.in-Ok.ensures.tokens so_far.seat;
      runs = c.in-Ok.ensures.goes_on full;
      from_steps = steps_twice g.S.PageStore.follows old.store now.store new.store so_far.from_steps c.next_batch.ensures.steps;
      into_steps = steps_twice g.T.PageStore.follows into_old.store into_now.store into_new.store so_far.into_steps c.put_batch.ensures.steps;
      from_tokens = tokens_twice old now new so_far.from_tokens c.in-Ok.ensures.tokens;
      tokens = tokens_twice into_old into_now into_new so_far.tokens c.put_batch.ensures.tokens;
      goes_on = goes_twice g.T.PageStore g.met.T.PageStore.laws into_old into_now into_new c.put_batch.ensures.steps so_far.goes_on c.put_batch.ensures.goes_on;
      copied = copied_more g.S.PageStore g.T.PageStore g.met.T.PageStore.laws c.args.token.session c.loop-count.count old now new into_old into_now into_new c.put_batch.ensures.steps
          so_far.goes_on so_far.copied c.in-Ok.batch c.in-Ok.ensures.gives c.len.result c.len.ensures.len full c.in_default.ensures.gains;
    }

pub returns-clause-asked : goal.returns-clause-asked
returns-clause-asked g c =
    let copied = c.loop-count.invariant.copied in
    asked_so_far g.S.PageStore c.args.token.session copied.given c.args.from.now c.loop-count.from copied.gives

pub returns-clause-stopped : goal.returns-clause-stopped
returns-clause-stopped g c =
    let copied = c.loop-count.invariant.copied in
    let many = copied.many in
    record { given = copied.given; gives = copied.gives; many = omega (arith, many, c.loop-count-test.false) }
