use Rattle.std.proofs.Common.{refl, ◌∙◌}
use Rattle.std.proofs.lemmas.Result.{IfErr-weaker, on_ok_weaker}
use Rattle.index_model.specs.Order.{is_among}
use Rattle.index_copy.proofs.Entries.{among_both, or_left, or_right}
use Rattle.index_copy.proofs.Going.{err_as, gains_twice, goes_twice, refused_later, refused_more, refused_then}
use Rattle.index_copy.specs.Batches.{is_in_batch}
use Rattle.index_copy.proofs.putting.put_batch.Goals as goal

pub returns-in_err-put_each-clause-refused : goal.returns-in_err-put_each-clause-refused
returns-in_err-put_each-clause-refused g c =
    let batch = c.args.batch.now in
    let first = c.as_slice.result.now in
    let fault = c.in_err-put_each.field-0.0 in
    err_as c.from_residual.result fault _ c.from_residual.ensures.1
    (λ honest start history calls fits. refused_more g.S.PageStore (is_among first) (is_in_batch batch) c.args.index.now.store fault
    (λ e was. among_both first batch.first.items batch.others.items batch.others.items e c.as_slice.ensures.value refl ∙ or_left (is_among first e) (is_among batch.others.items e) was)
    (c.in_err-put_each.ensures.refused honest start history calls fits))

pub returns-in_err-put_each-clause-cause : goal.returns-in_err-put_each-clause-cause
returns-in_err-put_each-clause-cause g c =
    err_as c.from_residual.result c.in_err-put_each.field-0.0 _ c.from_residual.ensures.1 c.in_err-put_each.ensures.cause

pub returns-clause-cause : goal.returns-clause-cause
returns-clause-cause g c =
    IfErr-weaker c.put_each-2.result _ _
    (λ fault was. refused_later g.S.PageStore g.met.S.PageStore.laws c.args.index.now c.put_each.new.index c.put_each-2.new.index fault c.put_each.ensures.steps c.put_each.ensures.goes_on was)
    c.put_each-2.ensures.cause

pub returns-clause-goes_on : goal.returns-clause-goes_on
returns-clause-goes_on g c =
    goes_twice g.S.PageStore g.met.S.PageStore.laws c.args.index.now c.put_each.new.index c.put_each-2.new.index c.put_each-2.ensures.steps c.put_each.ensures.goes_on c.put_each-2.ensures.goes_on

pub returns-clause-gains : goal.returns-clause-gains
returns-clause-gains g c =
    let batch = c.args.batch.now in
    let first = c.as_slice.result.now in
    let others = c.as_slice-2.result.now in
    on_ok_weaker c.put_each-2.result
    (λ gains. gains_twice g.S.PageStore g.met.S.PageStore.laws c.args.index.now c.put_each.new.index c.put_each-2.new.index c.put_each-2.ensures.steps c.put_each.ensures.goes_on
    (is_among first) (is_among others) (is_in_batch batch) c.in_ok-put_each.ensures.gains gains
    (λ e. among_both first batch.first.items others batch.others.items e c.as_slice.ensures.value c.as_slice-2.ensures.value))
    c.put_each-2.ensures.gains

pub returns-clause-refused : goal.returns-clause-refused
returns-clause-refused g c =
    let batch = c.args.batch.now in
    let first = c.as_slice.result.now in
    let others = c.as_slice-2.result.now in
    IfErr-weaker c.put_each-2.result _ _
    (λ fault refused. refused_then g.S.PageStore g.met.S.PageStore.laws c.args.index.now c.put_each.new.index c.put_each-2.new.index c.put_each-2.ensures.steps c.put_each.ensures.goes_on
    (is_among first) (is_among others) (is_in_batch batch) c.in_ok-put_each.ensures.gains fault refused
    (λ e was. among_both first batch.first.items others batch.others.items e c.as_slice.ensures.value c.as_slice-2.ensures.value ∙ or_left (is_among first e) (is_among others e) was)
    (λ e was. among_both first batch.first.items others batch.others.items e c.as_slice.ensures.value c.as_slice-2.ensures.value ∙ or_right (is_among first e) (is_among others e) was))
    c.put_each-2.ensures.refused
