use Rattle.std.proofs.Common.{take, ap, subst, ◌||◌, List, Result, ◌∙◌}
use Rattle.std.proofs.lemmas.List.{take_all}
use Rattle.access_method.specs.Indexes.{ForEachIndexHistory, has_entry}
use Rattle.access_method.specs.Refusals.{InsertHasCause}
use Rattle.index_model.specs.Order.{is_among, same_entry}
use Rattle.index_model.specs.declared.entry.Entry.{Entry}
use Rattle.index_model.specs.declared.fault.Fault.{Fault}
use Rattle.whole_calls.specs.declared.inserted.Inserted.{Inserted}
use Rattle.index_copy.proofs.Entries.{among_at, among_first, among_next}
use Rattle.index_copy.proofs.Going.{err_as, gains_one, gains_twice, goes_inserted, goes_twice, refused_one, refused_then, steps_twice, tokens_twice}
use Rattle.index_copy.proofs.putting.put_each.Goals as goal

pub returns-in_err-aminsert-clause-goes_on : goal.returns-in_err-aminsert-clause-goes_on
returns-in_err-aminsert-clause-goes_on g c =
    goes_twice g.S.PageStore g.met.S.PageStore.laws c.args.index.now c.loop-entry.index c.aminsert.new.self c.aminsert.ensures.steps c.loop-entry.invariant.goes_on
    (goes_inserted g.S.PageStore c.entry-item.result c.aminsert.result c.loop-entry.index c.aminsert.new.self c.aminsert.ensures.runs)

pub returns-in_err-aminsert-clause-refused : goal.returns-in_err-aminsert-clause-refused
returns-in_err-aminsert-clause-refused g c =
    let entries = c.args.entries.now in
    let at = c.loop-entry.entry-index in
    let entry = c.entry-item.result in
    let fault = c.in_err-aminsert.field-0.0 in
    err_as c.from_residual.result fault _ c.from_residual.ensures.1
    (refused_then g.S.PageStore g.met.S.PageStore.laws c.args.index.now c.loop-entry.index c.aminsert.new.self c.aminsert.ensures.steps c.loop-entry.invariant.goes_on
    (is_among (take at entries)) (same_entry entry) (is_among entries) c.loop-entry.invariant.gains fault
    (refused_one g.S.PageStore entry fault c.aminsert.result c.loop-entry.index c.aminsert.new.self c.in_err-aminsert.was c.aminsert.ensures.inserts)
    (λ e. among_first at entries e) (λ e. among_at entries at entry e c.loop-entry-test.true c.entry-item.is))

pub returns-in_err-aminsert-clause-cause : goal.returns-in_err-aminsert-clause-cause
returns-in_err-aminsert-clause-cause g c =
    let entry = c.entry-item.result in
    let fault = c.in_err-aminsert.field-0.0 in
    let last = c.loop-entry.index in
    let new = c.aminsert.new.self in
    err_as c.from_residual.result fault _ c.from_residual.ensures.1
    (record {
      entry = entry;
      last = last;
      steps = c.loop-entry.invariant.steps;
      goes = c.loop-entry.invariant.goes_on;
      cause = subst (λ (r : Result Inserted Fault). ForEachIndexHistory g.S.PageStore last new (λ start history calls. InsertHasCause g.S.PageStore entry r last new.store))
          c.in_err-aminsert.was c.aminsert.ensures.cause;
    })

pub loop-entry-preserved : goal.loop-entry-preserved
loop-entry-preserved g c =
    let so_far = c.loop-entry.invariant in
    let went = c.aminsert.ensures in
    let entries = c.args.entries.now in
    let at = c.loop-entry.entry-index in
    let entry = c.entry-item.result in
    record {
      steps = steps_twice g.S.PageStore.follows c.args.index.now.store c.loop-entry.index.store c.aminsert.new.self.store so_far.steps went.steps;
      goes_on = goes_twice g.S.PageStore g.met.S.PageStore.laws c.args.index.now c.loop-entry.index c.aminsert.new.self went.steps so_far.goes_on
          (goes_inserted g.S.PageStore entry c.aminsert.result c.loop-entry.index c.aminsert.new.self went.runs);
      gains = gains_twice g.S.PageStore g.met.S.PageStore.laws c.args.index.now c.loop-entry.index c.aminsert.new.self went.steps so_far.goes_on
          (is_among (take at entries)) (same_entry entry) _ so_far.gains
          (gains_one g.S.PageStore entry c.in_ok-aminsert.field-0 c.aminsert.result c.loop-entry.index c.aminsert.new.self c.in_ok-aminsert.was went.inserts)
          (λ e. among_next entries at entry e c.loop-entry-test.true c.entry-item.is);
      tokens = tokens_twice c.args.index.now c.loop-entry.index c.aminsert.new.self so_far.tokens went.tokens;
    }

pub returns-clause-gains : goal.returns-clause-gains
returns-clause-gains g c honest start history calls fits e =
    c.loop-entry.invariant.gains honest start history calls fits e
    ∙ ap (λ (l : List Entry). is_among l e || has_entry g.S.PageStore c.args.index.now.store e) (take_all c.loop-entry.entry-index c.args.entries.now c.loop-entry-test.false)
