use Rattle.std.proofs.Common.{◌≡◌, Ok, Err, Result, IfErr, IfOk, OnOk, subst}
use Rattle.access_method.specs.declared.rows.RowSet.{RowSet}
use Rattle.index_model.specs.declared.fault.Fault.{Fault}
use Rattle.nardsill.proofs.calls.end_vacuum.Goals as goal

pub returns-clause-means : goal.returns-clause-means
returns-clause-means g c = record {
  outcome = c.ended.result;
  told = c.done.ensures.told;
  none = λ none. (
      let found = c.end_vacuum.ensures.none none in
      let refused = subst (λ (o : Result RowSet Fault). IfErr o (λ fault. (c.ended.result ≡ Err fault) × (c.ended.new.spent ≡ c.args.spent.now))) found.0 c.ended.ensures.err in
      ((refused.0, found.1), refused.1));
  ended = λ session seat. (
      let over = c.end_vacuum.ensures.ended session seat in (
        subst (λ (o : Result RowSet Fault). OnOk o (c.ended.result ≡ Ok tt)) over.0 c.ended.ensures.ok,
        over.1,
        subst (λ (o : Result RowSet Fault). IfOk o (λ rows. c.ended.new.spent ≡ rows)) over.0 c.ended.ensures.taken,
      ));
}
