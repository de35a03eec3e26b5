use Rattle.std.proofs.Common.{Some, Option, sym, ap, ◌∙◌, refl}
use Rattle.session_calls.proofs.Imports.{slice_get-get_or, Op}
use Rattle.session_calls.proofs.calls.Calls.end.Goals as goal

pub returns-clause-changes : goal.returns-clause-changes
returns-clause-changes g c runs = record {
  before = c.index_mut.result.now;
  after = c.end.new.slot;
  found = slice_get-get_or c.args.self.now.slots.items c.args.session c.index_mut.result.now
      (c.is_running.ensures.within (c.is_running.ensures.value ∙ runs)) ∙ ap (λ (o : Option Op). Some o) (sym c.index_mut.ensures.value);
  is = refl;
  how = record {
    kind = c.end.ensures.kind;
    over = c.end.ensures.over;
    backing = c.end.ensures.backing;
    given_up = c.end.ensures.given_up;
    goes = c.end.ensures.goes;
  };
}
