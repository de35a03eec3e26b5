use Rattle.std.proofs.Common.{sym, ◌∙◌}
use Rattle.nardsill.proofs.Refusals.{never_0, refusal_of}
use Rattle.nardsill.proofs.checking.check_opened.Goals as goal

-- the store that was opened, and what the verifier answered of its pages
pub returns-in-Ok : goal.returns-in-Ok
returns-in-Ok g c = record {
  judged = λ done. record {
    store = c.in-Ok.store;
    opened = c.in-Ok.ensures;
    last = c.check_parents_one.new.store;
    steps = c.check_parents_one.ensures.judged.steps;
    state_is = c.check_parents_one.ensures.judged.state;
    outcome = c.check_parents_one.result;
    told = c.told.ensures;
    answer = c.check_parents_one.ensures.judged.answer;
    tree = c.check_parents_one.ensures.tree;
  };
  refused = refusal_of c.check_parents_one.result c.told.result c.told.ensures;
}

pub returns-in-Err : goal.returns-in-Err
returns-in-Err g c = record {
  judged = λ done. absurd (never_0 c.in-Err.fault (sym c.refused.ensures.status ∙ done));
  refused = λ differs. (c.in-Err.fault, c.refused.ensures);
}
