use Rattle.std.proofs.Common.{refl}
use Rattle.insert_split.proofs.insert.InsertOp.meet.Goals as goal

pub returns-in-Some-clause-meets : goal.returns-in-Some-clause-meets
returns-in-Some-clause-meets c = record {
  target = c.in-Some.target;
  block_is = c.in-Some.ensures.target.0;
  level_is = c.in-Some.ensures.target.1;
  page_level = c.in-Some.ensures.target.2;
  high_is = c.in-Some.ensures.target.3;
  finishes = record {
    op = c.new.result;
    after_is = refl;
    session = c.new.ensures.session;
    target_is = c.new.ensures.target;
    below = c.new.ensures.below;
    at = c.new.ensures.at;
  };
}
