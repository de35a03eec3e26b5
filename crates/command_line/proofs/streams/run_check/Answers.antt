use Rattle.command_line.proofs.Kept.{keeps_same}
use Rattle.command_line.proofs.streams.run_check.Goals as goal

pub returns-then-has_one_thread : goal.returns-then-has_one_thread
returns-then-has_one_thread g c = record {
  parents = c.has_parents-parents.result;
  flag = c.has_parents-parents.ensures;
  prints = record {
    ends = c.check_one.ensures.ends;
    opened = c.check_one.ensures.opened;
    report = c.check_one.ensures.report;
    sound = c.check_one.ensures.sound;
    damage = c.check_one.ensures.damage;
    refused = c.check_one.ensures.refused;
    silent = λ fault is. keeps_same _ _ (c.check_one.ensures.silent fault is);
  };
}

pub returns-else-has_one_thread : goal.returns-else-has_one_thread
returns-else-has_one_thread g c = record {
  parents = c.has_parents-parents.result;
  flag = c.has_parents-parents.ensures;
  prints = record {
    ends = c.check.ensures.ends;
    opened = c.check.ensures.opened;
    report = c.check.ensures.report;
    sound = c.check.ensures.sound;
    damage = c.check.ensures.damage;
    refused = c.check.ensures.refused;
    silent = λ fault is. keeps_same _ _ (c.check.ensures.silent fault is);
  };
}
