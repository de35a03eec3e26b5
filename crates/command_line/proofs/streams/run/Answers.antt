use Rattle.std.proofs.Common.{rules, codes}
use Rattle.clap.specs.Words.{found_of, rows_of}
use Rattle.command_line.proofs.Kept.{keeps_same, none_then}
use Rattle.command_line.proofs.Named.{named_rows, none_named, nothing_named, flag_said, limits_said, setting_said, sizes_said, run_said}
use Rattle.command_line.proofs.streams.run.Goals.{in_default-via-in-Some+in_default, in_default-via-in_default}
use Rattle.command_line.proofs.streams.run.Goals as goal

pub returns-in-Some-play-default-clause-printed : goal.returns-in-Some-play-default-clause-printed
returns-in-Some-play-default-clause-printed g c =
    let arm = c.in-Some-play-default in record {
      does = record {
        words = rows_of (found_of arm.matches.now);
        setting = c.setting.result;
        names = named_rows _ _ (codes "play") _ arm.ensures.name arm.is-play arm.ensures.rows;
        said = setting_said (found_of arm.matches.now) _ c.setting.ensures;
        prints = record {
          run = c.play.ensures.run;
          asked = c.play.ensures.asked;
          silent = none_then _ c.play.ensures.silent (keeps_same _ _);
          refused = c.play.ensures.refused;
        };
      };
    }

pub returns-in-Some-run-default-clause-printed : goal.returns-in-Some-run-default-clause-printed
returns-in-Some-run-default-clause-printed g c =
    let arm = c.in-Some-run-default in record {
      does = record {
        words = rows_of (found_of arm.matches.now);
        workers = c.run_setting.result.workers;
        frames = c.run_setting.result.frames;
        names = named_rows _ _ (codes "run") _ arm.ensures.name arm.is-run arm.ensures.rows;
        said = run_said (found_of arm.matches.now) _ _ c.run_setting.ensures.sizes;
        prints = record {
          ends = c.run.ensures.ends;
          run = c.run.ensures.run;
          silent = none_then _ c.run.ensures.silent (keeps_same _ _);
          printed = c.run.ensures.printed;
          refused = c.run.ensures.refused;
        };
      };
    }

pub returns-in-Some-create-default-clause-printed : goal.returns-in-Some-create-default-clause-printed
returns-in-Some-create-default-clause-printed g c =
    let arm = c.in-Some-create-default in record {
      does = record {
        words = rows_of (found_of arm.matches.now);
        limits = c.limits.result;
        names = named_rows _ _ (codes "create") _ arm.ensures.name arm.is-create arm.ensures.rows;
        said = limits_said (found_of arm.matches.now) _ c.limits.ensures;
        prints = record {
          ends = c.create.ensures.ends;
          allowed = c.create.ensures.allowed;
          file = c.create.ensures.made;
          empty = c.create.ensures.empty;
          own = c.create.ensures.own;
          exact = c.create.ensures.exact;
          created = c.create.ensures.created;
          refused = c.create.ensures.refused;
          silent = λ fault is. keeps_same _ _ (c.create.ensures.silent fault is);
        };
      };
    }

pub returns-in-Some-copy-default-clause-printed : goal.returns-in-Some-copy-default-clause-printed
returns-in-Some-copy-default-clause-printed g c =
    let arm = c.in-Some-copy-default in record {
      does = record {
        words = rows_of (found_of arm.matches.now);
        sizes = c.copy_setting-asked.result.sizes;
        names = named_rows _ _ (codes "copy") _ arm.ensures.name arm.is-copy arm.ensures.rows;
        said = sizes_said (found_of arm.matches.now) _ c.copy_setting-asked.ensures;
        prints = record {
          ends = c.copy.ensures.ends;
          copied = c.copy.ensures.copied;
          done = c.copy.ensures.done;
          refused = c.copy.ensures.refused;
          cause = c.copy.ensures.cause;
          silent = λ fault is. keeps_same _ _ (c.copy.ensures.silent fault is);
        };
      };
    }

pub returns-in-Some-check-default-clause-printed : goal.returns-in-Some-check-default-clause-printed
returns-in-Some-check-default-clause-printed g c =
    let arm = c.in-Some-check-default in let checks = c.run_check.ensures in record {
      does = record {
        words = rows_of (found_of arm.matches.now);
        names = named_rows _ _ (codes "check") _ arm.ensures.name arm.is-check arm.ensures.rows;
        does = record {
          parents = checks.parents;
          flag = flag_said (found_of arm.matches.now) _ _ checks.flag;
          prints = checks.prints;
        };
      };
    }

pub returns-in-Some-dump-default-clause-printed : goal.returns-in-Some-dump-default-clause-printed
returns-in-Some-dump-default-clause-printed g c =
    let arm = c.in-Some-dump-default in record {
      does = record {
        words = rows_of (found_of arm.matches.now);
        names = named_rows _ _ (codes "dump") _ arm.ensures.name arm.is-dump arm.ensures.rows;
        prints = record {
          ends = c.dump.ensures.ends;
          opened = c.dump.ensures.opened;
          listed = c.dump.ensures.listed;
          refused = c.dump.ensures.refused;
          cause = c.dump.ensures.cause;
          silent = none_then _ c.dump.ensures.silent (keeps_same _ _);
        };
      };
    }

pub returns-in_default-clause-none : goal.returns-in_default-clause-none
returns-in_default-clause-none g c = elim c.in_default.branch [
  | in_default-via-in-Some+in_default w ↦ none_named _ w.in_default.field-0.0.now (search rules)
      (record { play = search rules; run = search rules; create = search rules; copy = search rules; check = search rules; dump = search rules })
  | in_default-via-in_default w ↦ nothing_named _ (search rules)
]
