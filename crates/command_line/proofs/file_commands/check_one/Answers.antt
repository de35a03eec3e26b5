use Rattle.std.proofs.Common.{sym, subst}
use Rattle.command_line.proofs.Imports.{State, follows_same, AreSound}
use Rattle.command_line.proofs.Looked.{opening_refused, report_stays, damage_stays, check_refused}
use Rattle.command_line.proofs.file_commands.check_one.Goals as goal

pub returns-in-Ok-clause-opened : goal.returns-in-Ok-clause-opened
returns-in-Ok-clause-opened g c = record {
  first = c.in-Ok.store;
  opened = record { opened = c.in-Ok.ensures.opened; read = c.in-Ok.ensures.read; same = c.in-Ok.ensures.same };
  follows = c.check_pages_one-end.ensures.steps c.in-Ok.store (follows_same _);
  state_is = c.check_pages_one-end.ensures.state;
}

pub returns-in-Ok-clause-report : goal.returns-in-Ok-clause-report
returns-in-Ok-clause-report g c is = report_stays _ _ c.check_pages_one-end.ensures.state _ _ _ (c.check_pages_one-end.ensures.report is)

pub returns-in-Ok-clause-sound : goal.returns-in-Ok-clause-sound
returns-in-Ok-clause-sound g c is honest =
    subst (λ (st : State). AreSound c.args.parents st) (sym c.check_pages_one-end.ensures.state) (c.check_pages_one-end.ensures.sound is honest)

pub returns-in-Ok-clause-damage : goal.returns-in-Ok-clause-damage
returns-in-Ok-clause-damage g c is = damage_stays _ _ c.check_pages_one-end.ensures.state _ _ _ c.args.parents (c.check_pages_one-end.ensures.damage is)

pub returns-in-Ok-clause-refused : goal.returns-in-Ok-clause-refused
returns-in-Ok-clause-refused g c fault is =
    check_refused _ _ _ fault c.in-Ok.store _ (record { opened = c.in-Ok.ensures.opened; read = c.in-Ok.ensures.read; same = c.in-Ok.ensures.same })
    (c.check_pages_one-end.ensures.steps c.in-Ok.store (follows_same _)) c.check_pages_one-end.ensures.state (c.check_pages_one-end.ensures.refused fault is)

pub returns-in-Err-clause-refused : goal.returns-in-Err-clause-refused
returns-in-Err-clause-refused g c fault is =
    opening_refused _ _ _ _ c.in-Err.field-0.fault fault c.in-Err.field-0.device (let h = is in cc) c.in-Err.ensures.cause c.in-Err.ensures.untaken
