use Rattle.std.proofs.Common.{refl}
use Rattle.redo_log.proofs.Noting.{groups_noted_start, groups_noted_more, no_group_there, all_noted}
use Rattle.redo_log.proofs.reading.note_groups.Goals as goal

pub loop-at-init : goal.loop-at-init
loop-at-init c = groups_noted_start c.args.format.now c.args.log.now c.args.lasts.now c.requires.fresh c.requires.some

pub returns-in_err-at-clause-damaged : goal.returns-in_err-at-clause-damaged
returns-in_err-at-clause-damaged c = λ none. no_group_there c.args.format.now c.args.log.now c.loop-at.at c.loop-at.lasts c.loop-at.invariant c.loop-at-test.true (c.in_err-at.ensures.wrong refl)

pub loop-at-preserved : goal.loop-at-preserved
loop-at-preserved c =
    groups_noted_more c.args.format.now c.args.log.now c.loop-at.at c.loop-at.lasts c.loop-at.invariant c.in_ok-at.field-0 c.note_group.new.lasts c.loop-at-test.true c.in_ok-at.ensures.noted

pub returns-clause-noted : goal.returns-clause-noted
returns-clause-noted c = all_noted c.args.format.now c.args.log.now c.loop-at.at c.loop-at.lasts c.loop-at.invariant c.loop-at-test.false
