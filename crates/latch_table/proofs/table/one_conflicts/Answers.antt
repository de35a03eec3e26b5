use Rattle.std.proofs.Common.{sym, ap, ◌∙◌}
use Rattle.latch_table.specs.Holdings.{Holding, holding_excludes, nothing_held}
use Rattle.latch_table.proofs.Scans.{passes_on, passes_own}
use Rattle.latch_table.proofs.table.one_conflicts.Goals.{else-number-session-via-then-number-session+else-excludes, else-number-session-via-else-number-session}
use Rattle.latch_table.proofs.table.one_conflicts.Goals as goal

pub loop-number-preserved : goal.loop-number-preserved
loop-number-preserved c =
    let holdings = c.args.holdings.now in
    let number = c.loop-number.number in
    elim c.else-number-session.branch [
      | else-number-session-via-then-number-session+else-excludes w ↦ c.loop-number.invariant
          ∙ passes_on holdings number c.args.session c.args.block c.args.mode w.index-holdings-number.result c.loop-number-test.true
          (ap (λ (h : Holding). holding_excludes h c.args.block c.args.mode) (sym w.index-holdings-number.is) ∙ sym w.excludes.ensures ∙ w.if-excludes.false)
      | else-number-session-via-else-number-session w ↦ c.loop-number.invariant
          ∙ passes_own holdings number c.args.session c.args.block c.args.mode nothing_held c.loop-number-test.true w.if-number-session.false
    ]
