use Rattle.std.specs.Prelude.{map}
use Rattle.std.proofs.Common.{subst, sym, Some, suc}
use Rattle.session_calls.proofs.Counting.{insert_counts, scan_counts}
use Rattle.session_calls.proofs.Hindering.{insert_hindered}
use Rattle.session_calls.proofs.Inserting.{insert_goes_on, insert_ends, insert_is_refused}
use Rattle.session_calls.proofs.Scanning.{moving_goes, ready_goes, done_goes, moving_stands, ready_stands}
use Rattle.std.proofs.Common.{Bool}
use Rattle.std.proofs.Common.{ap, refl}
use Rattle.session_calls.proofs.Refusing.{refused_steps, told_stopped, insert_told_stopped, insert_told_logged, scan_told_waiting, bulk_cause}
use Rattle.session_calls.proofs.Going.{step_is_refused, scans_insert_none}
use Rattle.session_calls.proofs.Imports.{IsDueIn, OpInvariant, CallFits, OpSteps, Op, HasCause, Row, BulkDeleteContinues, IsDueOf, causes_of_deleting, AskScan, ScanOp, Insert, Scan, Bulk, Cleanup}
use Rattle.session_calls.proofs.Imports.{Refused, InsertOp, BulkDeleteOp, CleanupOp, IsCounted}
use Rattle.session_calls.proofs.Deleting.{counted_on, counted_still, set_found, bulk_goes_on, bulk_finishes, bulk_is_refused}
use Rattle.session_calls.proofs.Cleaning.{cleaned_still, cleanup_goes_on, cleanup_finishes, cleanup_is_refused}
use Rattle.session_calls.proofs.op.Op.step.Goals as goal

pub returns-in-Ok-Going-clause-goes : goal.returns-in-Ok-Going-clause-goes
returns-in-Ok-Going-clause-goes g c honest start history number call fits =
    let mine = subst (λ (op : Op). CallFits (g.S.PageStore.state c.args.store.now) (map g.T.DeadRows.is_in c.args.sets.now) start history number call op) c.in-Insert.is fits in
    rw c.in-Insert.is (insert_goes_on (g.S.PageStore.state c.args.store.now) (g.S.PageStore.state c.step.new.store) (g.S.PageStore.backing c.args.store.now) (g.S.PageStore.backing c.step.new.store)
    start history number call c.in-Insert.op c.step.new.self mine c.step.ensures.all.session c.step.ensures.all.entry
    (rw c.in-Ok-Going.field-0-is at (c.in-Ok-Going.ensures.all.stepped honest mine.world.order mine.runs.fits)))

pub returns-in-Ok-Added-clause-goes : goal.returns-in-Ok-Added-clause-goes
returns-in-Ok-Added-clause-goes g c honest start history number call fits =
    let mine = subst (λ (op : Op). CallFits (g.S.PageStore.state c.args.store.now) (map g.T.DeadRows.is_in c.args.sets.now) start history number call op) c.in-Insert.is fits in
    rw c.in-Insert.is (insert_ends (g.S.PageStore.state c.args.store.now) (g.S.PageStore.state c.step.new.store) (g.S.PageStore.backing c.args.store.now) (g.S.PageStore.backing c.step.new.store)
    start history number call c.in-Insert.op c.step.new.self mine c.step.ensures.all.session c.step.ensures.all.entry c.in-Ok-Added.action c.in-Ok-Added.unfinished
    (rw c.in-Ok-Added.field-0-is at (c.in-Ok-Added.ensures.all.stepped honest mine.world.order mine.runs.fits)))

pub returns-in-Err-clause-goes : goal.returns-in-Err-clause-goes
returns-in-Err-clause-goes g c honest start history number call fits =
    let mine = subst (λ (op : Op). CallFits (g.S.PageStore.state c.args.store.now) (map g.T.DeadRows.is_in c.args.sets.now) start history number call op) c.in-Insert.is fits in
    rw c.in-Insert.is (insert_is_refused (g.S.PageStore.state c.args.store.now) (g.S.PageStore.state c.step.new.store) (g.S.PageStore.backing c.args.store.now) (g.S.PageStore.backing c.step.new.store)
    start history number call c.in-Insert.op c.step.new.self mine c.step.ensures.all.session c.step.ensures.all.entry c.in-Err.fault
    c.in-Err.ensures.all.refused c.in-Err.ensures.logged (c.in-Err.ensures.all.stepped honest mine.world.order mine.runs.fits))

pub returns-in-Ok-Going-step-clause-goes : goal.returns-in-Ok-Going-step-clause-goes
returns-in-Ok-Going-step-clause-goes g c honest start history number call fits =
    let mine = subst (λ (op : Op). CallFits (g.S.PageStore.state c.args.store.now) (map g.T.DeadRows.is_in c.args.sets.now) start history number call op) c.in-Scan.is fits in
    rw c.in-Scan.is (moving_goes _ (g.S.PageStore.state c.args.store.now) (g.S.PageStore.state c.step-in-Scan.new.store) start history number call c.in-Scan.op c.step-in-Scan.new.self mine
    c.step-in-Scan.ensures.all.session c.step-in-Scan.ensures.all.range (rw c.in-Ok-Going-step.field-0-is at (c.in-Ok-Going-step.ensures.all.stepped honest mine.world.order mine.runs.fits)))

pub returns-in-Ok-Ready-clause-goes : goal.returns-in-Ok-Ready-clause-goes
returns-in-Ok-Ready-clause-goes g c honest start history number call fits =
    let mine = subst (λ (op : Op). CallFits (g.S.PageStore.state c.args.store.now) (map g.T.DeadRows.is_in c.args.sets.now) start history number call op) c.in-Scan.is fits in
    rw c.in-Scan.is (ready_goes _ (g.S.PageStore.state c.args.store.now) (g.S.PageStore.state c.step-in-Scan.new.store) start history number call c.in-Scan.op c.step-in-Scan.new.self mine
    c.step-in-Scan.ensures.all.session c.step-in-Scan.ensures.all.range c.in-Ok-Ready.count (rw c.in-Ok-Ready.field-0-is at (c.in-Ok-Ready.ensures.all.stepped honest mine.world.order mine.runs.fits)))

pub returns-in-Ok-Done-clause-goes : goal.returns-in-Ok-Done-clause-goes
returns-in-Ok-Done-clause-goes g c honest start history number call fits =
    let mine = subst (λ (op : Op). CallFits (g.S.PageStore.state c.args.store.now) (map g.T.DeadRows.is_in c.args.sets.now) start history number call op) c.in-Scan.is fits in
    rw c.in-Scan.is (done_goes _ (g.S.PageStore.state c.args.store.now) (g.S.PageStore.state c.step-in-Scan.new.store) start history number call c.in-Scan.op c.step-in-Scan.new.self mine
    c.step-in-Scan.ensures.all.session c.step-in-Scan.ensures.all.range (rw c.in-Ok-Done.field-0-is at (c.in-Ok-Done.ensures.all.stepped honest mine.world.order mine.runs.fits)))

pub returns-in-Ok-Going-clause-due : goal.returns-in-Ok-Going-clause-due
returns-in-Ok-Going-clause-due g c honest order fits left due =
    let old = g.S.PageStore.state c.args.store.now in
    let mine = subst (λ (op : Op). OpInvariant old op) c.in-Insert.is fits in
    let mine_due = subst (λ (op : Op). IsDueIn old (Some op) (suc left)) c.in-Insert.is due in
    let all = c.in-Ok-Going.ensures.all in
    let counted = rw c.in-Ok-Going.field-0-is at (all.straight honest order mine mine_due.whole mine_due.position mine_due.room) in
    insert_counts old (g.S.PageStore.state c.step.new.store) c.in-Insert.op c.step.new.self left mine_due c.step.ensures.all.entry
    (rw c.in-Ok-Going.field-0-is at (all.stepped honest order mine)) counted.0 counted.1

pub returns-in-Err-clause-due : goal.returns-in-Err-clause-due
returns-in-Err-clause-due g c honest order fits left due =
    let old = g.S.PageStore.state c.args.store.now in
    let mine = subst (λ (op : Op). OpInvariant old op) c.in-Insert.is fits in
    let mine_due = subst (λ (op : Op). IsDueIn old (Some op) (suc left)) c.in-Insert.is due in
    insert_hindered old (g.S.PageStore.state c.step.new.store) (g.S.PageStore.backing c.args.store.now) (g.S.PageStore.backing c.step.new.store) c.in-Insert.op c.step.new.self left c.in-Err.fault
    order mine mine_due c.in-Err.ensures.all.refused (c.in-Err.ensures.all.stepped honest order mine)

pub returns-in-Ok-Going-step-clause-due : goal.returns-in-Ok-Going-step-clause-due
returns-in-Ok-Going-step-clause-due g c honest order fits left due =
    let old = g.S.PageStore.state c.args.store.now in
    let mine = subst (λ (op : Op). OpInvariant old op) c.in-Scan.is fits in
    let mine_due = subst (λ (op : Op). IsDueIn old (Some op) (suc left)) c.in-Scan.is due in
    let all = c.in-Ok-Going-step.ensures.all in
    let counted = rw c.in-Ok-Going-step.field-0-is at (all.straight honest order mine_due.whole mine_due.none mine_due.position) in
    scan_counts old (g.S.PageStore.state c.step-in-Scan.new.store) c.in-Scan.op c.step-in-Scan.new.self left mine_due
    (rw c.in-Ok-Going-step.field-0-is at (all.stepped honest order mine)) counted.0 counted.1

pub returns-in-Ok-Going-step-clause-stands : goal.returns-in-Ok-Going-step-clause-stands
returns-in-Ok-Going-step-clause-stands g c honest order fits =
    let mine = subst (λ (op : Op). OpInvariant (g.S.PageStore.state c.args.store.now) op) c.in-Scan.is fits in
    rw c.in-Scan.is (moving_stands (g.S.PageStore.state c.args.store.now) (g.S.PageStore.state c.step-in-Scan.new.store) c.in-Scan.op c.step-in-Scan.new.self
    (rw c.in-Ok-Going-step.field-0-is at (c.in-Ok-Going-step.ensures.all.stepped honest order mine)))

pub returns-in-Ok-Ready-clause-stands : goal.returns-in-Ok-Ready-clause-stands
returns-in-Ok-Ready-clause-stands g c honest order fits =
    let mine = subst (λ (op : Op). OpInvariant (g.S.PageStore.state c.args.store.now) op) c.in-Scan.is fits in
    rw c.in-Scan.is (ready_stands (g.S.PageStore.state c.args.store.now) (g.S.PageStore.state c.step-in-Scan.new.store) c.in-Scan.op c.step-in-Scan.new.self c.in-Ok-Ready.count
    (rw c.in-Ok-Ready.field-0-is at (c.in-Ok-Ready.ensures.all.stepped honest order mine)))

pub returns-in-Ok-Going-step-2-clause-goes : goal.returns-in-Ok-Going-step-2-clause-goes
returns-in-Ok-Going-step-2-clause-goes g c honest start history number call fits =
    let old = g.S.PageStore.state c.args.store.now in
    let new = g.S.PageStore.state c.step-in-Some.new.store in
    let sets = map g.T.DeadRows.is_in c.args.sets.now in
    let mine = subst (λ (op : Op). CallFits old sets start history number call op) c.in-Bulk.is fits in
    let dead_is = set_found g.T.DeadRows.is_in c.args.sets.now c.in-Bulk.set c.in-Some.dead.now c.in-Some.ensures.lookup.3.0 c.in-Some.ensures.lookup.1 in
    let step = rw c.in-Ok-Going-step-2.field-0-is at (c.in-Ok-Going-step-2.ensures.all.stepped honest mine.world.order mine.runs.fits) in
    let comes = c.in-Ok-Going-step-2.ensures.all.due honest in
    rw c.in-Bulk.is (bulk_goes_on old new (g.S.PageStore.backing c.args.store.now) (g.S.PageStore.backing c.step-in-Some.new.store) start history
    number call c.in-Bulk.set c.in-Bulk.op c.step-in-Some.new.self mine
    c.step-in-Some.ensures.all.session (subst (λ (d : Row → Bool). BulkDeleteContinues d old new c.in-Bulk.op c.step-in-Some.new.self) dead_is step)
    (λ due are before. rw c.in-Ok-Going-step-2.field-0-is at (comes due (subst (λ (d : Row → Bool). IsDueOf d due) (sym dead_is) are) before)))

pub returns-in-Ok-Finished-clause-goes : goal.returns-in-Ok-Finished-clause-goes
returns-in-Ok-Finished-clause-goes g c honest start history number call fits =
    let old = g.S.PageStore.state c.args.store.now in
    let new = g.S.PageStore.state c.step-in-Some.new.store in
    let sets = map g.T.DeadRows.is_in c.args.sets.now in
    let mine = subst (λ (op : Op). CallFits old sets start history number call op) c.in-Bulk.is fits in
    let dead_is = set_found g.T.DeadRows.is_in c.args.sets.now c.in-Bulk.set c.in-Some.dead.now c.in-Some.ensures.lookup.3.0 c.in-Some.ensures.lookup.1 in
    let step = rw c.in-Ok-Finished.field-0-is at (c.in-Ok-Finished.ensures.all.stepped honest mine.world.order mine.runs.fits) in
    let told = rw c.in-Ok-Finished.field-0-is at c.in-Ok-Finished.ensures.all.stats in
    let comes = c.in-Ok-Finished.ensures.all.due honest in
    rw c.in-Bulk.is (bulk_finishes old new (g.S.PageStore.backing c.args.store.now) (g.S.PageStore.backing c.step-in-Some.new.store) start history
    number call c.in-Bulk.set c.in-Bulk.op c.step-in-Some.new.self mine
    c.step-in-Some.ensures.all.session c.in-Ok-Finished.stats step told
    (λ due are before. rw c.in-Ok-Finished.field-0-is at (comes due (subst (λ (d : Row → Bool). IsDueOf d due) (sym dead_is) are) before)))

pub returns-in-Err-step-clause-goes : goal.returns-in-Err-step-clause-goes
returns-in-Err-step-clause-goes g c honest start history number call fits =
    let old = g.S.PageStore.state c.args.store.now in
    let mine = subst (λ (op : Op). CallFits old (map g.T.DeadRows.is_in c.args.sets.now) start history number call op) c.in-Scan.is fits in
    rw c.in-Scan.is (step_is_refused _ old (g.S.PageStore.state c.step-in-Scan.new.store) start history number call (Scan c.in-Scan.op) (Scan c.step-in-Scan.new.self) mine
    c.step-in-Scan.ensures.all.session (ap AskScan c.step-in-Scan.ensures.all.range) c.in-Err-step.fault c.in-Err-step.ensures.all.refused.state
    (ap (λ (op : ScanOp). Scan op) c.in-Err-step.ensures.all.refused.op) (c.in-Err-step.ensures.all.stepped honest mine.world.order mine.runs.fits)
    (λ ends. refl) (λ e asks there. absurd (scans_insert_none c.in-Scan.op.range e asks)) (λ e asks r there. absurd (scans_insert_none c.in-Scan.op.range e asks)))

pub returns-in-Ok-Going-step-2-clause-pins : goal.returns-in-Ok-Going-step-2-clause-pins
returns-in-Ok-Going-step-2-clause-pins g c honest =
    let pins = c.in-Ok-Going-step-2.ensures.all.pins honest in
    rw c.in-Bulk.is (λ other block page differ leaf pinned before. rw c.in-Ok-Going-step-2.field-0-is at (pins other block page differ leaf pinned before))

pub returns-in-Ok-Finished-clause-pins : goal.returns-in-Ok-Finished-clause-pins
returns-in-Ok-Finished-clause-pins g c honest =
    let pins = c.in-Ok-Finished.ensures.all.pins honest in
    rw c.in-Bulk.is (λ other block page differ leaf pinned before. rw c.in-Ok-Finished.field-0-is at (pins other block page differ leaf pinned before))

pub returns-in-Ok-Going-step-2-clause-entries : goal.returns-in-Ok-Going-step-2-clause-entries
returns-in-Ok-Going-step-2-clause-entries g c honest =
    let old = g.S.PageStore.state c.args.store.now in
    let new = g.S.PageStore.state c.step-in-Some.new.store in
    let sets = map g.T.DeadRows.is_in c.args.sets.now in
    let dead_is = set_found g.T.DeadRows.is_in c.args.sets.now c.in-Bulk.set c.in-Some.dead.now c.in-Some.ensures.lookup.3.0 c.in-Some.ensures.lookup.1 in
    let counts = c.in-Ok-Going-step-2.ensures.all.counts honest in
    rw c.in-Bulk.is (λ counted. (
      counted_on sets c.in-Bulk.set (g.T.DeadRows.is_in c.in-Some.dead.now) new c.step-in-Some.new.self dead_is
          (rw c.in-Ok-Going-step-2.field-0-is at (counts (subst (λ (d : Row → Bool). IsCounted d old c.in-Bulk.op) (sym dead_is) counted))),
      tt,
    ))

pub returns-in-Ok-Finished-clause-entries : goal.returns-in-Ok-Finished-clause-entries
returns-in-Ok-Finished-clause-entries g c honest =
    let old = g.S.PageStore.state c.args.store.now in
    let dead_is = set_found g.T.DeadRows.is_in c.args.sets.now c.in-Bulk.set c.in-Some.dead.now c.in-Some.ensures.lookup.3.0 c.in-Some.ensures.lookup.1 in
    let counts = c.in-Ok-Finished.ensures.all.counts honest in
    rw c.in-Bulk.is (λ counted. (tt, rw c.in-Ok-Finished.field-0-is at (counts (subst (λ (d : Row → Bool). IsCounted d old c.in-Bulk.op) (sym dead_is) counted))))

pub returns-in-Ok-Going-step-3-clause-goes : goal.returns-in-Ok-Going-step-3-clause-goes
returns-in-Ok-Going-step-3-clause-goes g c honest start history number call fits =
    let old = g.S.PageStore.state c.args.store.now in
    let new = g.S.PageStore.state c.step-in-Cleanup.new.store in
    let mine = subst (λ (op : Op). CallFits old (map g.T.DeadRows.is_in c.args.sets.now) start history number call op) c.in-Cleanup.is fits in
    rw c.in-Cleanup.is (cleanup_goes_on old new (g.S.PageStore.backing c.args.store.now) (g.S.PageStore.backing c.step-in-Cleanup.new.store) start
    history number call c.in-Cleanup.op c.step-in-Cleanup.new.self mine
    c.step-in-Cleanup.ensures.all.session
    (rw c.in-Ok-Going-step-3.field-0-is at (c.in-Ok-Going-step-3.ensures.all.stepped honest mine.world.order mine.world.starts mine.runs.fits)) (c.step-in-Cleanup.ensures.all.pins honest))

pub returns-in-Ok-Finished-step-clause-goes : goal.returns-in-Ok-Finished-step-clause-goes
returns-in-Ok-Finished-step-clause-goes g c honest start history number call fits =
    let old = g.S.PageStore.state c.args.store.now in
    let new = g.S.PageStore.state c.step-in-Cleanup.new.store in
    let mine = subst (λ (op : Op). CallFits old (map g.T.DeadRows.is_in c.args.sets.now) start history number call op) c.in-Cleanup.is fits in
    rw c.in-Cleanup.is (cleanup_finishes old new (g.S.PageStore.backing c.args.store.now) (g.S.PageStore.backing c.step-in-Cleanup.new.store) start
    history number call c.in-Cleanup.op c.step-in-Cleanup.new.self mine
    c.step-in-Cleanup.ensures.all.session c.in-Ok-Finished-step.stats
    (rw c.in-Ok-Finished-step.field-0-is at (c.in-Ok-Finished-step.ensures.all.stepped honest mine.world.order mine.world.starts mine.runs.fits)))

pub returns-in-Err-step-3-clause-goes : goal.returns-in-Err-step-3-clause-goes
returns-in-Err-step-3-clause-goes g c honest start history number call fits =
    let old = g.S.PageStore.state c.args.store.now in
    let new = g.S.PageStore.state c.step-in-Cleanup.new.store in
    let mine = subst (λ (op : Op). CallFits old (map g.T.DeadRows.is_in c.args.sets.now) start history number call op) c.in-Cleanup.is fits in
    rw c.in-Cleanup.is (cleanup_is_refused old new (g.S.PageStore.backing c.args.store.now) (g.S.PageStore.backing c.step-in-Cleanup.new.store) start
    history number call c.in-Cleanup.op c.step-in-Cleanup.new.self mine
    c.step-in-Cleanup.ensures.all.session c.in-Err-step-3.fault c.in-Err-step-3.ensures.all.refused
    (c.in-Err-step-3.ensures.all.stepped honest mine.world.order mine.world.starts mine.runs.fits))

pub returns-in-Ok-Going-step-3-clause-entries : goal.returns-in-Ok-Going-step-3-clause-entries
returns-in-Ok-Going-step-3-clause-entries g c honest =
    let counts = c.in-Ok-Going-step-3.ensures.all.counts honest in
    rw c.in-Cleanup.is (λ fits cleaned. (rw c.in-Ok-Going-step-3.field-0-is at (counts fits cleaned), tt))

pub returns-in-Ok-Finished-step-clause-entries : goal.returns-in-Ok-Finished-step-clause-entries
returns-in-Ok-Finished-step-clause-entries g c honest =
    let counts = c.in-Ok-Finished-step.ensures.all.counts honest in
    rw c.in-Cleanup.is (λ fits cleaned. (tt, rw c.in-Ok-Finished-step.field-0-is at (counts fits cleaned)))

pub returns-in-Ok-Going-step-3-clause-deletes : goal.returns-in-Ok-Going-step-3-clause-deletes
returns-in-Ok-Going-step-3-clause-deletes g c honest =
    let deletes = c.in-Ok-Going-step-3.ensures.all.deletes honest in
    rw c.in-Cleanup.is (rw c.in-Ok-Going-step-3.field-0-is at deletes)

pub returns-in-Ok-Finished-step-clause-deletes : goal.returns-in-Ok-Finished-step-clause-deletes
returns-in-Ok-Finished-step-clause-deletes g c honest =
    let deletes = c.in-Ok-Finished-step.ensures.all.deletes honest in
    rw c.in-Cleanup.is (rw c.in-Ok-Finished-step.field-0-is at deletes)

pub returns-in-Ok-Going-step-3-clause-spares : goal.returns-in-Ok-Going-step-3-clause-spares
returns-in-Ok-Going-step-3-clause-spares g c honest =
    let spares = c.in-Ok-Going-step-3.ensures.all.spares honest in
    rw c.in-Cleanup.is (λ order below fits alone sparing. (rw c.in-Ok-Going-step-3.field-0-is at (spares order below fits alone sparing), tt))

pub returns-in-Ok-Finished-step-clause-spares : goal.returns-in-Ok-Finished-step-clause-spares
returns-in-Ok-Finished-step-clause-spares g c honest =
    let spares = c.in-Ok-Finished-step.ensures.all.spares honest in
    rw c.in-Cleanup.is (λ order below fits alone sparing. (tt, rw c.in-Ok-Finished-step.field-0-is at (spares order below fits alone sparing)))

pub returns-in-Err-step-2-clause-goes : goal.returns-in-Err-step-2-clause-goes
returns-in-Err-step-2-clause-goes g c honest start history number call fits =
    let old = g.S.PageStore.state c.args.store.now in
    let first = g.S.PageStore.backing c.args.store.now in
    let second = g.S.PageStore.backing c.step-in-Some.new.store in
    let mine = subst (λ (op : Op). CallFits old (map g.T.DeadRows.is_in c.args.sets.now) start history number call op) c.in-Bulk.is fits in
    let dead_is = set_found g.T.DeadRows.is_in c.args.sets.now c.in-Bulk.set c.in-Some.dead.now c.in-Some.ensures.lookup.3.0 c.in-Some.ensures.lookup.1 in
    rw c.in-Bulk.is (bulk_is_refused old (g.S.PageStore.state c.step-in-Some.new.store) (g.S.PageStore.backing c.args.store.now) (g.S.PageStore.backing c.step-in-Some.new.store)
    start history number call c.in-Bulk.set c.in-Bulk.op c.step-in-Some.new.self mine
    c.step-in-Some.ensures.all.session c.in-Err-step-2.fault c.in-Err-step-2.ensures.all.refused
    (subst (λ (d : Row → Bool). HasCause (causes_of_deleting d old first second c.in-Bulk.op) c.in-Err-step-2.fault) dead_is
    (c.in-Err-step-2.ensures.all.stepped honest mine.world.order mine.runs.fits)))

pub returns-in-Err-clause-all : goal.returns-in-Err-clause-all
returns-in-Err-clause-all g c =
    let before = c.in-Insert.op in
    let told = c.in-Err.ensures.all in
    subst (λ (op : Op). OpSteps g.S.PageStore op (Insert c.step.new.self) c.args.store.now c.step.new.store (Refused c.in-Err.fault)) (sym c.in-Insert.is)
    (refused_steps g.S.PageStore (Insert before) (Insert c.step.new.self) c.args.store.now c.step.new.store c.in-Err.fault told.steps told.kept
    told.refused.state (ap (λ (op : InsertOp). Insert op) told.refused.op)
    (λ is_stopped. insert_told_stopped before.added c.in-Err.fault (told.stopped is_stopped)) (λ alive some. absurd (some refl))
    c.in-Err.ensures.faults (insert_told_logged before.added c.in-Err.fault c.in-Err.ensures.logged))

pub returns-in-Err-step-clause-all : goal.returns-in-Err-step-clause-all
returns-in-Err-step-clause-all g c =
    let before = c.in-Scan.op in
    let told = c.in-Err-step.ensures.all in
    subst (λ (op : Op). OpSteps g.S.PageStore op (Scan c.step-in-Scan.new.self) c.args.store.now c.step-in-Scan.new.store (Refused c.in-Err-step.fault)) (sym c.in-Scan.is)
    (refused_steps g.S.PageStore (Scan before) (Scan c.step-in-Scan.new.self) c.args.store.now c.step-in-Scan.new.store c.in-Err-step.fault told.steps
    told.kept told.refused.state (ap (λ (op : ScanOp). Scan op) told.refused.op)
    (λ is_stopped. told_stopped c.in-Err-step.fault (told.stopped is_stopped))
    (scan_told_waiting _ _ _ before c.step-in-Scan.new.self c.in-Err-step.fault told.waits) c.in-Err-step.ensures.faults tt)

pub returns-in-Err-step-2-clause-all : goal.returns-in-Err-step-2-clause-all
returns-in-Err-step-2-clause-all g c =
    let before = c.in-Bulk.op in
    let told = c.in-Err-step-2.ensures.all in
    subst (λ (op : Op). OpSteps g.S.PageStore op (Bulk c.in-Bulk.set c.step-in-Some.new.self) c.args.store.now c.step-in-Some.new.store (Refused c.in-Err-step-2.fault)) (sym c.in-Bulk.is)
    (refused_steps g.S.PageStore (Bulk c.in-Bulk.set before) (Bulk c.in-Bulk.set c.step-in-Some.new.self) c.args.store.now c.step-in-Some.new.store
    c.in-Err-step-2.fault told.steps told.kept told.refused.state (ap (λ (op : BulkDeleteOp). Bulk c.in-Bulk.set op) told.refused.op)
    (λ is_stopped. told_stopped c.in-Err-step-2.fault (told.stopped is_stopped)) (λ alive some. absurd (some refl))
    (bulk_cause c.in-Err-step-2.fault c.in-Err-step-2.ensures.faults) tt)

pub returns-in-Err-step-3-clause-all : goal.returns-in-Err-step-3-clause-all
returns-in-Err-step-3-clause-all g c =
    let before = c.in-Cleanup.op in
    let told = c.in-Err-step-3.ensures.all in
    subst (λ (op : Op). OpSteps g.S.PageStore op (Cleanup c.step-in-Cleanup.new.self) c.args.store.now c.step-in-Cleanup.new.store (Refused c.in-Err-step-3.fault)) (sym c.in-Cleanup.is)
    (refused_steps g.S.PageStore (Cleanup before) (Cleanup c.step-in-Cleanup.new.self) c.args.store.now c.step-in-Cleanup.new.store
    c.in-Err-step-3.fault told.steps told.kept told.refused.state (ap (λ (op : CleanupOp). Cleanup op) told.refused.op)
    (λ is_stopped. told_stopped c.in-Err-step-3.fault (told.stopped is_stopped)) (λ alive some. absurd (some refl))
    c.in-Err-step-3.ensures.faults tt)

pub returns-in-Err-step-2-clause-entries : goal.returns-in-Err-step-2-clause-entries
returns-in-Err-step-2-clause-entries g c honest =
    let told = c.in-Err-step-2.ensures.all.refused in
    rw c.in-Bulk.is (λ counted. (
      rw (told.state, told.op) (counted_still (map g.T.DeadRows.is_in c.args.sets.now) (g.S.PageStore.state c.args.store.now) c.in-Bulk.set c.in-Bulk.op c.in-Err-step-2.fault counted),
      tt,
    ))

pub returns-in-Err-step-3-clause-entries : goal.returns-in-Err-step-3-clause-entries
returns-in-Err-step-3-clause-entries g c honest =
    let told = c.in-Err-step-3.ensures.all.refused in
    rw c.in-Cleanup.is (λ fits cleaned. (
      rw (told.state, told.op) (cleaned_still (map g.T.DeadRows.is_in c.args.sets.now) (g.S.PageStore.state c.args.store.now) c.in-Cleanup.op c.in-Err-step-3.fault cleaned),
      tt,
    ))
