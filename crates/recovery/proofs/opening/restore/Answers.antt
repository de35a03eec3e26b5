use Rattle.std.proofs.Common.{IsTrue, List, sym, ap, subst}
use Rattle.recovery.proofs.Restoring.{sync_leaves}
use Rattle.recovery.proofs.Blocks.{refused}
use Rattle.recovery.proofs.Answering.{firm_then, restarts_then, log_refuses, opened_in_use, pages_refuse, same_pages}
use Rattle.recovery.proofs.opening.restore.Given.{Over}
use Rattle.recovery.proofs.opening.restore.Goals.{After-restore_log, After-read_pages}
use Rattle.recovery.proofs.Imports.{Trace, AtEachMoment, goes_on, Page, StandsOpened, RestartsTo, CrashesToPages, IsIoOr, HasGroups, IsSynced, IsRestoreRefusal, ChangesAfterFront}
use Rattle.recovery.proofs.Outside.{after_on, sync_inside}
use Rattle.recovery.proofs.opening.restore.Goals as goal

-- after the sync the same index stands, through a crash too
synced : (g : Over) (c : After-restore_log g) (pages : List Page) → RestartsTo c.args.format (g.D.Device.trace c.args.device.now).now.seen pages
    → IsSynced (g.D.Device.trace c.sync.new.self).now × RestartsTo c.args.format (g.D.Device.trace c.sync.new.self).now.seen pages
synced g c pages restarts =
    let t = g.D.Device.trace c.args.device.now in
    let u = g.D.Device.trace c.sync.new.self in
    let is = c.in_ok-sync.ensures.trace in
    (firm_then c.args.format t u is, restarts_then c.args.format t u is pages restarts)

-- a crash leaves it while the log is restored
log_leaves : (g : Over) (c : After-restore_log g) → IsTrue (g.D.Device.is_honest c.restore_log.new.device) → (pages : List Page)
    → RestartsTo c.args.format (g.D.Device.trace c.args.device.now).now.seen pages
    → AtEachMoment (CrashesToPages c.args.format pages) (g.D.Device.trace c.args.device.now) (g.D.Device.trace c.restore_log.new.device)
log_leaves g c honest pages restarts =
    let here = synced g c pages restarts in
    goes_on _ (g.D.Device.trace c.args.device.now) (g.D.Device.trace c.sync.new.self) _ (sync_leaves c.args.format pages c.sync.result _ _ restarts c.sync.ensures.trace)
    (c.restore_log.ensures.moments honest here.0 pages here.1)

-- ... and while the pages are read
pages_leave : (g : Over) (c : After-read_pages g) → IsTrue (g.D.Device.is_honest c.read_pages.new.device) → (pages : List Page)
    → RestartsTo c.args.format (g.D.Device.trace c.args.device.now).now.seen pages
    → AtEachMoment (CrashesToPages c.args.format pages) (g.D.Device.trace c.args.device.now) (g.D.Device.trace c.read_pages.new.device)
pages_leave g c honest pages restarts =
    subst (λ (w : Trace). AtEachMoment (CrashesToPages c.args.format pages) (g.D.Device.trace c.args.device.now) w) (sym c.read_pages.ensures.calls.trace)
    (log_leaves g (goal.at.After-read_pages g c).After-restore_log (c.read_pages.ensures.calls.honest honest) pages restarts)

-- the log as it was opened
stands : (g : Over) (c : After-read_pages g) → IsTrue (g.D.Device.is_honest c.read_pages.new.device) → (pages : List Page)
    → RestartsTo c.args.format (g.D.Device.trace c.args.device.now).now.seen pages
    → StandsOpened c.in_ok-log.log (g.D.Device.trace c.restore_log.new.device).now pages
stands g c honest pages restarts =
    let here = synced g (goal.at.After-read_pages g c).After-restore_log pages restarts in
    c.in_ok-log.ensures.same (c.read_pages.ensures.calls.honest honest) here.0 pages here.1

pub returns-in_err-log-clause-same : goal.returns-in_err-log-clause-same
returns-in_err-log-clause-same g c = λ honest pages some restarts.
    let here = synced g (goal.at.returns-in_err-log-clause-same g c).After-restore_log pages restarts in
    refused c.from_residual-in_err-log.result c.in_err-log.field-0.0 _ _ c.from_residual-in_err-log.ensures.1 (c.in_err-log.ensures.same honest here.0 pages here.1)

pub returns-in_err-log-clause-moments : goal.returns-in_err-log-clause-moments
returns-in_err-log-clause-moments g c = log_leaves g (goal.at.returns-in_err-log-clause-moments g c).After-restore_log

pub returns-in_err-log-clause-cause : goal.returns-in_err-log-clause-cause
returns-in_err-log-clause-cause g c =
    let t = g.D.Device.trace c.args.device.now in
    let v = g.D.Device.trace c.restore_log.new.device in
    let honest = g.D.Device.is_honest c.restore_log.new.device in
    refused c.from_residual-in_err-log.result c.in_err-log.field-0.0 _
    (IsIoOr (IsRestoreRefusal c.args.format honest t v) (g.D.Device.failures c.args.device.now) (g.D.Device.failures c.restore_log.new.device)) c.from_residual-in_err-log.ensures.1
    (log_refuses c.args.format t (g.D.Device.trace c.sync.new.self) c.in_ok-sync.ensures.trace honest v c.in_err-log.field-0.0 _ _ _
    c.in_ok-sync.ensures.failures c.in_err-log.ensures.cause c.in_err-log.ensures.damaged)

pub returns-in_err-found-clause-same : goal.returns-in_err-found-clause-same
returns-in_err-found-clause-same g c = λ honest pages some restarts.
    let here = stands g (goal.at.returns-in_err-found-clause-same g c).After-read_pages honest pages restarts in
    let use' = opened_in_use c.args.format pages c.in_ok-log.log (g.D.Device.trace c.restore_log.new.device).now
    (g.D.Device.trace c.args.device.now).now.seen c.in_ok-log.ensures.opened restarts here in
    refused c.from_residual-in_err-found.result c.in_err-found.field-0.0 _ _ c.from_residual-in_err-found.ensures.1
    (pages_refuse c.args.format pages _ (g.D.Device.trace c.restore_log.new.device).now.seen c.in_err-found.field-0.0 _ _ honest use' some c.in_err-found.ensures.cause)

pub returns-in_err-found-clause-moments : goal.returns-in_err-found-clause-moments
returns-in_err-found-clause-moments g c = pages_leave g (goal.at.returns-in_err-found-clause-moments g c).After-read_pages

pub returns-clause-same : goal.returns-clause-same
returns-clause-same g c = λ honest pages some restarts.
    same_pages c.args.format (g.D.Device.is_honest c.read_pages.new.device) pages (g.D.Device.trace c.restore_log.new.device).now (g.D.Device.trace c.read_pages.new.device).now
    (g.D.Device.trace c.args.device.now).now.seen _ honest (ap (λ (w : Trace). w.now) c.read_pages.ensures.calls.trace)
    c.in_ok-log.ensures.opened restarts (stands g (goal.at.returns-clause-same g c).After-read_pages honest pages restarts) c.in_ok-found.ensures.read

pub returns-clause-moments : goal.returns-clause-moments
returns-clause-moments g c = pages_leave g (goal.at.returns-clause-moments g c).After-read_pages

pub returns-clause-undamaged : goal.returns-clause-undamaged
returns-clause-undamaged g c = λ honest. subst (λ (w : Trace). HasGroups c.args.format w.now.seen) c.in_ok-sync.ensures.trace (c.in_ok-log.ensures.undamaged (c.read_pages.ensures.calls.honest honest))

-- a sync writes nothing
synced_inside : (g : Over) (c : After-restore_log g) → ChangesAfterFront c.args.format (g.D.Device.trace c.args.device.now) (g.D.Device.trace c.sync.new.self)
synced_inside g c = sync_inside c.args.format c.sync.result _ _ c.sync.ensures.trace

log_inside : (g : Over) (c : After-restore_log g) → ChangesAfterFront c.args.format (g.D.Device.trace c.args.device.now) (g.D.Device.trace c.restore_log.new.device)
log_inside g c = after_on c.args.format _ _ _ (synced_inside g c) c.restore_log.ensures.outside

pages_inside : (g : Over) (c : After-read_pages g) → ChangesAfterFront c.args.format (g.D.Device.trace c.args.device.now) (g.D.Device.trace c.read_pages.new.device)
pages_inside g c =
    subst (λ (w : Trace). ChangesAfterFront c.args.format (g.D.Device.trace c.args.device.now) w) (sym c.read_pages.ensures.calls.trace)
    (log_inside g (goal.at.After-read_pages g c).After-restore_log)

pub returns-in_err-sync-clause-outside : goal.returns-in_err-sync-clause-outside
returns-in_err-sync-clause-outside g c = sync_inside c.args.format c.sync.result _ _ c.sync.ensures.trace

pub returns-in_err-log-clause-outside : goal.returns-in_err-log-clause-outside
returns-in_err-log-clause-outside g c = log_inside g (goal.at.returns-in_err-log-clause-outside g c).After-restore_log

pub returns-in_err-found-clause-outside : goal.returns-in_err-found-clause-outside
returns-in_err-found-clause-outside g c = pages_inside g (goal.at.returns-in_err-found-clause-outside g c).After-read_pages

pub returns-clause-outside : goal.returns-clause-outside
returns-clause-outside g c = pages_inside g (goal.at.returns-clause-outside g c).After-read_pages
