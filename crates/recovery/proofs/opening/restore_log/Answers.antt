use Rattle.std.proofs.Common.{◌∙◌, IsTrue, Err, List, length, ap, subst, arith}
use Rattle.recovery.proofs.Restoring.{IsReplayed, named_from, written_leaves, closed_goes, closed_stands, replay_refuses}
use Rattle.recovery.proofs.opening.restore_log.Given.{Over}
use Rattle.recovery.proofs.opening.restore_log.Goals.{After-bring_home, After-reset}
use Rattle.recovery.proofs.Imports.{Trace, AtEachMoment, goes_on, goes_weaker, Format, Page, RestartsTo, CrashesToPages, ChangesNamed, AreHomed, IsSynced, ChangesItsRange, ChangesAfterFront}
use Rattle.recovery.proofs.Outside.{named_inside, log_inside, after_on, same_inside}
use Rattle.redo_log.proofs.Keeping.{none_ajar}
use Rattle.recovery.proofs.opening.restore_log.Goals as goal

pub returns-in-Err-clause-same : goal.returns-in-Err-clause-same
returns-in-Err-clause-same g c = λ honest firm pages restarts.
    replay_refuses c.args.format (g.D.Device.trace c.args.device.now).now pages c.in-Err.fault _ _ c.in-Err.ensures.cause (λ is. c.replay.ensures.damaged (c.in-Err.is ∙ ap Err is) honest) restarts

pub returns-in-Err-clause-damaged : goal.returns-in-Err-clause-damaged
returns-in-Err-clause-damaged g c = λ is. (c.replay.ensures.trace, λ honest. c.replay.ensures.damaged (c.in-Err.is ∙ ap Err is) honest)

-- an index whose log was replayed
abbrev ReplayedIndex : (g : Over) → After-bring_home g → List Page → Type 0
ReplayedIndex g c pages = IsReplayed c.args.format c.in-Ok.ensures.ok.images pages c.in-Ok.found (g.D.Device.trace c.args.device.now)

index : (g : Over) (c : After-bring_home g) → IsTrue (g.D.Device.is_honest c.bring_home.new.device) → IsSynced (g.D.Device.trace c.args.device.now).now
    → (pages : List Page) → RestartsTo c.args.format (g.D.Device.trace c.args.device.now).now.seen pages → ReplayedIndex g c pages
index g c honest firm pages restarts = record {
  firm = firm;
  restarts = restarts;
  opened = c.in-Ok.ensures.opened;
  lasts = c.in-Ok.ensures.ok.lasts;
  replays = c.in-Ok.ensures.ok.replays (subst IsTrue c.bring_home.ensures.calls.honest honest);
  law = c.keeping_law.ensures.keeps;
  leaves = c.keeping_law.ensures.restarts;
}

-- while its images are brought home only places of their blocks change
named : (g : Over) (c : After-bring_home g)
    → AtEachMoment (ChangesNamed c.args.format c.in-Ok.found (g.D.Device.trace c.args.device.now).now) (g.D.Device.trace c.args.device.now) (g.D.Device.trace c.bring_home.new.device)
named g c =
    named_from c.args.format c.in-Ok.found _ (g.D.Device.trace c.replay.new.device) _ c.replay.ensures.trace c.bring_home.ensures.moments

-- so a crash leaves the index
home_leaves : (g : Over) (c : After-bring_home g) (pages : List Page) → ReplayedIndex g c pages
    → AtEachMoment (CrashesToPages c.args.format pages) (g.D.Device.trace c.args.device.now) (g.D.Device.trace c.bring_home.new.device)
home_leaves g c pages r = goes_weaker _ _ _ (g.D.Device.trace c.bring_home.new.device) (written_leaves _ _ _ _ _ r) (named g c)

pub returns-in_err-bring_home-clause-moments : goal.returns-in_err-bring_home-clause-moments
returns-in_err-bring_home-clause-moments g c = λ honest firm pages restarts.
    let c' = (goal.at.returns-in_err-bring_home-clause-moments g c).After-bring_home in
    home_leaves g c' pages (index g c' honest firm pages restarts)

pub reset-requires : goal.reset-requires
reset-requires g c =
    let is = c.in-Ok.ensures.opened.format_is in
    record { range = omega (arith, ap (λ (l : Format). l.log_bytes) is, c.bring_home.ensures.calls.len, ap (λ (t : Trace). length t.now.seen) c.replay.ensures.trace, c.requires.inside); shut = none_ajar c.in-Ok.found.log c.in-Ok.ensures.opened.waiting }

-- the same while the log is closed, and it stands then
module _ (g : Over) (c : After-reset g) where
  abbrev found : After-bring_home g
  found = (goal.at.After-reset g c).After-bring_home

  reset_index : IsTrue (g.D.Device.is_honest c.reset.new.device) → IsSynced (g.D.Device.trace c.args.device.now).now
      → (pages : List Page) → RestartsTo c.args.format (g.D.Device.trace c.args.device.now).now.seen pages → ReplayedIndex g found pages
  reset_index honest = index g found (subst IsTrue c.reset.ensures.honest honest)

  homed : AreHomed c.args.format c.in-Ok.found (g.D.Device.trace c.bring_home.new.device).now
  homed = c.in_ok-bring_home.ensures.home

  reset_leaves : (pages : List Page) → ReplayedIndex g found pages → AtEachMoment (CrashesToPages c.args.format pages) (g.D.Device.trace c.args.device.now) (g.D.Device.trace c.reset.new.device)
  reset_leaves pages r =
      goes_on _ _ (g.D.Device.trace c.bring_home.new.device) (g.D.Device.trace c.reset.new.device) (home_leaves g found pages r)
      (closed_goes _ _ _ _ _ r (g.D.Device.trace c.bring_home.new.device) (g.D.Device.trace c.reset.new.device) (named g found) homed c.reset.ensures.moments c.reset.ensures.outside)

pub returns-in_err-reset-clause-moments : goal.returns-in_err-reset-clause-moments
returns-in_err-reset-clause-moments g c = λ honest firm pages restarts.
    let c' = (goal.at.returns-in_err-reset-clause-moments g c).After-reset in
    reset_leaves g c' pages (reset_index g c' honest firm pages restarts)

pub returns-clause-moments : goal.returns-clause-moments
returns-clause-moments g c = λ honest firm pages restarts.
    (let c' = (goal.at.returns-clause-moments g c).After-reset in reset_leaves g c' pages (reset_index g c' honest firm pages restarts))

pub returns-clause-same : goal.returns-clause-same
returns-clause-same g c = λ honest firm pages restarts.
    let c' = (goal.at.returns-clause-same g c).After-reset in
    closed_stands _ _ _ _ _ (reset_index g c' honest firm pages restarts) (g.D.Device.trace c.bring_home.new.device) (g.D.Device.trace c.reset.new.device) (named g (found g c')) (homed g c')
    c.reset.ensures.moments c.reset.ensures.outside c.reset.new.self c.reset.ensures.same.format c.reset.ensures.waiting c.in_ok-reset.ensures.keeps

pub returns-clause-undamaged : goal.returns-clause-undamaged
returns-clause-undamaged g c = λ honest. (let found = c.in-Ok.ensures.ok.replays (subst IsTrue (c.reset.ensures.honest ∙ c.bring_home.ensures.calls.honest) honest) in (found.groups, found.spells))

-- nothing but the log and the pages is written
home_inside : (g : Over) (c : After-bring_home g) → ChangesAfterFront c.args.format (g.D.Device.trace c.args.device.now) (g.D.Device.trace c.bring_home.new.device)
home_inside g c = named_inside c.args.format c.in-Ok.found _ _ (named g c)

pub returns-in-Err-clause-outside : goal.returns-in-Err-clause-outside
returns-in-Err-clause-outside g c = same_inside c.args.format _ _ c.replay.ensures.trace

pub returns-in_err-bring_home-clause-outside : goal.returns-in_err-bring_home-clause-outside
returns-in_err-bring_home-clause-outside g c = home_inside g (goal.at.returns-in_err-bring_home-clause-outside g c).After-bring_home

reset_inside : (g : Over) (c : After-reset g) → ChangesAfterFront c.args.format (g.D.Device.trace c.args.device.now) (g.D.Device.trace c.reset.new.device)
reset_inside g c =
    let range = subst (λ (format : Format). ChangesItsRange format (g.D.Device.trace c.bring_home.new.device) (g.D.Device.trace c.reset.new.device))
    c.in-Ok.ensures.opened.format_is c.reset.ensures.outside in
    after_on c.args.format _ _ _ (home_inside g (found g c)) (log_inside c.args.format _ _ range)

pub returns-in_err-reset-clause-outside : goal.returns-in_err-reset-clause-outside
returns-in_err-reset-clause-outside g c = reset_inside g (goal.at.returns-in_err-reset-clause-outside g c).After-reset

pub returns-clause-outside : goal.returns-clause-outside
returns-clause-outside g c = reset_inside g (goal.at.returns-clause-outside g c).After-reset
