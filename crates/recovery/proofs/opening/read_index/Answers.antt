use Rattle.std.proofs.Common.{◌≡◌, ◌≤◌, List, ⊎_elim, inl, inr, length, sym, ap, subst, arith}
use Rattle.recovery.proofs.Imports.{Trace, AtEachMoment, Format, place, CrashesToPages, RestartsTo, Page, HasIndex}
use Rattle.recovery.proofs.Blocks.{refused}
use Rattle.recovery.proofs.Answering.{front_of, one_front, found_same, found_index, fails_after, restore_refuses}
use Rattle.recovery.proofs.opening.read_index.Given.{Over}
use Rattle.recovery.proofs.opening.read_index.Goals.{After-restore}
use Rattle.recovery.proofs.Outside.{one_index}
use Rattle.recovery.proofs.opening.read_index.Goals as goal

pub returns-in_err-format-clause-same : goal.returns-in_err-format-clause-same
returns-in_err-format-clause-same g c = λ honest frames format pages index.
    refused c.from_residual.result c.in_err-format.field-0.0 _ _ c.from_residual.ensures.1 (inr (c.in_err-format.ensures.only frames honest format (front_of format pages _ index)))

pub returns-in_err-format-clause-cause : goal.returns-in_err-format-clause-cause
returns-in_err-format-clause-cause g c =
    refused c.from_residual.result c.in_err-format.field-0.0 _ _ c.from_residual.ensures.1
    (⊎_elim (λ io. inl io) (λ front. inr (inl (front.0, c.find_format.ensures.calls.trace), front.1)) c.in_err-format.ensures.cause)

-- the index, by the sizes that were found
index_found : (g : Over) (c : After-restore g) (format : Format) (pages : List Page) → c.in_ok-format.format ≡ format → HasIndex format pages (g.D.Device.trace c.args.device.now).now.seen
    → RestartsTo c.in_ok-format.format (g.D.Device.trace c.find_format.new.device).now.seen pages
index_found g c format pages is index =
    subst (λ (u : Trace). RestartsTo c.in_ok-format.format u.now.seen pages) (sym c.find_format.ensures.calls.trace)
    (subst (λ (l : Format). RestartsTo l (g.D.Device.trace c.args.device.now).now.seen pages) (sym is) index.restarts)

pub returns-clause-same : goal.returns-clause-same
returns-clause-same g c = λ honest frames format pages index.
    let is = c.in_ok-format.ensures.only frames (c.restore.ensures.calls.honest honest) format (front_of format pages _ index) in
    found_same c.restore.result c.in_ok-format.format format pages (g.D.Device.is_honest c.restore.new.device) _ _ is c.restore.ensures.restored
    (c.restore.ensures.same honest pages index.some (index_found g (goal.at.returns-clause-same g c).After-restore format pages is index))

pub returns-clause-moments : goal.returns-clause-moments
returns-clause-moments g c = λ honest format pages index.
    let t = g.D.Device.trace c.args.device.now in
    let v = g.D.Device.trace c.restore.new.device in
    let found = c.in_ok-format.format in
    let is = one_front found format t.now.seen (c.in_ok-format.ensures.front (c.restore.ensures.calls.honest honest)) (front_of format pages t.now.seen index) in
    let moments = c.restore.ensures.moments honest pages (index_found g (goal.at.returns-clause-moments g c).After-restore format pages is index) in
    subst (λ (l : Format). AtEachMoment (CrashesToPages l pages) t v) is (subst (λ (u : Trace). AtEachMoment (CrashesToPages found pages) u v) c.find_format.ensures.calls.trace moments)

pub returns-clause-cause : goal.returns-clause-cause
returns-clause-cause g c =
    fails_after c.restore.result _ _ _ _ _ c.in_ok-format.ensures.cause
    (λ e why. restore_refuses c.in_ok-format.format (g.D.Device.is_honest c.restore.new.device) (g.D.Device.is_honest c.find_format.new.device)
    c.args.frames (g.D.Device.trace c.args.device.now) (g.D.Device.trace c.find_format.new.device)
    (g.D.Device.trace c.restore.new.device) e _ _ _ c.in_ok-format.ensures.frames c.restore.ensures.calls.honest c.in_ok-format.ensures.front
    c.find_format.ensures.calls.trace c.in_ok-format.ensures.cause why)
    c.restore.ensures.cause

pub returns-clause-found : goal.returns-clause-found
returns-clause-found g c =
    let long : place c.in_ok-format.format c.in_ok-format.format.pages ≤ length (g.D.Device.trace c.restore.new.device).now.seen =
    omega (arith, c.restore.ensures.calls.len, ap (λ (t : Trace). length t.now.seen) c.find_format.ensures.calls.trace, c.in_ok-format.ensures.long) in
    found_index c.restore.result c.in_ok-format.format (g.D.Device.is_honest c.restore.new.device) (g.D.Device.trace c.args.device.now)
    (g.D.Device.trace c.find_format.new.device) (g.D.Device.trace c.restore.new.device).now.seen
    c.find_format.ensures.calls.trace c.in_ok-format.ensures.allowed long
    (λ honest. c.in_ok-format.ensures.front (c.restore.ensures.calls.honest honest)) c.restore.ensures.restored c.restore.ensures.undamaged

pub returns-clause-outside : goal.returns-clause-outside
returns-clause-outside g c =
    inr (one_index c.in_ok-format.format _ (g.D.Device.trace c.args.device.now) (g.D.Device.trace c.find_format.new.device) _ c.in_ok-format.ensures.allowed c.in_ok-format.ensures.long
    (λ honest. c.in_ok-format.ensures.front (c.restore.ensures.calls.honest honest)) c.find_format.ensures.calls.trace c.restore.ensures.outside)
