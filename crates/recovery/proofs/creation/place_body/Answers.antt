use Rattle.std.proofs.Common.{ℕ, ◌+◌, ◌-◌, ◌*◌, arith}
use Rattle.recovery.proofs.Creating.{only_now, wider_goes, more_goes, synced_goes, body_made}
use Rattle.recovery.proofs.creation.place_body.Given.{Over}
use Rattle.recovery.proofs.creation.place_body.Goals.{After-place, After-place_pages}
use Rattle.recovery.proofs.Imports.{AtEachMoment, ChangesOnly, place, Format, SameLogBytes}
use Rattle.recovery.proofs.Outside.{untouched_on, sync_untouched, gate_keeps, pages_keep}
use Rattle.recovery.proofs.creation.place_body.Goals as goal

-- the bytes after the superblock
abbrev body_len : Format → ℕ
body_len format = format.log_bytes + 4096 * format.pages

-- the gate is one of them
gate_goes : (g : Over) (c : After-place g)
    → AtEachMoment (ChangesOnly 4096 (body_len c.args.format.now) (g.D.Device.trace c.args.device.now).now) (g.D.Device.trace c.args.device.now) (g.D.Device.trace c.place.new.device)
gate_goes g c = wider_goes 4096 1 4096 (body_len c.args.format.now) _ _ (omega arith) (omega (arith, c.requires.allowed.log_from)) c.place.ensures.moments

-- and so are the pages
pages_go : (g : Over) (c : After-place_pages g)
    → AtEachMoment (ChangesOnly 4096 (body_len c.args.format.now) (g.D.Device.trace c.args.device.now).now) (g.D.Device.trace c.args.device.now) (g.D.Device.trace c.place_pages.new.device)
pages_go g c =
    let format = c.args.format.now in
    more_goes (place format 0) (4096 * format.pages) 4096 (body_len format) _ _ _ (omega arith) (omega arith) (gate_goes g (goal.at.After-place_pages g c).After-place) c.place_pages.ensures.moments

pub returns-in_err-place-clause-moments : goal.returns-in_err-place-clause-moments
returns-in_err-place-clause-moments g c = gate_goes g (goal.at.returns-in_err-place-clause-moments g c).After-place

pub returns-in_err-place_pages-clause-moments : goal.returns-in_err-place_pages-clause-moments
returns-in_err-place_pages-clause-moments g c = pages_go g (goal.at.returns-in_err-place_pages-clause-moments g c).After-place_pages

pub returns-clause-there : goal.returns-clause-there
returns-clause-there g c =
    body_made c.args.format.now c.sync.result _ _ _ c.in_ok-place.ensures.there
    (only_now (place c.args.format.now 0) (4096 * c.args.format.now.pages) _ _ c.place_pages.ensures.moments) c.in_ok-place_pages.ensures.there
    (omega (arith, c.requires.allowed.log_from)) c.sync.ensures.trace

pub returns-clause-moments : goal.returns-clause-moments
returns-clause-moments g c = synced_goes 4096 (body_len c.args.format.now) c.sync.result _ _ _ (pages_go g (goal.at.returns-clause-moments g c).After-place_pages) c.sync.ensures.trace

-- the bytes of the log after the gate stay
gate_stays : (g : Over) (c : After-place g) → SameLogBytes c.args.format.now (g.D.Device.trace c.args.device.now) (g.D.Device.trace c.place.new.device)
gate_stays g c = gate_keeps c.args.format.now _ _ c.place.ensures.moments

pages_stay : (g : Over) (c : After-place_pages g) → SameLogBytes c.args.format.now (g.D.Device.trace c.args.device.now) (g.D.Device.trace c.place_pages.new.device)
pages_stay g c =
    untouched_on 4097 (c.args.format.now.log_bytes - 1) _ _ _ (gate_stays g (goal.at.After-place_pages g c).After-place)
    (pages_keep c.args.format.now _ _ (omega (arith, c.requires.allowed.log_from)) c.place_pages.ensures.moments)

pub returns-in_err-place-clause-log : goal.returns-in_err-place-clause-log
returns-in_err-place-clause-log g c = gate_stays g (goal.at.returns-in_err-place-clause-log g c).After-place

pub returns-in_err-place_pages-clause-log : goal.returns-in_err-place_pages-clause-log
returns-in_err-place_pages-clause-log g c = pages_stay g (goal.at.returns-in_err-place_pages-clause-log g c).After-place_pages

pub returns-clause-log : goal.returns-clause-log
returns-clause-log g c =
    untouched_on 4097 (c.args.format.now.log_bytes - 1) _ _ _ (pages_stay g (goal.at.returns-clause-log g c).After-place_pages)
    (sync_untouched 4097 (c.args.format.now.log_bytes - 1) c.sync.result _ _ c.sync.ensures.trace)
