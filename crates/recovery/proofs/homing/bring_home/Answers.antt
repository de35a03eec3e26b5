use Rattle.device.proofs.Going.{goes_on, goes_now, syncs_goes}
use Rattle.recovery.proofs.Named.{same_named, named_synced}
use Rattle.recovery.proofs.homing.bring_home.Goals as goal

pub returns-clause-moments : goal.returns-clause-moments
returns-clause-moments g c =
    let trace = g.D.Device.trace in
    let start = trace c.args.device.now in
    let middle = trace c.write_images.new.device in
    let now = goes_now _ start middle c.write_images.ensures.moments (same_named c.args.format c.args.found.now start.now) in
    goes_on _ start middle (trace c.sync.new.self) c.write_images.ensures.moments
    (syncs_goes _ c.sync.result middle (trace c.sync.new.self) c.sync.ensures.trace (named_synced c.args.format c.args.found.now start.now middle.now now))
