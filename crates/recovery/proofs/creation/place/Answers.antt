use Rattle.std.proofs.Common.{ℕ, subst, arith}
use Rattle.recovery.proofs.Imports.{wrote, ChangesOnly, writes_goes, wrote_only}
use Rattle.recovery.proofs.creation.place.Goals as goal

pub returns-clause-moments : goal.returns-clause-moments
returns-clause-moments g c =
    let at = c.args.at in
    let start = (g.D.Device.trace c.args.device.now).now in
    writes_goes _ at c.args.bytes.now c.write_at.result (g.D.Device.trace c.args.device.now) (g.D.Device.trace c.write_at.new.self) c.write_at.ensures.trace
    (λ b same. subst (λ (n : ℕ). ChangesOnly at n start (wrote at b start)) same (wrote_only at b start (omega (arith, same, c.requires.inside))))
