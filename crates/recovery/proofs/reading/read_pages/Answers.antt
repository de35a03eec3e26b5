use Rattle.std.proofs.Common.{ℕ, inr, refl, subst, arith}
use Rattle.recovery.specs.Reading.{IsEnd}
use Rattle.recovery.proofs.Blocks.{none_in_use}
use Rattle.recovery.proofs.reading.read_pages.Goals as goal

pub returns-then-used-eq0-clause-cause : goal.returns-then-used-eq0-clause-cause
returns-then-used-eq0-clause-cause g c =
    let format = c.args.format in
    let file = (g.D.Device.trace c.args.device.now).now.seen in
    inr (
      inr (
        0,
        refl,
        λ honest.
            none_in_use format file (omega (arith, c.requires.allowed.pages_from))
            (subst (λ (n : ℕ). IsEnd format n file) c.if-used-eq0.true (c.in_ok-used.ensures.end honest)),
      ),
      c.in_ok-used.ensures.cause,
    )
