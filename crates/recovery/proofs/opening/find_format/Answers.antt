use Rattle.std.proofs.Common.{length, inr, ap, sym, arith}
use Rattle.device.specs.Disk.{Trace}
use Rattle.recovery.proofs.Blocks.{refused}
use Rattle.recovery.proofs.Fronts.{no_superblock, too_short}
use Rattle.recovery.proofs.opening.find_format.Goals as goal

pub returns-in_err-format-clause-cause : goal.returns-in_err-format-clause-cause
returns-in_err-format-clause-cause g c =
    refused c.from_residual-in_err-format.result c.in_err-format.field-0.0 _ _ c.from_residual-in_err-format.ensures.1
    (inr (
      no_superblock (g.D.Device.is_honest c.read_at.new.self) c.args.frames (g.D.Device.trace c.args.device.now).now.seen c.read_at.new.buf
          (omega (arith, c.if-frames-lt16.false), omega (arith, c.if-frames-gt1024.false)) (omega (arith, c.len.ensures, c.if-len-lt4096.false))
          (λ h. sym (c.in_ok-read_at.ensures.read h)) c.in_err-format.field-0.0 c.in_err-format.ensures.fault,
      c.in_ok-read_at.ensures.failures,
    ))

pub returns-then-len-page_place-clause-cause : goal.returns-then-len-page_place-clause-cause
returns-then-len-page_place-clause-cause g c =
    inr (
      too_short (g.D.Device.is_honest c.read_at.new.self) c.args.frames (g.D.Device.trace c.args.device.now).now.seen c.read_at.new.buf
          (omega (arith, c.if-frames-lt16.false), omega (arith, c.if-frames-gt1024.false)) (omega (arith, c.len.ensures, c.if-len-lt4096.false))
          (λ h. sym (c.in_ok-read_at.ensures.read h)) c.in_ok-format.format c.in_ok-format.ensures.allowed c.in_ok-format.ensures.found
          (omega (arith, c.if-len-page_place.true, c.page_place.ensures, c.len-2.ensures, ap (λ (t : Trace). length t.now.seen) c.in_ok-read_at.ensures.trace)),
      c.in_ok-read_at.ensures.failures,
    )
