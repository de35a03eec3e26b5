use Rattle.std.proofs.Common.{◌∙◌, ◌-◌, ◌*◌, ◌≤◌, arith}
use Rattle.std.proofs.lemmas.List.{take-replicate}
use Rattle.recovery.proofs.Imports.{AtEachMoment, ChangesOnly, place}
use Rattle.recovery.proofs.Creating.{only_now, more_goes}
use Rattle.recovery.proofs.Batches.{zeros_more, zeros_written, zeros_there}
use Rattle.recovery.proofs.creation.place_zeros.Given.{Over}
use Rattle.recovery.proofs.creation.place_zeros.Goals.{After-place}
use Rattle.recovery.proofs.creation.place_zeros.Goals as goal

-- some blocks more are written
module _ (g : Over) (c : After-place g) where
  short : 4096 * (c.min-end.result - c.loop-block.block) ≤ 65536
  short = omega (arith, c.min-end.ensures, c.loop-block-test.true)

  written : AtEachMoment (ChangesOnly (place c.args.format.now c.loop-block.block) (4096 * (c.min-end.result - c.loop-block.block)) (g.D.Device.trace c.loop-block.device).now)
      (g.D.Device.trace c.loop-block.device) (g.D.Device.trace c.place.new.device)
  written = zeros_written c.args.format.now c.loop-block.block c.min-end.result _ _ c.page_place.ensures (take-replicate (4096 * (c.min-end.result - c.loop-block.block)) 65536 0 short) _ _ c.place.ensures.moments

  more : AtEachMoment (ChangesOnly (place c.args.format.now 2) (4096 * (c.args.format.now.pages - 2)) (g.D.Device.trace c.args.device.now).now)
      (g.D.Device.trace c.args.device.now) (g.D.Device.trace c.place.new.device)
  more =
      more_goes (place c.args.format.now c.loop-block.block) (4096 * (c.min-end.result - c.loop-block.block)) (place c.args.format.now 2) (4096 * (c.args.format.now.pages - 2)) _ (g.D.Device.trace c.loop-block.device) _
      (omega (arith, c.loop-block.invariant.from)) (omega (arith, c.loop-block.invariant.from, c.min-end.ensures, c.loop-block-test.true)) c.loop-block.invariant.moments written

pub returns-in_err-place-clause-moments : goal.returns-in_err-place-clause-moments
returns-in_err-place-clause-moments g c = more g (goal.at.returns-in_err-place-clause-moments g c).After-place

pub loop-block-preserved : goal.loop-block-preserved
loop-block-preserved g c =
    let c' = (goal.at.loop-block-preserved g c).After-place in
    record {
      from = omega (arith, c.loop-block.invariant.from, c.min-end.ensures, c.loop-block-test.true);
      few = omega (arith, c.min-end.ensures);
      there = zeros_more c.args.format.now c.loop-block.block c.min-end.result _ _ (omega (arith, c.min-end.ensures, c.loop-block-test.true)) c.loop-block.invariant.there
          (zeros_there c.args.format.now c.loop-block.block c.min-end.result _ _ c.page_place.ensures (take-replicate (4096 * (c.min-end.result - c.loop-block.block)) 65536 0 (short g c')) _ c.in_ok-place.ensures.there)
          (only_now _ (4096 * (c.min-end.result - c.loop-block.block)) (g.D.Device.trace c.loop-block.device) _ (written g c'));
      moments = more g c';
      len = c.place.ensures.calls.len ∙ c.loop-block.invariant.len;
      honest = c.place.ensures.calls.honest ∙ c.loop-block.invariant.honest;
      failures = c.in_ok-place.ensures.calls.failures ∙ c.loop-block.invariant.failures;
    }

pub returns-clause-there : goal.returns-clause-there
returns-clause-there g c = λ block low high. c.loop-block.invariant.there block low (omega (arith, c.loop-block-test.false))
